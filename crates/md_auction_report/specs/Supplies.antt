-- The mechanisms of what is sold to the bidders of an auction: one item, or several units of which each bidder wants one.
use Rattle.std.specs.Prelude.{ℤ, List}
use Rattle.md_setting.specs.Setting.{GeneralSetting}
use Rattle.md_setting.specs.Auction.{SymmetricAuction}
use Rattle.md_setting.specs.General.{general_of}
use Rattle.md_mech.specs.declared.mechanism.Mechanism.{Mechanism}
use Rattle.md_border.specs.Odds.{HasOdds, HasPays}
use Rattle.md_winners.specs.Setting.{units_of}
use Rattle.md_winners.specs.Odds.{HasUnitOdds, HasUnitPays}
use Rattle.md_answer.specs.declared.supply.Supply.{Supply}
use Rattle.md_answer.specs.declared.supply.Supply.TheVariants.{Item, Units}

-- the general setting of the sale
abbrev pub setting_of : Supply → SymmetricAuction → GeneralSetting
setting_of Item a = general_of a
setting_of (Units units) a = units_of a units

-- a mechanism of it in which bidders win on average as often as the odds over the denominator say, and one in which they pay what the payments say
abbrev pub HasOddsOf : Supply → SymmetricAuction → Mechanism → ℤ → List ℤ → Type 0
HasOddsOf Item a m den odds = HasOdds a m den odds
HasOddsOf (Units units) a m den odds = HasUnitOdds a units m den odds

abbrev pub HasPaysOf : Supply → SymmetricAuction → Mechanism → ℤ → List ℤ → Type 0
HasPaysOf Item a m den pays = HasPays a m den pays
HasPaysOf (Units units) a m den pays = HasUnitPays a units m den pays
