-- What an answer about an auction claims of the mechanism of its mass table.
use Rattle.md_setting.specs.Auction.{SymmetricAuction}
use Rattle.md_setting.specs.General.{general_of}
use Rattle.md_mech.specs.declared.mechanism.Mechanism.{Mechanism}
use Rattle.md_mech.specs.Optimal.{IsOptimal}
use Rattle.md_border.specs.declared.interim.Interim.{Interim}
use Rattle.md_border.specs.Odds.{HasOdds, HasPays}
use Rattle.md_expost.specs.declared.masses.Masses.{Masses}
use Rattle.md_expost.specs.Mechanisms.{mechanism_of}

-- the mechanism of a mass table in which each bidder pays what the interim payments say of its value
abbrev pub mechanism_in : SymmetricAuction → Interim → Masses → Mechanism
mechanism_in a interim masses = mechanism_of a masses interim.pays

-- It is optimal over all mechanisms of the auction, of any denominator and with numbers of any size, those that treat bidders
-- differently among them, and it has exactly the odds and the payments.
pub record IsOptimalRule (a : SymmetricAuction) (interim : Interim) (masses : Masses) : Type 0 where
  pub optimal : IsOptimal (general_of a) (mechanism_in a interim masses)
  pub odds : HasOdds a (mechanism_in a interim masses) interim.den interim.odds
  pub pays : HasPays a (mechanism_in a interim masses) interim.den interim.pays
