-- What is measured of the interim odds and payments of a threshold auction.
use Rattle.std.specs.Prelude.{ℕ, ℤ, pos, ◌+ℤ◌, ◌*ℤ◌}
use Rattle.md_math.specs.Lists.{number_at}
use Rattle.md_setting.specs.Auction.{SymmetricAuction, total_weight}
use Rattle.md_border.specs.declared.interim.Interim.{Interim}
use Rattle.md_border.specs.Worth.{gain_of}
use Rattle.md_auction_report.specs.Averages.{of_all}
use Rattle.md_threshold.specs.declared.amount.Amount.{Amount}
use Rattle.md_threshold.specs.declared.amount.Amount.TheVariants.{Gain, Item, Payment}

-- what is measured of a bidder with the value v, in units of one over the denominator
abbrev pub amount_of : SymmetricAuction → Interim → Amount → ℕ → ℤ
amount_of a interim Gain v = gain_of a interim v
amount_of a interim Item v = number_at a.values v *ℤ number_at interim.odds v
amount_of a interim Payment v = number_at interim.pays v

-- what the bidders add to the objective, and what all units are worth where they are kept
abbrev pub worth_in : SymmetricAuction → ℕ → Interim → ℤ
worth_in a units interim = of_all a (gain_of a interim) +ℤ (a.keep *ℤ pos units) *ℤ (pos (total_weight a.weights) *ℤ interim.den)
