-- What a value of the code measures of a bidder.
use Rattle.std.specs.Prelude.{ℕ, ℤ, ◌*ℤ◌}
use Rattle.md_math.specs.Lists.{number_at}
use Rattle.md_setting.specs.Auction.{SymmetricAuction}
use Rattle.md_border.specs.declared.interim.Interim.{Interim}
use Rattle.md_auction_report.specs.declared.amount.Amount.{Amount}
use Rattle.md_auction_report.specs.declared.amount.Amount.TheVariants.{Payment, Item}

-- of a bidder with the value v, in units of one over the denominator: what it pays, and its value as often as it wins
abbrev pub amount_of : SymmetricAuction → Interim → Amount → ℕ → ℤ
amount_of a interim Payment v = number_at interim.pays v
amount_of a interim Item v = number_at a.values v *ℤ number_at interim.odds v
