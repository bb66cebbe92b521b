-- The set of values that breaks Border's condition most (Border 1991).
use Rattle.std.specs.Prelude.{ℕ}
use Rattle.md_lp.specs.Worst.{IsWorstBy, NoneOverBy}
use Rattle.md_setting.specs.Auction.{SymmetricAuction, value_count}
use Rattle.md_border.specs.declared.interim.Interim.{Interim}
use Rattle.md_border.specs.Odds.{excess_of}

-- the largest of the sets with the greatest excess, which is positive
abbrev pub IsWorstSet : SymmetricAuction → Interim → ℕ → Type 0
IsWorstSet a interim = IsWorstBy (value_count a) (excess_of a interim)

-- no set breaks Border's condition
abbrev pub MeetsBorder : SymmetricAuction → Interim → Type 0
MeetsBorder a interim = NoneOverBy (value_count a) (excess_of a interim)
