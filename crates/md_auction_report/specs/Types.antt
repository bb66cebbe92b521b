-- What a bidder with each value gets and pays.
use Rattle.std.specs.Prelude.{◌≡◌, ℕ, ◌<◌, List, map}
use Rattle.std.specs.List.{All}
use Rattle.md_math.specs.Lists.{number_at, list_to}
use Rattle.md_setting.specs.Auction.{SymmetricAuction, value_count}
use Rattle.md_border.specs.declared.interim.Interim.{Interim}
use Rattle.md_report.specs.Ratio.{IsRatio}
use Rattle.md_auction_report.specs.declared.value_numbers.ValueNumbers.{ValueNumbers}
use Rattle.md_auction_report.specs.Utility.{utility_at}

-- the fractions are what it gets and pays
pub record IsToldOf (a : SymmetricAuction) (interim : Interim) (told : ValueNumbers) : Type 0 where
  pub kind_in : told.kind < value_count a
  pub utility : IsRatio (utility_at a interim told.kind told.kind) interim.den told.utility
  pub payment : IsRatio (number_at interim.pays told.kind) interim.den told.payment

-- the first values are told, one after the other
pub record AreTold (a : SymmetricAuction) (interim : Interim) (count : ℕ) (told : List ValueNumbers) : Type 0 where
  pub are : map (λ one. one.kind) told ≡ list_to count (λ v. v)
  pub each : All (IsToldOf a interim) told
