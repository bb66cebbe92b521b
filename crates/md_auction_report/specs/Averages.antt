-- Expected numbers of all bidders.
use Rattle.std.specs.Prelude.{ℕ, ℤ, pos, ◌*ℤ◌, slice_index}
use Rattle.md_math.specs.Lists.{number_at}
use Rattle.md_math.specs.Sums.{sum_to}
use Rattle.md_num.specs.declared.frac.Frac.{Frac}
use Rattle.md_setting.specs.Auction.{SymmetricAuction, value_count, total_weight}
use Rattle.md_border.specs.declared.interim.Interim.{Interim}
use Rattle.md_report.specs.Ratio.{IsRatio}

-- the sum of f over the values, by their weights, and the same for all bidders
abbrev pub by_weight : SymmetricAuction → (ℕ → ℤ) → ℤ
by_weight a f = sum_to (value_count a) (λ v. pos (slice_index a.weights v) *ℤ f v)

abbrev pub of_all : SymmetricAuction → (ℕ → ℤ) → ℤ
of_all a f = pos a.bidders *ℤ by_weight a f

-- the fraction is what is expected of f from all bidders, where f is in units of one over the denominator
abbrev pub IsExpected : SymmetricAuction → Interim → (ℕ → ℤ) → Frac → Type 0
IsExpected a interim f value = IsRatio (of_all a f) (pos (total_weight a.weights) *ℤ interim.den) value

-- the expected payments of all bidders
abbrev pub IsRevenue : SymmetricAuction → Interim → Frac → Type 0
IsRevenue a interim value = IsExpected a interim (number_at interim.pays) value

-- what the item is expected to be worth to all bidders, payments left out
abbrev pub IsWelfare : SymmetricAuction → Interim → Frac → Type 0
IsWelfare a interim value = IsExpected a interim (λ v. number_at a.values v *ℤ number_at interim.odds v) value
