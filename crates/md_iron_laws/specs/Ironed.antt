-- Ironed virtual values (Myerson 1981): in each pool the mean of its virtual values. They and the gaps between the curve and its
-- hull stand over one common multiple of the weights of pools.
use Rattle.std.specs.Prelude.{ℕ, suc, ◌≡◌, ◌<◌, ◌≤◌, true, false, nat_lt, if◌then◌else◌, ℤ, pos, ◌+ℤ◌, ◌-ℤ◌, ◌*ℤ◌, ◌≤ℤ◌, ◌<ℤ◌}
use Rattle.md_iron_values.specs.Pools.{Pools, over_pool}
use Rattle.md_iron_values.specs.Odds.{step_of}
use Rattle.md_iron_values.specs.Cuts.{begins}
use Rattle.md_iron_values.specs.Gaps.{least_to}

-- `mean` is by value the ironed virtual value times `scale`, and 0 where nothing is sold
pub record AreMeans (kinds : ℕ) (weight sum : ℕ → ℤ) (pools : Pools) (scale : ℤ) (mean : ℕ → ℤ) : Type 0 where
  pub positive : pos 0 <ℤ scale
  pub none : (j : ℕ) → j < pools.reserve → mean j ≡ pos 0
  pub some : (j : ℕ) → pools.reserve ≤ j → j < kinds → over_pool weight pools j *ℤ mean j ≡ scale *ℤ over_pool sum pools j

-- how far the curve is above its hull, times `scale`; 0 at its end
abbrev pub gap_times : ℕ → (ℕ → ℤ) → (ℕ → ℤ) → Pools → ℤ → (ℕ → ℤ) → ℕ → ℤ
gap_times kinds weight sum pools scale mean j =
    if nat_lt j kinds then
    (if nat_lt j pools.reserve then scale *ℤ (sum j -ℤ least_to sum j)
    else scale *ℤ (sum j -ℤ sum (pools.first j)) -ℤ mean j *ℤ (weight j -ℤ weight (pools.first j)))
    else pos 0

-- what is left of a value: the growth of the gap, less its virtual value, and the ironed one times its weight
abbrev pub rest_of : (ℕ → ℤ) → (ℕ → ℤ) → ℤ → (ℕ → ℤ) → (ℕ → ℤ) → ℕ → ℤ
rest_of weight sum scale mean gap j =
    (gap (suc j) -ℤ gap j) -ℤ scale *ℤ (sum (suc j) -ℤ sum j) +ℤ (weight (suc j) -ℤ weight j) *ℤ mean j

-- All that makes odds by pools optimal: gaps are not negative, and 0 at both ends and where a pool begins that buys; what is left
-- is not negative, and 0 where a value buys; ironed virtual values never fall, and grow where a pool begins only.
pub record IsIroned (kinds : ℕ) (weight sum : ℕ → ℤ) (pools : Pools) (scale : ℤ) (mean gap : ℕ → ℤ) : Type 0 where
  pub first : gap 0 ≡ pos 0
  pub last : gap kinds ≡ pos 0
  pub nonneg : (j : ℕ) → j < kinds → pos 0 ≤ℤ gap j
  pub step : (j : ℕ) → j < kinds → pos 0 ≤ℤ rest_of weight sum scale mean gap j
  pub bought : (j : ℕ) → pools.reserve ≤ j → j < kinds → rest_of weight sum scale mean gap j ≡ pos 0
  pub flat : (j : ℕ) → j < kinds → begins pools j ≡ true → gap j ≡ pos 0
  pub rise : (j : ℕ) → j < kinds → pos 0 ≤ℤ step_of mean j
  pub starts : (j : ℕ) → j < kinds → begins pools j ≡ false → step_of mean j ≡ pos 0
