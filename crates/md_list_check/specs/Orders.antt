-- The order of the records of a list, by their levels and what their values add up to.
use Rattle.std.specs.Prelude.{◌≡◌, ℕ, suc, ◌-ℤ◌, ◌*ℤ◌, List}
use Rattle.md_math.specs.LexOrder.{IsPairNonNegative}
use Rattle.md_num.specs.declared.frac.Frac.{Frac}
use Rattle.md_list.specs.Valid.{level_at}
use Rattle.md_list_gains.specs.declared.sums.Sums.{Sums}
use Rattle.md_list_gains.specs.Places.{sums_at, more_benefit_by}

-- a record brings something, or nothing and some welfare
abbrev pub BringsSomeBy : Sums → Frac → Type 0
BringsSomeBy sums level = IsPairNonNegative level.num sums.benefit

-- a record brings no less than another one by weight
abbrev pub IsNoLessBy : Sums → Frac → Sums → Frac → Type 0
IsNoLessBy sums level other lower =
    IsPairNonNegative (level.num *ℤ lower.den -ℤ lower.num *ℤ level.den) (more_benefit_by sums other)

-- a record brings something, and no more than the one before it
pub record IsInOrderBy (sums : List Sums) (levels : List Frac) (p : ℕ) : Type 0 where
  pub some : BringsSomeBy (sums_at sums p) (level_at levels p)
  pub no_more : (q : ℕ) → suc q ≡ p → IsNoLessBy (sums_at sums q) (level_at levels q) (sums_at sums p) (level_at levels p)
