-- Rows after a pivot, each over a denominator of its own, and the least common multiple of these denominators.
use Rattle.std.specs.Prelude.{◌≡◌, ℕ, ◌+◌, ◌<◌, ℤ, pos, ◌*ℤ◌, ◌<ℤ◌, List}
use Rattle.md_math.specs.Divisors.{Divides}
use Rattle.md_dict.specs.declared.step.Step.{Step}
use Rattle.md_dict.specs.Step.{IsStepDivisor, raw_number}
use Rattle.md_dict_rows.specs.LeastRows.{IsLeastRow}

-- a positive multiple of each of the first n numbers, which divides each other one
pub record IsLeastMultiple (n : ℕ) (f : ℕ → ℤ) (d : ℤ) : Type 0 where
  pub positive : pos 0 <ℤ d
  pub multiple : (k : ℕ) → k < n → Divides (f k) d
  pub least : (x : ℤ) → ((k : ℕ) → k < n → Divides (f k) x) → Divides d x

-- a row after the pivot, in least terms: its numbers over its denominator are the raw numbers over the denominator times the pivot
pub record IsNewRow (step : Step) (kept : List ℤ) (i : ℕ) (den : ℤ) (f : ℕ → ℤ) : Type 0 where
  pub least : IsLeastRow (step.columns + 1) den f
  pub factor : ℤ
  pub positive : pos 0 <ℤ factor
  pub den_is : factor *ℤ den ≡ step.den *ℤ step.pivot
  pub numbers : (s : ℕ) → s < step.columns + 1 → factor *ℤ f s ≡ raw_number step kept i s

-- the divisor of a pivot, for new rows over denominators of their own, whose least common multiple is the new denominator
pub record HaveDivisor (step : Step) (kept : List ℤ) (den : ℤ) (dens : ℕ → ℤ) (table : ℕ → ℕ → ℤ) : Type 0 where
  pub divisor : ℤ
  pub is_divisor : IsStepDivisor step kept (step.rows + 2) divisor
  pub den_is : divisor *ℤ den ≡ step.den *ℤ step.pivot
  pub numbers : (i s : ℕ) (share : ℤ) → i < step.rows + 2 → s < step.columns + 1 → share *ℤ dens i ≡ den → divisor *ℤ (share *ℤ table i s) ≡ raw_number step kept i s

-- the least common multiple of two numbers: a positive multiple of both, which divides each other one
pub record IsMultipleOfTwo (a b d : ℤ) : Type 0 where
  pub positive : pos 0 <ℤ d
  pub left : Divides a d
  pub right : Divides b d
  pub least : (x : ℤ) → Divides a x → Divides b x → Divides d x
