-- Rows of whole numbers over a denominator, in least terms.
use Rattle.std.specs.Prelude.{◌≡◌, ℕ, ◌<◌, ◌^◌, ◌⊎◌, ℤ, pos, ◌<ℤ◌, unsigned_abs}
use Rattle.md_math.specs.Sizes.{IsWithin}
use Rattle.md_math.specs.Divisors.{Divides, IsCommonDivisor}

-- a row of numbers over a denominator, in least terms: only 1 and -1 divide them all
pub record IsLeastRow (width : ℕ) (den : ℤ) (f : ℕ → ℤ) : Type 0 where
  pub positive : pos 0 <ℤ den
  pub only_one : (x : ℤ) → Divides x den → IsCommonDivisor width f x → unsigned_abs x ≡ 1

-- the greatest size of a row's numbers
pub record IsRowSize (width : ℕ) (f : ℕ → ℤ) (size : ℤ) : Type 0 where
  pub small : IsWithin (2 ^ 62) size
  pub bound : (s : ℕ) → s < width → IsWithin (unsigned_abs size) (f s)
  pub reached : (size ≡ pos 0) ⊎ ((s : ℕ) × (s < width) × (unsigned_abs (f s) ≡ unsigned_abs size))
