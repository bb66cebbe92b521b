-- Inverses of odd numbers in 64 bits, by which quotients are guessed.
use Rattle.std.specs.Prelude.{◌≡◌, ℕ, ◌-◌, ◌*◌, ◌%◌, ◌<◌, ◌≤◌, ◌^◌, ℤ, pos}
use Rattle.std.specs.Int.{bit_at}
use Rattle.md_math.specs.Sizes.{IsWithin}
use Rattle.md_dict_division.specs.declared.quick.Guess.{Guess}
use Rattle.md_dict_division.specs.declared.quick.QuickDivider.{QuickDivider}

-- the k lowest bits of n are 0
pub record EndsInZeros (k n : ℕ) : Type 0 where
  pub at : (i : ℕ) → i < k → bit_at n i ≡ 0

-- d is a power of 2 times a number whose product with the inverse is 1 in 64 bits
pub record IsInverseOf (d : ℤ) (guess : Guess) : Type 0 where
  pub odd : ℕ
  pub shift_in : guess.shift < 64
  pub value : d ≡ pos (2 ^ guess.shift * odd)
  pub one : odd * guess.inverse % 2 ^ 64 ≡ 1

-- it divides by d, and its quotients are within a limit
pub record IsQuick (d : ℤ) (limit : ℕ) (divider : QuickDivider) : Type 0 where
  pub value : divider.value ≡ d
  pub size : IsWithin (2 ^ 63 - 1) divider.value
  pub most : divider.guess.most ≤ limit
  pub inverse : IsInverseOf d divider.guess
