-- Fractions over one denominator.
use Rattle.std.specs.Prelude.{◌≡◌, ℕ, ◌-◌, ◌^◌, ◌<◌, ℤ, pos, ◌*ℤ◌, ◌<ℤ◌, unsigned_abs, List, length, slice_index_or}
use Rattle.md_math.specs.Divisors.{Divides, IsLeastTerms}
use Rattle.md_math.specs.Sizes.{IsWithin}
use Rattle.md_num.specs.declared.frac.Frac.{Frac}

-- the fraction at a place of a list
abbrev pub fraction_in : List Frac → ℕ → Frac
fraction_in fractions k = slice_index_or fractions k (record { num = pos 0; den = pos 0 })

-- a fraction in least terms, of numbers of at most 126 bits
pub record IsLeastFraction (fraction : Frac) : Type 0 where
  pub least : IsLeastTerms fraction.num fraction.den
  pub num_size : unsigned_abs fraction.num < 2 ^ 126
  pub den_size : unsigned_abs fraction.den < 2 ^ 126

-- all fractions of a list are so
pub record AreLeastFractions (fractions : List Frac) : Type 0 where
  pub at : (k : ℕ) → k < length fractions → IsLeastFraction (fraction_in fractions k)

-- a positive number that each of the first n denominators divides
pub record IsDenominatorOf (n : ℕ) (fractions : List Frac) (over : ℤ) : Type 0 where
  pub positive : pos 0 <ℤ over
  pub multiple : (k : ℕ) → k < n → Divides (fraction_in fractions k).den over

-- the least such number
pub record IsLeastDenominatorOf (n : ℕ) (fractions : List Frac) (over : ℤ) : Type 0 where
  pub is : IsDenominatorOf n fractions over
  pub least : (x : ℤ) → ((k : ℕ) → k < n → Divides (fraction_in fractions k).den x) → Divides over x

-- the number is the fraction over a denominator, and has at most 62 bits
pub record IsShare (fraction : Frac) (over number : ℤ) : Type 0 where
  pub ratio : number *ℤ fraction.den ≡ over *ℤ fraction.num
  pub short : IsWithin (2 ^ 62 - 1) number

-- the numbers are the first n fractions over a denominator, and have at most 62 bits
pub record AreShares (n : ℕ) (fractions : List Frac) (over : ℤ) (numbers : ℕ → ℤ) : Type 0 where
  pub at : (k : ℕ) → k < n → IsShare (fraction_in fractions k) over (numbers k)

-- the numbers are all fractions over a positive denominator, and these and it have at most 62 bits
pub record AreOver (fractions : List Frac) (over : ℤ) (numbers : ℕ → ℤ) : Type 0 where
  pub positive : pos 0 <ℤ over
  pub short : IsWithin (2 ^ 62 - 1) over
  pub shares : AreShares (length fractions) fractions over numbers
