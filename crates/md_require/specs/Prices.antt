-- What the multipliers of the rows of a condition come to, and fractions of at most 62 bits.
use Rattle.std.specs.Prelude.{◌≡◌, ◌↔◌, IsTrue, ℕ, ◌+◌, ◌*◌, ◌^◌, ℤ, ◌*ℤ◌, List, length}
use Rattle.md_math.specs.Divisors.{IsLeastTerms}
use Rattle.md_math.specs.Lists.{number_at}
use Rattle.md_math.specs.Sizes.{IsWithin}
use Rattle.md_num.specs.declared.frac.Frac.{Frac}
use Rattle.md_setting.specs.Setting.{GeneralSetting}
use Rattle.md_cert.specs.declared.bound.Bound.{Bound}
use Rattle.md_require.specs.declared.price.Price.{Price}
use Rattle.md_require.specs.Amounts.{Amount}
use Rattle.md_require.specs.Shadows.{AreFirm, from, IsShort, priced}

-- ---- fractions

-- it is this number over this one, in least terms
pub record IsLeastOf (num den : ℤ) (fraction : Frac) : Type 0 where
  pub least : IsLeastTerms fraction.num fraction.den
  pub value : fraction.num *ℤ den ≡ num *ℤ fraction.den

-- so it is, and both its numbers have at most 62 bits
pub record IsShortOf (num den : ℤ) (fraction : Frac) : Type 0 where
  pub is : IsLeastOf num den fraction
  pub short : IsShort fraction

-- the fraction in least terms has a number of more bits
pub record IsLongOf (num den : ℤ) : Type 0 where
  pub fraction : Frac
  pub is : IsLeastOf num den fraction
  pub long : ¬ IsShort fraction

-- ---- prices

-- the rows of these amounts stand from `first` on, and before the next one
pub record IsPricedTo (s : GeneralSetting) (bound : Bound) (first : ℕ) (amounts : List Amount) (price : Price) : Type 0 where
  pub row_is : price.row ≡ first + length amounts
  pub sum_is : price.sum ≡ priced s (from first (number_at bound.main)) amounts
  pub firm_is : IsTrue price.firm ↔ AreFirm (from first (number_at bound.face)) amounts
  pub size : IsWithin (price.row * 2 ^ 82) price.sum
