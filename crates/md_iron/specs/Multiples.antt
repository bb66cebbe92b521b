-- Common multiples of two numbers.
use Rattle.std.specs.Prelude.{◌-◌, ◌^◌, ℤ, pos, ◌<ℤ◌}
use Rattle.md_math.specs.Divisors.{Divides}
use Rattle.md_math.specs.Sizes.{IsWithin}

-- the least common multiple of two numbers: a positive multiple of both, which divides each other one
pub record IsMultipleOfTwo (a b d : ℤ) : Type 0 where
  pub positive : pos 0 <ℤ d
  pub left : Divides a d
  pub right : Divides b d
  pub least : (x : ℤ) → Divides a x → Divides b x → Divides d x

-- two numbers have a positive common multiple of at most 62 bits
pub record HasShortMultiple (a b : ℤ) : Type 0 where
  pub multiple : ℤ
  pub positive : pos 0 <ℤ multiple
  pub short : IsWithin (2 ^ 62 - 1) multiple
  pub left : Divides a multiple
  pub right : Divides b multiple
