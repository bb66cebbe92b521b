-- The virtual values of the records of a list, by what their values add up to.
use Rattle.std.specs.Prelude.{◌≡◌, ℕ, ◌<◌, ◌*ℤ◌, List, length}
use Rattle.md_math.specs.Divisors.{IsLeastTerms}
use Rattle.md_math.specs.Sizes.{IsWithin}
use Rattle.md_num.specs.Limits.{limit_of}
use Rattle.md_num.specs.declared.frac.Frac.{Frac}
use Rattle.md_list.specs.Valid.{level_at}
use Rattle.md_list_gains.specs.declared.sums.Sums.{Sums}
use Rattle.md_list_find.specs.declared.order.Pool.{Pool}
use Rattle.md_list_find.specs.Places.{pool_at}

-- a fraction in least terms, whose numbers have at most 62 bits
pub record IsShortLevel (level : Frac) : Type 0 where
  pub least : IsLeastTerms level.num level.den
  pub num_size : IsWithin (limit_of 62) level.num
  pub den_size : IsWithin (limit_of 62) level.den

-- what values gain, over what they weigh
pub record IsLevelOf (sums : Sums) (level : Frac) : Type 0 where
  pub whole : level.den *ℤ sums.gain ≡ level.num *ℤ sums.weight
  pub short : IsShortLevel level

-- that of each of the first n records
pub record AreLevelsOf (pools : List Pool) (n : ℕ) (levels : List Frac) : Type 0 where
  pub one_each : length levels ≡ n
  pub each : (p : ℕ) → p < n → IsLevelOf (pool_at pools p).sums (level_at levels p)
