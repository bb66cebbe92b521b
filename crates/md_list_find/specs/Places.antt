-- Where a record stands in a list by what its values bring.
use Rattle.std.specs.Prelude.{ℕ, ◌<◌, ◌≤◌, List, length, slice_index_or}
use Rattle.md_math.specs.LexOrder.{IsPairNonNegative, IsPairPositive}
use Rattle.md_list_gains.specs.Places.{no_sums, more_gain_by, more_benefit_by}
use Rattle.md_list_gains.specs.declared.sums.Sums.{Sums}
use Rattle.md_list_find.specs.declared.order.Pool.{Pool}

abbrev pub pool_at : List Pool → ℕ → Pool
pool_at pools p = slice_index_or pools p (record { group = 0; first = 0; stop = 0; sums = no_sums })

-- all records before a place bring no less than some values, and the one at the place brings less
pub record IsPlaceFor (pools : List Pool) (sums : Sums) (place : ℕ) : Type 0 where
  pub inside : place ≤ length pools
  pub before : (p : ℕ) → p < place
      → IsPairNonNegative (more_gain_by (pool_at pools p).sums sums) (more_benefit_by (pool_at pools p).sums sums)
  pub behind : place < length pools
      → IsPairPositive (more_gain_by sums (pool_at pools place).sums) (more_benefit_by sums (pool_at pools place).sums)
