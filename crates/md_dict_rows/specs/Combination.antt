-- Rows that a pivot changes: how their numbers are combined, and what they are in least terms.
use Rattle.std.specs.Prelude.{◌≡◌, ℕ, ◌*◌, ◌<◌, ◌^◌, ◌==◌, ◌⊎◌, if◌then◌else◌, ℤ, pos, ◌-ℤ◌, ◌*ℤ◌, ◌<ℤ◌, List, length, unsigned_abs}
use Rattle.md_math.specs.Lists.{number_at}
use Rattle.md_math.specs.Sizes.{IsWithin, AllWithin}
use Rattle.md_math.specs.Divisors.{Divides, IsCommonDivisor}
use Rattle.md_dict_rows.specs.declared.combination.Combination.{Combination}
use Rattle.md_dict_rows.specs.declared.combination.LeastRow.{LeastRow}
use Rattle.md_dict_rows.specs.LeastRows.{IsLeastRow, IsRowSize}

-- the number of the combination at a place, of the row's own numbers and those of the pivot row
abbrev pub combined : Combination → List ℤ → List ℤ → ℕ → ℤ
combined c own taken s =
    if s == c.place then c.multiplier *ℤ c.leaving -ℤ c.factor *ℤ c.pivot_den
    else c.multiplier *ℤ number_at own s -ℤ c.factor *ℤ number_at taken s

-- the denominator that these numbers stand over
abbrev pub combined_den : Combination → ℤ
combined_den c = c.multiplier *ℤ c.den

-- all that is combined has 62 bits, the denominators and the multiplier are positive, and the rows have one length
pub record IsCombination (c : Combination) (own taken : List ℤ) : Type 0 where
  pub place_in : c.place < length own
  pub same_length : length taken ≡ length own
  pub own_size : AllWithin (2 ^ 62) own
  pub taken_size : AllWithin (2 ^ 62) taken
  pub multiplier_size : IsWithin (2 ^ 62) c.multiplier
  pub multiplier_positive : pos 0 <ℤ c.multiplier
  pub factor_size : IsWithin (2 ^ 62) c.factor
  pub den_size : IsWithin (2 ^ 62) c.den
  pub den_positive : pos 0 <ℤ c.den
  pub pivot_den_size : IsWithin (2 ^ 62) c.pivot_den
  pub pivot_den_positive : pos 0 <ℤ c.pivot_den
  pub leaving_size : IsWithin (2 ^ 62) c.leaving

-- the two rows are in least terms. At the place of the pivot they have the factor and the multiplier, each times one number, and the leaving column holds a multiple of the row's denominator
pub record AreLeastRows (c : Combination) (own taken : List ℤ) : Type 0 where
  pub own_least : IsLeastRow (length own) c.den (number_at own)
  pub taken_least : IsLeastRow (length own) c.pivot_den (number_at taken)
  pub common : ℤ
  pub own_at_place : number_at own c.place ≡ common *ℤ c.factor
  pub taken_at_place : number_at taken c.place ≡ common *ℤ c.multiplier
  pub leaving : Divides c.den c.leaving

-- a divisor of the combination: of its denominator and of each number
pub record DividesCombination (c : Combination) (own taken : List ℤ) (d : ℤ) : Type 0 where
  pub of_den : Divides d (combined_den c)
  pub of_numbers : IsCommonDivisor (length own) (combined c own taken) d

-- a denominator and numbers in least terms: a positive number times them is the combination
pub record IsInLeastTerms (c : Combination) (own taken : List ℤ) (den : ℤ) (f : ℕ → ℤ) : Type 0 where
  pub divisor : ℤ
  pub positive : pos 0 <ℤ divisor
  pub den_is : divisor *ℤ den ≡ combined_den c
  pub numbers : (s : ℕ) → s < length own → divisor *ℤ f s ≡ combined c own taken s
  pub least : IsLeastRow (length own) den f

-- the denominator of the row in least terms, however wide the row is
pub record IsLeastDen (c : Combination) (own taken : List ℤ) (den : ℤ) : Type 0 where
  pub numbers : ℕ → ℤ
  pub terms : IsInLeastTerms c own taken den numbers
  pub size : unsigned_abs den < 2 ^ 126

-- the row in least terms
pub record IsReducedTo (c : Combination) (own taken : List ℤ) (row : LeastRow) (new : List ℤ) : Type 0 where
  pub terms : IsInLeastTerms c own taken row.den (number_at new)
  pub size : IsRowSize (length own) (number_at new) row.size
  pub den_size : IsWithin (2 ^ 62) row.den

-- whatever divides the combination, its denominator or a number is then still above a limit
pub record IsTooWideRow (c : Combination) (own taken : List ℤ) (limit : ℕ) : Type 0 where
  pub above : (d : ℤ) → pos 0 <ℤ d → DividesCombination c own taken d → (limit * unsigned_abs d < unsigned_abs (combined_den c)) ⊎ ((s : ℕ) × (s < length own) × (limit * unsigned_abs d < unsigned_abs (combined c own taken s)))

-- another combination for the same row: a positive number times its multiplier and factor are those of the first one
pub record IsLowered (c low : Combination) : Type 0 where
  pub place : low.place ≡ c.place
  pub common : ℤ
  pub positive : pos 0 <ℤ common
  pub multiplier : common *ℤ low.multiplier ≡ c.multiplier
  pub factor : common *ℤ low.factor ≡ c.factor
  pub den : low.den ≡ c.den
  pub pivot_den : low.pivot_den ≡ c.pivot_den
  pub leaving : low.leaving ≡ c.leaving
