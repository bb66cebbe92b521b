-- How a combination of two rows is brought to least terms: a divisor is tried, and its quotients are written place by place.
use Rattle.std.specs.Prelude.{◌≡◌, ◌≢◌, ℕ, ◌+◌, ◌-◌, ◌*◌, ◌<◌, ◌≤◌, ◌^◌, ◌⊎◌, ℤ, pos, ◌*ℤ◌, ◌<ℤ◌, List, length, IfSome, IsTrue, unsigned_abs}
use Rattle.md_math.specs.Lists.{number_at}
use Rattle.md_math.specs.Sizes.{AllWithin, IsWithin}
use Rattle.md_math.specs.Divisors.{Divides}
use Rattle.md_dict_rows.specs.declared.combination.Combination.{Combination}
use Rattle.md_dict_rows.specs.declared.reach.Reach.{Reach}
use Rattle.md_dict_rows.specs.declared.least_terms.Attempt.{Attempt}
use Rattle.md_dict_rows.specs.declared.least_terms.Obstacle.{Obstacle}
use Rattle.md_dict_rows.specs.declared.least_terms.Obstacle.TheVariants.{Undivided, TooWide}
use Rattle.md_dict_division.specs.Inverses.{IsQuick}
use Rattle.md_dict_rows.specs.Combination.{combined, combined_den, DividesCombination}

-- d times the first n numbers, but that at the place of the pivot, are those of the combination
pub record AreDivided (c : Combination) (own taken : List ℤ) (d : ℤ) (new : List ℤ) (n : ℕ) : Type 0 where
  pub at : (s : ℕ) → s < n → s ≢ c.place → d *ℤ number_at new s ≡ combined c own taken s

-- d times all numbers are those of the combination
pub record IsDivided (c : Combination) (own taken : List ℤ) (d : ℤ) (new : List ℤ) : Type 0 where
  pub at : (s : ℕ) → s < length own → d *ℤ number_at new s ≡ combined c own taken s

-- all that is combined at a place has 63 bits
pub record AreShort (c : Combination) (own taken : List ℤ) : Type 0 where
  pub at : (s : ℕ) → s < length own → unsigned_abs c.multiplier * unsigned_abs (number_at own s) + unsigned_abs c.factor * unsigned_abs (number_at taken s) < 2 ^ 63

-- all that is multiplied has 32 bits, of which the limit has no fewer
pub record AreHalves (c : Combination) (xs ys : List ℤ) (most : ℕ) : Type 0 where
  pub multiplier : IsWithin (2 ^ 31 - 1) c.multiplier
  pub factor : IsWithin (2 ^ 31 - 1) c.factor
  pub own : AllWithin (2 ^ 31 - 1) xs
  pub taken : AllWithin (2 ^ 31 - 1) ys
  pub limit : 2 ^ 31 ≤ most

-- what is known of the sizes of all that is combined
pub record IsReach (c : Combination) (own taken : List ℤ) (limit : ℕ) (reach : Reach) : Type 0 where
  pub short : reach.bound < 2 ^ 63 → AreShort c own taken
  pub half : IsTrue reach.is_half → AreHalves c own taken limit

-- no number is written that is above a limit, of those that are at least `most`
pub record KeepsSizes (most : ℕ) (old new : List ℤ) : Type 0 where
  pub length_is : length new ≡ length old
  pub within : (limit : ℕ) → most ≤ limit → AllWithin limit old → AllWithin limit new

-- the greatest size of the first n numbers
pub record IsGreatestSize (n : ℕ) (xs : List ℤ) (size : ℕ) : Type 0 where
  pub bound : (s : ℕ) → s < n → IsWithin size (number_at xs s)
  pub reached : (size ≡ 0) ⊎ ((s : ℕ) × (s < n) × (unsigned_abs (number_at xs s) ≡ size))

-- a number of the combination that d does not divide
pub record IsUndivided (c : Combination) (own taken : List ℤ) (d : ℤ) (place : ℕ) (x : ℤ) : Type 0 where
  pub place_in : place < length own
  pub is : x ≡ combined c own taken place
  pub size : unsigned_abs x < 2 ^ 126
  pub not : ¬ Divides d x

-- a number of the combination that is above the limit, divided by d or by less
pub record IsOver (c : Combination) (own taken : List ℤ) (limit : ℕ) (d : ℤ) : Type 0 where
  pub place : ℕ
  pub place_in : place < length own
  pub above : limit * unsigned_abs d < unsigned_abs (combined c own taken place)

-- why quotients by d are not written
abbrev pub IsObstacle : Combination → List ℤ → List ℤ → ℕ → ℤ → Obstacle → Type 0
IsObstacle c own taken limit d (Undivided place x) = IsUndivided c own taken d place x
IsObstacle c own taken limit d TooWide = IsOver c own taken limit d

-- the divisor is positive, and quotients are guessed for it and for the limit
pub record IsPrepared (attempt : Attempt) : Type 0 where
  pub positive : pos 0 <ℤ attempt.divider.value
  pub size : unsigned_abs attempt.divider.value < 2 ^ 126
  pub limit_size : attempt.limit ≤ 2 ^ 62
  pub quick : IfSome attempt.quick (IsQuick attempt.divider.value attempt.limit)

-- a positive number that divides the denominator, and that each divisor of the combination divides
pub record IsAttempt (c : Combination) (own taken : List ℤ) (d : ℤ) : Type 0 where
  pub positive : pos 0 <ℤ d
  pub size : unsigned_abs d < 2 ^ 126
  pub of_den : Divides d (combined_den c)
  pub greatest : (x : ℤ) → DividesCombination c own taken x → Divides x d
