-- Which conditions of the reduced program of so many units hold with equality.
use Rattle.std.specs.Prelude.{ℕ, ℤ, ◌-ℤ◌, ◌*ℤ◌, Bool, false, List, [], ◌∷◌, ◌++◌, Option, None, Some, length, slice_get, unsigned_abs, ◌==◌, if◌then◌else◌}
use Rattle.md_math.specs.Lists.{number_at, up_to}
use Rattle.md_setting.specs.Auction.{SymmetricAuction, value_count}
use Rattle.md_border.specs.declared.interim.Interim.{Interim}
use Rattle.md_reduced.specs.declared.condition.ReducedCondition.{ReducedCondition}
use Rattle.md_reduced.specs.Conditions.{conditions_of}
use Rattle.md_reduced.specs.Sides.{left_side, right_side}

-- the numbers for the columns of the reduced program: the odds, the payments as their plus parts, and no minus parts
abbrev pub columns_of : Interim → ℕ → ℤ
columns_of interim = number_at (interim.odds ++ interim.pays)

-- the two sides of a condition are the same
abbrev pub is_tight : SymmetricAuction → ℕ → Interim → Option ReducedCondition → Bool
is_tight a units interim None = false
is_tight a units interim (Some c) = unsigned_abs (left_side a c (columns_of interim) -ℤ interim.den *ℤ right_side a units c) == 0

-- the row, if its condition holds with equality
abbrev pub tight_at : SymmetricAuction → ℕ → Interim → List ℕ → ℕ → List ℕ
tight_at a units interim cuts row = if is_tight a units interim (slice_get (conditions_of (value_count a) cuts) row) then row ∷ [] else []

-- the rows of the conditions that hold with equality, ascending
abbrev pub tight_rows : SymmetricAuction → ℕ → Interim → List ℕ → List ℕ
tight_rows a units interim cuts = up_to (length (conditions_of (value_count a) cuts)) (tight_at a units interim cuts)
