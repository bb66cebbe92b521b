-- What is fixed at a node, as pairs of a rank and an outcome.
use Rattle.std.specs.Prelude.{◌≡◌, ℕ, List, [], ◌∷◌, length, Option, None, Some}
use Rattle.md_math.specs.Lists.{up_to}
use Rattle.md_lp.specs.declared.pivot.Pivot.{Pivot}
use Rattle.md_determ_branching.specs.Fixed.{fixed_at}

-- the pair of a rank and the outcome that is fixed there, if there is one
abbrev pub pairs_by : ℕ → Option ℕ → List Pivot
pairs_by rank None = []
pairs_by rank (Some outcome) = record { row = rank; column = outcome } ∷ []

abbrev pub pairs_at : List (Option ℕ) → ℕ → List Pivot
pairs_at fixed rank = pairs_by rank (fixed_at fixed rank)

-- these are the pairs of what is fixed, by rank ascending
abbrev pub ArePairsOf : List (Option ℕ) → List Pivot → Type 0
ArePairsOf fixed pairs = pairs ≡ up_to (length fixed) (pairs_at fixed)
