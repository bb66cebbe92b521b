-- How many bidders have each value.
use Rattle.std.specs.Prelude.{ℕ, zero, suc, ◌-◌, ◌==◌, List, [], ◌∷◌, map, if◌then◌else◌}
use Rattle.md_math.specs.Lists.{up_to}

-- all lists of one count for each of some kinds, which add to the number of bidders, in ascending lexicographic order
abbrev pub count_lists : ℕ → ℕ → List (List ℕ)
count_lists bidders zero = if bidders == 0 then [] ∷ [] else []
count_lists bidders (suc kinds) =
    up_to (suc bidders) (λ first. map (λ others. first ∷ others) (count_lists (bidders - first) kinds))
