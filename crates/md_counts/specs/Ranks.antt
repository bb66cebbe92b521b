-- How many lists of counts come before those with a first count.
use Rattle.std.specs.Prelude.{ℕ, ◌-◌, List, ◌∷◌, map, length}
use Rattle.md_math.specs.Lists.{up_to}
use Rattle.md_setting.specs.CountLists.{count_lists}

-- the lists of counts over one kind and some others, in which the first kind has so many bidders
abbrev pub with_first : ℕ → ℕ → ℕ → List (List ℕ)
with_first bidders others first = map (λ counts. first ∷ counts) (count_lists (bidders - first) others)

-- how many of the lists over one kind and some others have a smaller first count
abbrev pub lists_before : ℕ → ℕ → ℕ → ℕ
lists_before bidders others first = length (up_to first (with_first bidders others))
