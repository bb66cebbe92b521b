-- A record that was taken from those that are left before it is read.
use Rattle.std.specs.Prelude.{ℕ, List, [], ◌∷◌, Option, None, Some}

-- the record that comes next, where one does, and those after it
abbrev pub with_next : Option (List (List ℕ)) → List (List (List ℕ)) → List (List (List ℕ))
with_next None others = []
with_next (Some next) others = next ∷ others
