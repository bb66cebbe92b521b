-- Lists that grow at their end, place by place, and the number at a place of a list.
use Rattle.std.specs.Prelude.{ℕ, zero, suc, ℤ, pos, List, [], ◌∷◌, ◌++◌, slice_index_or}

-- the number at a place of a list, 0 past its end
abbrev pub number_at : List ℤ → ℕ → ℤ
number_at xs k = slice_index_or xs k (pos 0)

-- the list of f at each place below n
abbrev pub list_to : {X : Type 0} → ℕ → (ℕ → X) → List X
list_to zero f = []
list_to (suc n) f = list_to n f ++ f n ∷ []

-- the lists of f at each place below n, one after another
abbrev pub up_to : {X : Type 0} → ℕ → (ℕ → List X) → List X
up_to zero f = []
up_to (suc n) f = up_to n f ++ f n
