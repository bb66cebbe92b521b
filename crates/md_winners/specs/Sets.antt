-- Sets of bidders, to whom several identical units go.
use Rattle.std.specs.Prelude.{ℕ, zero, suc, ◌+◌, Bool, true, false, if◌then◌else◌, List, [], ◌∷◌, ◌++◌, length, map, slice_index_or}

-- whether a bidder is in a set, which says so of each of them, from the first on
abbrev pub holds : List Bool → ℕ → Bool
holds set i = slice_index_or set i false

-- how many bidders are in a set
abbrev pub size : List Bool → ℕ
size [] = 0
size (inside ∷ others) = (if inside then 1 else 0) + size others

-- all sets of at most so many of n bidders: the first bidder is outside, or, where a unit is left, inside
abbrev pub sets_of : ℕ → ℕ → List (List Bool)
sets_of zero units = [] ∷ []
sets_of (suc n) zero = map (λ others. false ∷ others) (sets_of n zero)
sets_of (suc n) (suc units) = map (λ others. false ∷ others) (sets_of n (suc units)) ++ map (λ others. true ∷ others) (sets_of n units)

-- how many there are
abbrev pub set_count : ℕ → ℕ → ℕ
set_count n units = length (sets_of n units)

-- the set at a place among them
abbrev pub set_at : ℕ → ℕ → ℕ → List Bool
set_at n units place = slice_index_or (sets_of n units) place []
