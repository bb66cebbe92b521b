-- Profiles as lists of type numbers, and their ranks. `sizes` has the number of types of each agent.
use Rattle.std.specs.Prelude.{ℕ, ◌+◌, ◌*◌, ◌/◌, ◌%◌, ◌<◌, List, [], ◌∷◌, slice_set}

-- how many profiles there are
abbrev pub profile_count : List ℕ → ℕ
profile_count [] = 1
profile_count (n ∷ ns) = n * profile_count ns

-- the list gives each agent one of its types
abbrev pub IsProfile : List ℕ → List ℕ → Type 0
IsProfile [] [] = Unit {0}
IsProfile [] (t ∷ ts) = ⊥
IsProfile (n ∷ ns) [] = ⊥
IsProfile (n ∷ ns) (t ∷ ts) = (t < n) × IsProfile ns ts

-- the place of a profile in the order in which the last agent changes fastest
abbrev pub rank_of : List ℕ → List ℕ → ℕ
rank_of [] t = 0
rank_of (n ∷ ns) [] = 0
rank_of (n ∷ ns) (t ∷ ts) = t * profile_count ns + rank_of ns ts

-- the profile at a place of that order
abbrev pub profile_at : List ℕ → ℕ → List ℕ
profile_at [] r = []
profile_at (n ∷ ns) r = r / profile_count ns ∷ profile_at ns (r % profile_count ns)

-- the profile t with the report b at agent i
abbrev pub replaced : List ℕ → ℕ → ℕ → List ℕ
replaced t i b = slice_set t i b
