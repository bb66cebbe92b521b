-- All profiles of some agents, in the order of their ranks.
use Rattle.std.specs.Prelude.{ℕ, List, [], ◌∷◌, map}
use Rattle.md_math.specs.Lists.{up_to}

-- the profiles with the first agent's first type, then those with its second type, and so on
abbrev pub profiles_of : List ℕ → List (List ℕ)
profiles_of [] = [] ∷ []
profiles_of (n ∷ ns) = up_to n (λ a. map (λ t. a ∷ t) (profiles_of ns))
