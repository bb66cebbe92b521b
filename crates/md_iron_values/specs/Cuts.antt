-- The sets of values that pools use up.
use Rattle.std.specs.Prelude.{ℕ, ◌-◌, ◌^◌, Bool, false, ◌==◌, nat_lt, if◌then◌else◌, List, [], ◌∷◌}
use Rattle.md_math.specs.Lists.{up_to}
use Rattle.md_iron_values.specs.Pools.{Pools}

-- whether a value that buys begins a pool
abbrev pub begins : Pools → ℕ → Bool
begins pools s = if nat_lt s pools.reserve then false else (pools.first s == s)

-- the set of the values from a place on
abbrev pub set_from : ℕ → ℕ → ℕ
set_from kinds s = 2 ^ kinds - 2 ^ s

-- for each value that buys and begins a pool, the set of the values from it on
abbrev pub cuts_of : ℕ → Pools → List ℕ
cuts_of kinds pools = up_to kinds (λ s. if begins pools s then set_from kinds s ∷ [] else [])
