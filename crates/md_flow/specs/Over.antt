-- By how much the demands of a set are over what the nodes can give to it.
use Rattle.std.specs.Prelude.{ℕ, zero, suc, ℤ, pos, ◌-ℤ◌, Bool, false, ◌||◌, ◌&&◌, if◌then◌else◌, List, length, slice_index}
use Rattle.std.specs.Int.{int_min}
use Rattle.md_math.specs.Lists.{number_at}
use Rattle.md_math.specs.Sets.{member}
use Rattle.md_math.specs.Sums.{sum_to}
use Rattle.md_lp.specs.Worst.{IsWorstBy, NoneOverBy}
use Rattle.md_flow.specs.Network.{Network, node_count, demand_count, cap_of, want_of, room_of}

-- the sum of the rooms that a node has for the demands of a set
abbrev pub open_at : Network → (ℕ → Bool) → ℕ → ℤ
open_at net set u = sum_to (demand_count net) (λ d. if set d then room_of net u d else pos 0)

-- the sum of the demands in a set, minus what each node can give to the set: its cap, or its rooms for the set where these are less
abbrev pub over : Network → (ℕ → Bool) → ℤ
over net set =
    sum_to (demand_count net) (λ d. if set d then want_of net d else pos 0)
    -ℤ sum_to (node_count net) (λ u. int_min (cap_of net u) (open_at net set u))

-- no set of demands is over what the nodes can give to it
abbrev pub NoneOver : Network → Type 0
NoneOver net = NoneOverBy (demand_count net) (λ set. over net (member set))

-- the largest set that is over by most
abbrev pub IsWorst : Network → ℕ → Type 0
IsWorst net = IsWorstBy (demand_count net) (λ set. over net (member set))

-- ---- where each node touches a set of demands

-- whether a test holds at some place below n
abbrev pub any_below : ℕ → (ℕ → Bool) → Bool
any_below zero test = false
any_below (suc n) test = any_below n test || test n

-- whether a node touches some of the first m demands in a set
abbrev pub touches_some : ℕ → List ℕ → (ℕ → Bool) → ℕ → Bool
touches_some m touches set u = any_below m (λ d. member (slice_index touches u) d && set d)

-- the sum of the demands in a set, minus the sum of the caps of the nodes that touch it
abbrev pub over_touched : List ℤ → List ℤ → List ℕ → (ℕ → Bool) → ℤ
over_touched caps wants touches set =
    sum_to (length wants) (λ d. if set d then number_at wants d else pos 0)
    -ℤ sum_to (length caps) (λ u. if touches_some (length wants) touches set u then number_at caps u else pos 0)
