-- How many vertices and edges a net has, seen as a network with a source and a sink.
use Rattle.std.specs.Prelude.{ℕ, zero, suc, ◌+◌, ℤ, pos, negsuc, ◌+ℤ◌, Bool, true, false, if◌then◌else◌, List, length, slice_index}
use Rattle.md_math.specs.Sets.{member}
use Rattle.md_math.specs.Sums.{sum_to}
use Rattle.md_flow.specs.Network.{Network, node_count, demand_count, room_of}

-- whether a number is positive
unfoldable pub is_positive : ℤ → Bool
is_positive (pos zero) = false
is_positive (pos (suc n)) = true
is_positive (negsuc n) = false

-- 1 for a positive number, else 0
unfoldable pub one_if : ℤ → ℤ
one_if z = if is_positive z then pos 1 else pos 0

-- how many pairs of a node and a demand with room there are
abbrev pub pair_count : Network → ℤ
pair_count net = sum_to (node_count net) (λ u. sum_to (demand_count net) (λ d. one_if (room_of net u d)))

-- how many pairs of a node and a demand that it touches there are
abbrev pub touching_count : List ℤ → List ℤ → List ℕ → ℤ
touching_count caps wants touches = sum_to (length caps) (λ u. sum_to (length wants) (λ d. if member (slice_index touches u) d then pos 1 else pos 0))

-- the nodes, the demands, a source and a sink
abbrev pub vertex_count : Network → ℤ
vertex_count net = pos (node_count net + demand_count net + 2)

-- an edge from the source to each node, one for each pair with room, and one from each demand to the sink
abbrev pub edge_count : Network → ℤ
edge_count net = pos (node_count net + demand_count net) +ℤ pair_count net
