-- A number that no new label raises, and that each step makes smaller.
use Rattle.std.specs.Prelude.{ℕ, ◌+◌, ◌-◌, min, ℤ, pos, ◌+ℤ◌, ◌-ℤ◌, if◌then◌else◌, List}
use Rattle.md_math.specs.Sums.{sum_to}
use Rattle.md_flow.specs.Network.{Network, node_count, demand_count, room_of}
use Rattle.md_flow.specs.Labels.{spare_at, lack_at, label_at}
use Rattle.md_flow.specs.Costs.{is_positive, one_if}

-- no path has more places than there are nodes, or demands
abbrev pub span_of : Network → ℕ
span_of net = min (node_count net) (demand_count net)

-- how often an edge can still be used up: as far as one label is below a bound where something is left of the edge, else as far as another one is
unfoldable pub uses : ℤ → ℕ → ℕ → ℕ → ℤ
uses left most label later = if is_positive left then pos (most - label) else pos (most - later)

-- the uses of a pair with room: to the demand, where the next label of use is the node's, and back to the node, where it is the demand's
unfoldable pub pair_uses : ℤ → ℤ → ℕ → ℕ → ℕ → ℤ
pair_uses room amount most node demand = if is_positive room then uses (room -ℤ amount) most node (demand + 1) +ℤ uses amount most demand node else pos 0

-- the sum over all pairs, and 1 for each node with something left of its cap and each demand that lacks something
unfoldable pub potential : Network → (ℕ → ℕ → ℤ) → List ℕ → List ℕ → ℤ
potential net x nodes demands =
    sum_to (node_count net) (λ u. sum_to (demand_count net) (λ d. pair_uses (room_of net u d) (x u d) (span_of net) (label_at nodes u) (label_at demands d)))
    +ℤ (sum_to (node_count net) (λ u. one_if (spare_at net x u)) +ℤ sum_to (demand_count net) (λ d. one_if (lack_at net x d)))
