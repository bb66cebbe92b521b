-- Paths: a source node and a demand in turn.
use Rattle.std.specs.Prelude.{ℕ, suc, ◌+◌, ◌-◌, ◌*◌, ◌/◌, ◌<◌, ◌≤◌, ◌≡◌, ℤ, pos, ◌+ℤ◌, ◌-ℤ◌, ◌≤ℤ◌, ◌<ℤ◌, ◌⊎◌, unsigned_abs, ◌==◌, ◌&&◌, if◌then◌else◌, List, length}
use Rattle.md_math.specs.Lists.{number_at}
use Rattle.md_math.specs.Sums.{sum_to}
use Rattle.md_flow.specs.Network.{Network, node_count, demand_count, room_of}
use Rattle.md_flow.specs.Labels.{label_at, spare_at, lack_at}

-- the source node and the demand at a place of a path
abbrev pub node_at : List ℤ → ℕ → ℕ
node_at path j = unsigned_abs (number_at path (2 * j))

abbrev pub demand_at : List ℤ → ℕ → ℕ
demand_at path j = unsigned_abs (number_at path (2 * j + 1))

-- the last place of a path
abbrev pub last_of : List ℤ → ℕ
last_of path = length path / 2 - 1

-- what is added for a node and a demand, where an amount is added at each of the first n of some pairs
abbrev pub amount_at_pairs : ℕ → (ℕ → ℕ) → (ℕ → ℕ) → ℤ → ℕ → ℕ → ℤ
amount_at_pairs n nodes demands amount u d = sum_to n (λ j. if nodes j == u && demands j == d then amount else pos 0)

-- the amounts y are the amounts x after an amount is added at each pair of the nodes and demands up to `last`, and taken away at each demand with the node that follows it
pub record IsShifted (n m last : ℕ) (nodes demands : ℕ → ℕ) (amount : ℤ) (x y : ℕ → ℕ → ℤ) : Type 0 where
  pub at : (u d : ℕ) → u < n → d < m → y u d ≡ x u d +ℤ amount_at_pairs (suc last) nodes demands amount u d -ℤ amount_at_pairs last (λ j. nodes (j + 1)) demands amount u d

-- pairs of a node and a demand, each in range, all nodes distinct, all demands distinct
pub record IsRoute (n m : ℕ) (path : List ℤ) : Type 0 where
  pub whole : length path ≡ 2 * (last_of path + 1)
  pub numbers : (k : ℕ) → k < length path → pos 0 ≤ℤ number_at path k
  pub nodes_in : (j : ℕ) → j ≤ last_of path → node_at path j < n
  pub demands_in : (j : ℕ) → j ≤ last_of path → demand_at path j < m
  pub nodes_apart : (i j : ℕ) → i ≤ last_of path → j ≤ last_of path → node_at path i ≡ node_at path j → i ≡ j
  pub demands_apart : (i j : ℕ) → i ≤ last_of path → j ≤ last_of path → demand_at path i ≡ demand_at path j → i ≡ j

-- of each amount that the path takes from there is enough, so that none falls below 0
pub record IsEnough (path : List ℤ) (amount : ℤ) (x : ℕ → ℕ → ℤ) : Type 0 where
  pub enough : (j : ℕ) → j < last_of path → amount ≤ℤ x (node_at path (j + 1)) (demand_at path j)

-- a path along labels: they count up from 0, each node has room for the demand after it and carries an amount of the demand before it, something is left at its first node, and its last demand lacks something
pub record IsLevelled (net : Network) (x : ℕ → ℕ → ℤ) (labels : List ℕ) (path : List ℤ) : Type 0 where
  pub whole : length path ≡ 2 * (last_of path + 1)
  pub numbers : (k : ℕ) → k < length path → pos 0 ≤ℤ number_at path k
  pub nodes_in : (j : ℕ) → j ≤ last_of path → node_at path j < node_count net
  pub demands_in : (j : ℕ) → j ≤ last_of path → demand_at path j < demand_count net
  pub rooms : (j : ℕ) → j ≤ last_of path → x (node_at path j) (demand_at path j) <ℤ room_of net (node_at path j) (demand_at path j)
  pub levels : (j : ℕ) → j ≤ last_of path → label_at labels (demand_at path j) ≡ j
  pub carrying : (j : ℕ) → j < last_of path → pos 0 <ℤ x (node_at path (j + 1)) (demand_at path j)
  pub spare : pos 0 <ℤ spare_at net x (node_at path 0)
  pub lacking : pos 0 <ℤ lack_at net x (demand_at path (last_of path))

-- a path of distinct nodes and demands: each node has room for the demand after it and carries an amount of the demand before it, something is left at its first node, and its last demand lacks something
pub record IsPath (net : Network) (x : ℕ → ℕ → ℤ) (path : List ℤ) : Type 0 where
  pub route : IsRoute (node_count net) (demand_count net) path
  pub rooms : (j : ℕ) → j ≤ last_of path → x (node_at path j) (demand_at path j) <ℤ room_of net (node_at path j) (demand_at path j)
  pub carrying : (j : ℕ) → j < last_of path → pos 0 <ℤ x (node_at path (j + 1)) (demand_at path j)
  pub spare : pos 0 <ℤ spare_at net x (node_at path 0)
  pub lacking : pos 0 <ℤ lack_at net x (demand_at path (last_of path))

-- the room that is left at a place of a path, and the amount that the path takes from there
abbrev pub room_left : Network → (ℕ → ℕ → ℤ) → List ℤ → ℕ → ℤ
room_left net x path j = room_of net (node_at path j) (demand_at path j) -ℤ x (node_at path j) (demand_at path j)

abbrev pub amount_before : (ℕ → ℕ → ℤ) → List ℤ → ℕ → ℤ
amount_before x path j = x (node_at path (j + 1)) (demand_at path j)

-- with an amount more at each node of a path for the demand after it, no room is passed
pub record FitsRooms (net : Network) (x : ℕ → ℕ → ℤ) (path : List ℤ) (amount : ℤ) : Type 0 where
  pub rooms : (j : ℕ) → j ≤ last_of path → amount ≤ℤ room_left net x path j

-- the greatest amount that a path can take: it is positive, passes nothing that is left, lacking or taken from, and uses up one of these
pub record IsBottleneck (net : Network) (x : ℕ → ℕ → ℤ) (path : List ℤ) (amount : ℤ) : Type 0 where
  pub positive : pos 1 ≤ℤ amount
  pub spare : amount ≤ℤ spare_at net x (node_at path 0)
  pub lack : amount ≤ℤ lack_at net x (demand_at path (last_of path))
  pub fits : FitsRooms net x path amount
  pub enough : IsEnough path amount x
  pub reached : (amount ≡ spare_at net x (node_at path 0)) ⊎ (amount ≡ lack_at net x (demand_at path (last_of path))) ⊎ ((j : ℕ) × (j ≤ last_of path) × (amount ≡ room_left net x path j)) ⊎ ((j : ℕ) × (j < last_of path) × (amount ≡ amount_before x path j))

-- the same as a path along labels, up to a demand that need not lack anything
pub record IsTrail (net : Network) (x : ℕ → ℕ → ℤ) (labels : List ℕ) (path : List ℤ) (end : ℕ) : Type 0 where
  pub whole : length path ≡ 2 * (label_at labels end + 1)
  pub numbers : (k : ℕ) → k < length path → pos 0 ≤ℤ number_at path k
  pub nodes_in : (j : ℕ) → j ≤ label_at labels end → node_at path j < node_count net
  pub demands_in : (j : ℕ) → j ≤ label_at labels end → demand_at path j < demand_count net
  pub rooms : (j : ℕ) → j ≤ label_at labels end → x (node_at path j) (demand_at path j) <ℤ room_of net (node_at path j) (demand_at path j)
  pub levels : (j : ℕ) → j ≤ label_at labels end → label_at labels (demand_at path j) ≡ j
  pub carrying : (j : ℕ) → j < label_at labels end → pos 0 <ℤ x (node_at path (j + 1)) (demand_at path j)
  pub spare : pos 0 <ℤ spare_at net x (node_at path 0)
  pub last : demand_at path (label_at labels end) ≡ end
