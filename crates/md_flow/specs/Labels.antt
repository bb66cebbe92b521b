-- Labels of nodes and demands: bounds from below on how many demands lie on a path from a node with something left to give.
use Rattle.std.specs.Prelude.{ℕ, ◌+◌, ◌<◌, ◌≤◌, ◌≡◌, ℤ, pos, ◌-ℤ◌, ◌<ℤ◌, ◌≤ℤ◌, ◌⊎◌, List, length, slice_index}
use Rattle.md_flow.specs.Network.{Network, node_count, demand_count, cap_of, want_of, room_of}
use Rattle.md_flow.specs.Flows.{given_by, got_by}

-- what is left of a node's cap, and what a demand lacks
abbrev pub spare_at : Network → (ℕ → ℕ → ℤ) → ℕ → ℤ
spare_at net x u = cap_of net u -ℤ given_by (demand_count net) x u

abbrev pub lack_at : Network → (ℕ → ℕ → ℤ) → ℕ → ℤ
lack_at net x d = want_of net d -ℤ got_by (node_count net) x d

-- the label of what no path reaches
abbrev pub top_of : Network → ℕ
top_of net = demand_count net + 1

abbrev pub label_at : List ℕ → ℕ → ℕ
label_at labels k = slice_index labels k

-- no label is too great
pub record AreLabels (net : Network) (x : ℕ → ℕ → ℤ) (nodes demands : List ℕ) : Type 0 where
  pub one_node : length nodes ≡ node_count net
  pub one_demand : length demands ≡ demand_count net
  pub node_top : (u : ℕ) → u < node_count net → label_at nodes u ≤ top_of net
  pub demand_top : (d : ℕ) → d < demand_count net → label_at demands d ≤ top_of net
  pub from_spare : (u : ℕ) → u < node_count net → pos 0 <ℤ spare_at net x u → label_at nodes u ≡ 0
  pub along : (u d : ℕ) → u < node_count net → d < demand_count net → x u d <ℤ room_of net u d → label_at demands d ≤ label_at nodes u
  pub back : (u d : ℕ) → u < node_count net → d < demand_count net → pos 0 <ℤ x u d → label_at nodes u ≤ label_at demands d + 1

-- a node's label is reached: something is left of its cap, or it carries an amount of a demand with the label before
abbrev pub ReachesNode : Network → (ℕ → ℕ → ℤ) → List ℕ → ℕ → ℕ → Type 0
ReachesNode net x demands u label = (pos 0 <ℤ spare_at net x u) ⊎ ((d : ℕ) × (d < demand_count net) × (pos 0 <ℤ x u d) × (label ≡ label_at demands d + 1))

-- a demand's label is reached: a node with this label has room for it
abbrev pub ReachesDemand : Network → (ℕ → ℕ → ℤ) → List ℕ → ℕ → ℕ → Type 0
ReachesDemand net x nodes d label = (u : ℕ) × (u < node_count net) × (x u d <ℤ room_of net u d) × (label_at nodes u ≡ label)

-- the greatest label of a node by the labels of the demands
pub record IsNodeLabel (net : Network) (x : ℕ → ℕ → ℤ) (demands : List ℕ) (u label : ℕ) : Type 0 where
  pub top : label ≤ top_of net
  pub spare : pos 0 <ℤ spare_at net x u → label ≡ 0
  pub back : (d : ℕ) → d < demand_count net → pos 0 <ℤ x u d → label ≤ label_at demands d + 1
  pub reached : label < top_of net → ReachesNode net x demands u label

-- the greatest label of a demand by the labels of the nodes
pub record IsDemandLabel (net : Network) (x : ℕ → ℕ → ℤ) (nodes : List ℕ) (d label : ℕ) : Type 0 where
  pub top : label ≤ top_of net
  pub along : (u : ℕ) → u < node_count net → x u d <ℤ room_of net u d → label ≤ label_at nodes u
  pub reached : label < top_of net → ReachesDemand net x nodes d label

-- each label below the top is reached
pub record AreReached (net : Network) (x : ℕ → ℕ → ℤ) (nodes demands : List ℕ) : Type 0 where
  pub node : (u : ℕ) → u < node_count net → label_at nodes u < top_of net → ReachesNode net x demands u (label_at nodes u)
  pub demand : (d : ℕ) → d < demand_count net → label_at demands d < top_of net → ReachesDemand net x nodes d (label_at demands d)

-- no label is smaller than before
pub record AreRaised (net : Network) (old_nodes nodes old_demands demands : List ℕ) : Type 0 where
  pub node : (u : ℕ) → u < node_count net → label_at old_nodes u ≤ label_at nodes u
  pub demand : (d : ℕ) → d < demand_count net → label_at old_demands d ≤ label_at demands d

-- no demand with a label below the top lacks anything
pub record AllFull (net : Network) (x : ℕ → ℕ → ℤ) (demands : List ℕ) : Type 0 where
  pub full : (d : ℕ) → d < demand_count net → label_at demands d < top_of net → lack_at net x d ≤ℤ pos 0

-- for a demand with a label below the top there is room at a node with something left of its cap, at label 0, or at one that carries an amount of a demand with the label before
pub record AreLinked (net : Network) (x : ℕ → ℕ → ℤ) (demands : List ℕ) : Type 0 where
  pub linked : (d : ℕ) → d < demand_count net → label_at demands d < top_of net → (u : ℕ) × (u < node_count net) × (x u d <ℤ room_of net u d) × (((label_at demands d ≡ 0) × (pos 0 <ℤ spare_at net x u)) ⊎ ((e : ℕ) × (e < demand_count net) × (pos 0 <ℤ x u e) × (label_at demands d ≡ label_at demands e + 1)))
