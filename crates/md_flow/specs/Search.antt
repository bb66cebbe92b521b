-- What a search for a path knows of demands: the node by which a demand is entered, and the demand before it.
use Rattle.std.specs.Prelude.{ℕ, ◌+◌, ◌<◌, ◌≡◌, ℤ, pos, ◌<ℤ◌, List, slice_index, slice_set, length}
use Rattle.md_flow.specs.Network.{Network, node_count, demand_count, room_of}
use Rattle.md_flow.specs.Labels.{spare_at, label_at, top_of}

-- a demand is known where its entry is a node
abbrev pub entry_at : List ℕ → ℕ → ℕ
entry_at entries d = slice_index entries d

-- the entry of a demand has room for it; that of a demand with label 0 has something left of its cap, and that of another carries an amount of a known demand with the label before
pub record IsEntry (net : Network) (x : ℕ → ℕ → ℤ) (labels entries before : List ℕ) (d : ℕ) : Type 0 where
  pub room : x (entry_at entries d) d <ℤ room_of net (entry_at entries d) d
  pub first : label_at labels d ≡ 0 → pos 0 <ℤ spare_at net x (entry_at entries d)
  pub inside : 0 < label_at labels d → entry_at before d < demand_count net
  pub level : 0 < label_at labels d → label_at labels d ≡ label_at labels (entry_at before d) + 1
  pub carrying : 0 < label_at labels d → pos 0 <ℤ x (entry_at entries d) (entry_at before d)
  pub known : 0 < label_at labels d → entry_at entries (entry_at before d) < node_count net

pub record AreEntries (net : Network) (x : ℕ → ℕ → ℤ) (labels entries before : List ℕ) : Type 0 where
  pub one_entry : length entries ≡ demand_count net
  pub one_before : length before ≡ demand_count net
  pub at : (d : ℕ) → d < demand_count net → entry_at entries d < node_count net → IsEntry net x labels entries before d

-- each demand with a label below the level and below the top is known
pub record AreKnown (net : Network) (labels entries : List ℕ) (level : ℕ) : Type 0 where
  pub known : (d : ℕ) → d < demand_count net → label_at labels d < level → label_at labels d < top_of net → entry_at entries d < node_count net

-- one demand is entered from another, and the rest stays
pub record EntersFrom (net : Network) (x : ℕ → ℕ → ℤ) (other demand : ℕ) (entries entries' before before' : List ℕ) : Type 0 where
  pub node : ℕ
  pub inside : node < node_count net
  pub room : x node demand <ℤ room_of net node demand
  pub carrying : pos 0 <ℤ x node other
  pub entries_are : entries' ≡ slice_set entries demand node
  pub before_is : before' ≡ slice_set before demand other
