-- A loop that writes the nodes of a tree.
use Rattle.std.proofs.Common.{◌≡◌, ◌≢◌, ℕ, ◌+◌, ◌≤◌, List, [], ◌∷◌, ◌++◌, length, drop, Option, Some, refl, sym, ap, ap₂, subst, ◌∙◌, add-one, append-nil, append_assoc, drop-cons}
use Rattle.std.specs.Prelude.{slice_get}
use Rattle.std.proofs.lemmas.List.{drop_all}
use Rattle.std.proofs.lemmas.Option.{get_or_from_slice_get, slice_get_within}
use Rattle.md_space.specs.Profiles.{profile_count}
use Rattle.md_setting.specs.Setting.{GeneralSetting}
use Rattle.md_setting.specs.Meaning.{outcome_count, sizes_of}
use Rattle.md_determ_branching.specs.Fixed.{nothing_fixed, AreOutcomes}
use Rattle.md_determ_branching.specs.Tour.{Tour, current_of, rest_of}
use Rattle.md_determ_node.specs.NodeProgram.{IsNode}
use Rattle.md_tree.specs.AnswerTo.{IsLeafFor}
use Rattle.md_tree.specs.Trees.{AreTrees, IsTree, root_of}
use Rattle.md_tree.specs.declared.node.Node.{Node}
use Rattle.md_tree.specs.Visits.{IsNodeFor, MayStand, opens_after}
use Rattle.md_tree.specs.Rows.{rows_at, rows_from, tree_rows}
use Rattle.md_tree.proofs.TreesRead.{stands}
use Rattle.md_tree.proofs.TreesWritten.{trees-first}

abbrev Rows : Type 0
Rows = List (List (List ℕ))

-- what is fixed at a node of the walk
pub node-of : (s : GeneralSetting) (outcomes ranks : ℕ) (fixed : List (Option ℕ)) → outcomes ≡ outcome_count s → ranks ≡ profile_count (sizes_of s) → length fixed ≡ ranks → AreOutcomes outcomes fixed → IsNode s fixed
node-of s outcomes ranks fixed o r long are = record { one_each = long ∙ r; outcomes = subst (λ (n : ℕ). AreOutcomes n fixed) o are }

-- the nodes that were written, and what is open behind them
pub record ArePushed (s : GeneralSetting) (old now : Rows) (tour : Tour) (tree : List Node) (place : ℕ) : Type 0 where
  pub outcomes : tour.outcomes ≡ outcome_count s
  pub ranks : tour.ranks ≡ profile_count (sizes_of s)
  pub written : now ++ rows_from s tour.opens (drop place tree) ≡ old ++ tree_rows s tree
  pub trees : AreTrees (outcome_count s) (IsLeafFor s) tour.opens (drop place tree)

pub pushed-start : (s : GeneralSetting) (rows : Rows) (outcomes ranks : ℕ) (tour : Tour) (tree : List Node) → outcomes ≡ outcome_count s → ranks ≡ profile_count (sizes_of s) → tour ≡ record { outcomes = outcomes; ranks = ranks; opens = nothing_fixed ranks ∷ [] }
    → IsTree s (IsLeafFor s) tree → ArePushed s rows rows tour tree 0
pushed-start s rows outcomes ranks tour tree o r is h =
    let first : record { outcomes = outcomes; ranks = ranks; opens = nothing_fixed ranks ∷ [] } ≡ record { outcomes = outcome_count s; ranks = profile_count (sizes_of s); opens = root_of s ∷ [] } =
    ap₂ (λ (n m : ℕ). record { outcomes = n; ranks = m; opens = nothing_fixed m ∷ [] }) o r in
    subst (λ (t : Tour). ArePushed s rows rows t tree 0) (sym (is ∙ first)) (record { outcomes = refl; ranks = refl; written = refl; trees = h })

-- the node at a place, and those behind it
from-place : (tree : List Node) (place : ℕ) (node : Node) → slice_get tree place ≡ Some node → drop place tree ≡ node ∷ drop (place + 1) tree
from-place tree place node at =
    drop-cons tree place node (slice_get_within tree place node at) ∙ ap₂ (λ (n : Node) (k : ℕ). n ∷ drop k tree) (get_or_from_slice_get tree place node node at) (sym (add-one place))

-- some node is open where one is left
open-if : (s : GeneralSetting) (outcomes : ℕ) (opens : List (List (Option ℕ))) (node : Node) (nodes : List Node) → AreTrees outcomes (IsLeafFor s) opens (node ∷ nodes) → opens ≢ []
open-if s outcomes [] node nodes h = absurd h
open-if s outcomes (fixed ∷ opens) node nodes h = λ e. cc

pub pushed-open : (s : GeneralSetting) (old now : Rows) (tour : Tour) (tree : List Node) (place : ℕ) (node : Node) → ArePushed s old now tour tree place → slice_get tree place ≡ Some node → tour.opens ≢ []
pushed-open s old now tour tree place node h at =
    open-if s (outcome_count s) tour.opens node (drop (place + 1) tree) (subst (λ (ns : List Node). AreTrees (outcome_count s) (IsLeafFor s) tour.opens ns) (from-place tree place node at) h.trees)

both : (s : GeneralSetting) (old now : Rows) (tour : Tour) (fixed : List (Option ℕ)) (tree : List Node) (place : ℕ) (node : Node) → ArePushed s old now tour tree place → tour.opens ≡ fixed ∷ rest_of tour → slice_get tree place ≡ Some node
    → IsNodeFor s fixed node × AreTrees (outcome_count s) (IsLeafFor s) (opens_after (outcome_count s) fixed node (rest_of tour)) (drop (place + 1) tree)
both s old now tour fixed tree place node h open_is at =
    let trees = subst (λ (ns : List Node). AreTrees (outcome_count s) (IsLeafFor s) tour.opens ns) (from-place tree place node at) h.trees in
    trees-first s (outcome_count s) fixed (rest_of tour) node (drop (place + 1) tree) (subst (λ (os : List (List (Option ℕ))). AreTrees (outcome_count s) (IsLeafFor s) os (node ∷ drop (place + 1) tree)) open_is trees)

pub pushed-node : (s : GeneralSetting) (old now : Rows) (tour : Tour) (fixed : List (Option ℕ)) (tree : List Node) (place : ℕ) (node : Node) → ArePushed s old now tour tree place → tour.opens ≡ fixed ∷ rest_of tour → slice_get tree place ≡ Some node
    → IsNodeFor s fixed node
pushed-node s old now tour fixed tree place node h open_is at = (both s old now tour fixed tree place node h open_is at).0

pub pushed-stands : (s : GeneralSetting) (old now : Rows) (tour : Tour) (fixed : List (Option ℕ)) (tree : List Node) (place : ℕ) (node : Node) → ArePushed s old now tour tree place → tour.opens ≡ fixed ∷ rest_of tour → fixed ≡ current_of tour
    → slice_get tree place ≡ Some node → MayStand (current_of tour) node
pushed-stands s old now tour fixed tree place node h open_is current at =
    subst (λ (f : List (Option ℕ)). MayStand f node) current (stands s fixed node (pushed-node s old now tour fixed tree place node h open_is at))

pub pushed-more : (s : GeneralSetting) (old now next : Rows) (tour later : Tour) (fixed : List (Option ℕ)) (tree : List Node) (place : ℕ) (node : Node) → ArePushed s old now tour tree place → tour.opens ≡ fixed ∷ rest_of tour → fixed ≡ current_of tour
    → slice_get tree place ≡ Some node → next ≡ now ++ rows_at s fixed node → later.outcomes ≡ tour.outcomes → later.ranks ≡ tour.ranks → later.opens ≡ opens_after tour.outcomes (current_of tour) node (rest_of tour)
    → ArePushed s old next later tree (place + 1)
pushed-more s old now next tour later fixed tree place node h open_is current at rows outcomes ranks opens =
    let here : later.opens ≡ opens_after (outcome_count s) fixed node (rest_of tour) =
    opens ∙ ap₂ (λ (k : ℕ) (f : List (Option ℕ)). opens_after k f node (rest_of tour)) h.outcomes (sym current) in
    let behind = rows_from s (opens_after (outcome_count s) fixed node (rest_of tour)) (drop (place + 1) tree) in
    record {
      outcomes = outcomes ∙ h.outcomes;
      ranks = ranks ∙ h.ranks;
      written = ap₂ (λ (l : Rows) (os : List (List (Option ℕ))). l ++ rows_from s os (drop (place + 1) tree)) rows here ∙ append_assoc now (rows_at s fixed node) behind
          ∙ sym (ap₂ (λ (os : List (List (Option ℕ))) (ns : List Node). now ++ rows_from s os ns) open_is (from-place tree place node at)) ∙ h.written;
      trees = subst (λ (os : List (List (Option ℕ))). AreTrees (outcome_count s) (IsLeafFor s) os (drop (place + 1) tree)) (sym here) (both s old now tour fixed tree place node h open_is at).1;
    }

rows-none : (s : GeneralSetting) (opens : List (List (Option ℕ))) → rows_from s opens [] ≡ []
rows-none s [] = refl
rows-none s (fixed ∷ opens) = refl

pub pushed-all : (s : GeneralSetting) (old now : Rows) (tour : Tour) (tree : List Node) (place : ℕ) → ArePushed s old now tour tree place → length tree ≤ place → now ≡ old ++ tree_rows s tree
pushed-all s old now tour tree place h l =
    sym (append-nil now) ∙ ap (λ (rows : Rows). now ++ rows) (sym (ap (λ (ns : List Node). rows_from s tour.opens ns) (drop_all place tree l) ∙ rows-none s tour.opens)) ∙ h.written

-- a record, and those behind it
pub leaf-rows : (old mid new rest others : Rows) (row : List (List ℕ)) → mid ≡ old ++ row ∷ [] → rest ≡ others → new ≡ mid ++ rest → new ≡ old ++ row ∷ others
leaf-rows old mid new rest others row first same more =
    more ∙ ap₂ (λ (a b : Rows). a ++ b) first same ∙ append_assoc old (row ∷ []) others
