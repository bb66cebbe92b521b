-- What a visit of one node says of the trees that stand at the open nodes.
use Rattle.std.proofs.Common.{◌≡◌, ℕ, suc, ◌+◌, ◌<◌, List, [], ◌∷◌, length, get_or, drop, Option, Some, inl, inr, sym, ap, ◌∙◌, subst, add-one, drop-cons}
use Rattle.std.proofs.lemmas.Option.{same_Some, slice_get-get_or}
use Rattle.std.specs.Prelude.{slice_get, slice_index_or}
use Rattle.md_space.specs.Profiles.{profile_count}
use Rattle.md_setting.specs.Setting.{GeneralSetting}
use Rattle.md_setting.specs.Meaning.{outcome_count, sizes_of}
use Rattle.md_mech.specs.declared.mechanism.Mechanism.{Mechanism}
use Rattle.md_determ_branching.specs.Tour.{Tour, current_of, rest_of}
use Rattle.md_tree.specs.Trees.{AreTrees, root_of}
use Rattle.md_tree.specs.AnswerTo.{IsLeafFor}
use Rattle.md_tree.specs.Verdicts.{IsVerdictFrom, IsTreeVerdict}
use Rattle.md_tree.specs.Visits.{IsNodeFor, IsSoundNode, IsNodeFault, opens_after}
use Rattle.md_tree.specs.declared.node.Node.{Node}
use Rattle.md_tree.specs.declared.node.Node.TheVariants.{Branch, Infeasible, Optimal}
use Rattle.md_tree.specs.declared.verdict.DetReject.{DetReject}
use Rattle.md_tree.specs.declared.verdict.DetVerdict.{DetVerdict}
use Rattle.md_tree.specs.declared.verdict.DetVerdict.TheVariants.{Valid, Undecided, Rejected}

-- ---- lists of open nodes

-- the node fits the first open node
pub first-for : (s : GeneralSetting) (opens : List (List (Option ℕ))) (node : Node) (nodes : List Node) → AreTrees (outcome_count s) (IsLeafFor s) opens (node ∷ nodes)
    → IsNodeFor s (slice_index_or opens 0 []) node
first-for s [] node nodes h = absurd h
first-for s (fixed ∷ opens) (Branch rank) nodes h = h.0
first-for s (fixed ∷ opens) (Infeasible face) nodes h = h.0
first-for s (fixed ∷ opens) (Optimal m bound) nodes h = h.0

pub some-open : (s : GeneralSetting) (opens : List (List (Option ℕ))) (node : Node) (nodes : List Node) → AreTrees (outcome_count s) (IsLeafFor s) opens (node ∷ nodes)
    → opens ≡ [] → ⊥
some-open s [] node nodes h none = h
some-open s (fixed ∷ opens) node nodes h none = cc

-- the trees at the open nodes that are left
pub trees-after : (s : GeneralSetting) (opens : List (List (Option ℕ))) (node : Node) (nodes : List Node) → AreTrees (outcome_count s) (IsLeafFor s) opens (node ∷ nodes)
    → AreTrees (outcome_count s) (IsLeafFor s) (opens_after (outcome_count s) (slice_index_or opens 0 []) node (drop 1 opens)) nodes
trees-after s [] node nodes h = absurd h
trees-after s (fixed ∷ opens) (Branch rank) nodes h = h.1
trees-after s (fixed ∷ opens) (Infeasible face) nodes h = h.1
trees-after s (fixed ∷ opens) (Optimal m bound) nodes h = h.1

-- ---- verdicts

-- a verdict on what is left is one on all, where the node is sound
pub verdict-after : (s : GeneralSetting) (best : Option Mechanism) (opens : List (List (Option ℕ))) (number : ℕ) (node : Node) (nodes : List Node) (v : DetVerdict)
    → AreTrees (outcome_count s) (IsLeafFor s) opens (node ∷ nodes) → IsSoundNode s best (slice_index_or opens 0 []) node
    → IsVerdictFrom s best (opens_after (outcome_count s) (slice_index_or opens 0 []) node (drop 1 opens)) (suc number) nodes v
    → IsVerdictFrom s best opens number (node ∷ nodes) v
verdict-after s best [] number node nodes v trees sound h = absurd trees
verdict-after s best (fixed ∷ opens) number (Branch rank) nodes Valid trees sound h = (trees.0, h)
verdict-after s best (fixed ∷ opens) number (Branch rank) nodes Undecided trees sound h = absurd h
verdict-after s best (fixed ∷ opens) number (Branch rank) nodes (Rejected fault) trees sound h = h
verdict-after s best (fixed ∷ opens) number (Infeasible face) nodes Valid trees sound h = (sound, h)
verdict-after s best (fixed ∷ opens) number (Infeasible face) nodes Undecided trees sound h = absurd h
verdict-after s best (fixed ∷ opens) number (Infeasible face) nodes (Rejected fault) trees sound h = inr (sound, h)
verdict-after s best (fixed ∷ opens) number (Optimal m bound) nodes Valid trees sound h = (sound, h)
verdict-after s best (fixed ∷ opens) number (Optimal m bound) nodes Undecided trees sound h = absurd h
verdict-after s best (fixed ∷ opens) number (Optimal m bound) nodes (Rejected fault) trees sound h = inr (sound, h)

-- the fault of a node is that of all
pub verdict-here : (s : GeneralSetting) (best : Option Mechanism) (opens : List (List (Option ℕ))) (number : ℕ) (node : Node) (nodes : List Node) (fault : DetReject)
    → AreTrees (outcome_count s) (IsLeafFor s) opens (node ∷ nodes) → IsNodeFault s best (slice_index_or opens 0 []) node number fault
    → IsVerdictFrom s best opens number (node ∷ nodes) (Rejected fault)
verdict-here s best [] number node nodes fault trees h = absurd trees
verdict-here s best (fixed ∷ opens) number (Branch rank) nodes fault trees h = absurd h
verdict-here s best (fixed ∷ opens) number (Infeasible face) nodes fault trees h = inl h
verdict-here s best (fixed ∷ opens) number (Optimal m bound) nodes fault trees h = inl h

-- where no node is left the verdict is valid
pub verdict-end : (s : GeneralSetting) (best : Option Mechanism) (opens : List (List (Option ℕ))) (number : ℕ) → AreTrees (outcome_count s) (IsLeafFor s) opens []
    → IsVerdictFrom s best opens number [] Valid
verdict-end s best [] number trees = tt
verdict-end s best (fixed ∷ opens) number trees = absurd trees

-- ---- the way through a tree

-- The nodes before a place were visited and are sound: those from the place on are the trees at the open nodes, and a verdict on
-- them is one on the whole tree.
pub record IsOnWay (s : GeneralSetting) (best : Option Mechanism) (tree : List Node) (tour : Tour) (place : ℕ) : Type 0 where
  pub ranks : tour.ranks ≡ profile_count (sizes_of s)
  pub outcomes : tour.outcomes ≡ outcome_count s
  pub trees : AreTrees (outcome_count s) (IsLeafFor s) tour.opens (drop place tree)
  pub verdicts : (v : DetVerdict) → IsVerdictFrom s best tour.opens place (drop place tree) v → IsTreeVerdict s best tree v

rest-at : (tree : List Node) (place : ℕ) (node : Node) → place < length tree → slice_get tree place ≡ Some node → drop place tree ≡ node ∷ drop (suc place) tree
rest-at tree place node below at = drop-cons tree place node below
    ∙ ap (λ first. first ∷ drop (suc place) tree) (same_Some (get_or tree place node) node (sym (slice_get-get_or tree place node below) ∙ at))

module _ (s : GeneralSetting) (best : Option Mechanism) (tree : List Node) (tour : Tour) (place : ℕ) (node : Node)
    (way : IsOnWay s best tree tour place) (below : place < length tree) (at : slice_get tree place ≡ Some node) where
  rest : drop place tree ≡ node ∷ drop (suc place) tree
  rest = rest-at tree place node below at

  here : AreTrees (outcome_count s) (IsLeafFor s) tour.opens (node ∷ drop (suc place) tree)
  here = subst (AreTrees (outcome_count s) (IsLeafFor s) tour.opens) rest way.trees

  pub way-open : tour.opens ≡ [] → ⊥
  way-open none = some-open s tour.opens node (drop (suc place) tree) here none

  pub way-node : IsNodeFor s (current_of tour) node
  way-node = first-for s tour.opens node (drop (suc place) tree) here

  pub way-fault : (fault : DetReject) → IsNodeFault s best (current_of tour) node place fault → IsTreeVerdict s best tree (Rejected fault)
  way-fault fault h =
      way.verdicts (Rejected fault)
      (subst (λ nodes. IsVerdictFrom s best tour.opens place nodes (Rejected fault)) (sym rest) (verdict-here s best tour.opens place node (drop (suc place) tree) fault here h))

  pub way-on : (new : Tour) → new.outcomes ≡ tour.outcomes → new.ranks ≡ tour.ranks → new.opens ≡ opens_after tour.outcomes (current_of tour) node (rest_of tour)
      → IsSoundNode s best (current_of tour) node → IsOnWay s best tree new (place + 1)
  way-on new same_outcomes same_ranks opens sound = rw add-one next
    where
      nodes : List Node
      nodes = drop (suc place) tree

      left : List (List (Option ℕ))
      left = opens_after (outcome_count s) (current_of tour) node (rest_of tour)

      opens_are : new.opens ≡ left
      opens_are = opens ∙ ap (λ outcomes. opens_after outcomes (current_of tour) node (rest_of tour)) way.outcomes

      verdict : (v : DetVerdict) → IsVerdictFrom s best left (suc place) nodes v → IsTreeVerdict s best tree v
      verdict v h =
          way.verdicts v (subst (λ rest. IsVerdictFrom s best tour.opens place rest v) (sym rest) (verdict-after s best tour.opens place node nodes v here sound h))

      next : IsOnWay s best tree new (suc place)
      next = record {
        ranks = same_ranks ∙ way.ranks;
        outcomes = same_outcomes ∙ way.outcomes;
        trees = subst (λ os. AreTrees (outcome_count s) (IsLeafFor s) os nodes) (sym opens_are) (trees-after s tour.opens node nodes here);
        verdicts = λ v h. verdict v (subst (λ os. IsVerdictFrom s best os (suc place) nodes v) opens_are h);
      }

pub way-start : (s : GeneralSetting) (best : Option Mechanism) (tree : List Node) (tour : Tour) → tour.ranks ≡ profile_count (sizes_of s) → tour.outcomes ≡ outcome_count s
    → tour.opens ≡ root_of s ∷ [] → AreTrees (outcome_count s) (IsLeafFor s) (root_of s ∷ []) tree → IsOnWay s best tree tour 0
way-start s best tree tour ranks outcomes opens trees = record {
  ranks = ranks;
  outcomes = outcomes;
  trees = subst (λ os. AreTrees (outcome_count s) (IsLeafFor s) os tree) (sym opens) trees;
  verdicts = λ v h. subst (λ os. IsVerdictFrom s best os 0 tree v) opens h;
}

pub way-end : (s : GeneralSetting) (best : Option Mechanism) (tree : List Node) (tour : Tour) (place : ℕ) → IsOnWay s best tree tour place → drop place tree ≡ [] → IsTreeVerdict s best tree Valid
way-end s best tree tour place way end =
    way.verdicts Valid
    (subst (λ nodes. IsVerdictFrom s best tour.opens place nodes Valid) (sym end)
    (verdict-end s best tour.opens place (subst (AreTrees (outcome_count s) (IsLeafFor s) tour.opens) end way.trees)))
