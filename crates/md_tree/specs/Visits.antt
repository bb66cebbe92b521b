-- What a visit of one node of a search tree does: nodes are visited in preorder.
use Rattle.std.specs.Prelude.{ℕ, List, ◌++◌, Option, None, Some}
use Rattle.md_setting.specs.Setting.{GeneralSetting}
use Rattle.md_mech.specs.declared.mechanism.Mechanism.{Mechanism}
use Rattle.md_mech.specs.Accepted.{IsAccepted}
use Rattle.md_determ_branching.specs.Fixed.{IsFree, children_of}
use Rattle.md_tree.specs.AnswerTo.{IsLeafFor}
use Rattle.md_tree.specs.Leaves.{IsSoundLeaf}
use Rattle.md_tree.specs.Verdicts.{IsLeafFault}
use Rattle.md_tree.specs.declared.node.Node.{Node}
use Rattle.md_tree.specs.declared.node.Node.TheVariants.{Branch, Infeasible, Optimal}
use Rattle.md_tree.specs.declared.verdict.DetReject.{DetReject}

-- the best mechanism, if there is one, is a mechanism of the setting with numbers in their range
abbrev pub IsBest : GeneralSetting → Option Mechanism → Type 0
IsBest s None = Unit {0}
IsBest s (Some best) = IsAccepted s best

-- the node is a leaf, and its mechanism, if it has one, is a mechanism of the setting with numbers in their range
abbrev pub IsLeafOf : GeneralSetting → Node → Type 0
IsLeafOf s (Branch rank) = ⊥
IsLeafOf s (Infeasible face) = Unit {0}
IsLeafOf s (Optimal m bound) = IsAccepted s m

-- the node fits what is fixed where it stands
abbrev pub IsNodeFor : GeneralSetting → List (Option ℕ) → Node → Type 0
IsNodeFor s fixed (Branch rank) = IsFree fixed rank
IsNodeFor s fixed leaf = IsLeafFor s fixed leaf

-- a branch stands where nothing is fixed, and a leaf anywhere
abbrev pub MayStand : List (Option ℕ) → Node → Type 0
MayStand fixed (Branch rank) = IsFree fixed rank
MayStand fixed leaf = Unit {0}

-- The open nodes once this one was visited, where this is fixed at it and the others were open behind it: a branch opens its
-- children before these.
abbrev pub opens_after : ℕ → List (Option ℕ) → Node → List (List (Option ℕ)) → List (List (Option ℕ))
opens_after outcomes fixed (Branch rank) others = children_of outcomes fixed rank ++ others
opens_after outcomes fixed leaf others = others

-- the node is a branch, or a leaf that shows what it is to show
abbrev pub IsSoundNode : GeneralSetting → Option Mechanism → List (Option ℕ) → Node → Type 0
IsSoundNode s best fixed (Branch rank) = Unit {0}
IsSoundNode s best fixed leaf = IsSoundLeaf s best fixed leaf

-- the node is a leaf of this number, and this is why it shows nothing
abbrev pub IsNodeFault : GeneralSetting → Option Mechanism → List (Option ℕ) → Node → ℕ → DetReject → Type 0
IsNodeFault s best fixed (Branch rank) number fault = ⊥
IsNodeFault s best fixed leaf number fault = IsLeafFault s best fixed leaf number fault
