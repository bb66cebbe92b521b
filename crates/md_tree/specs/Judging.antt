-- Verdicts on parts of an answer that come one after another: a valid one goes on, and any other stays.
use Rattle.std.specs.Prelude.{◌≡◌, ℕ, List, [], ◌∷◌, Option, Ok}
use Rattle.md_setting.specs.Setting.{GeneralSetting}
use Rattle.md_mech.specs.declared.mechanism.Mechanism.{Mechanism}
use Rattle.md_parts.specs.Reading.{Reading, Rest}
use Rattle.md_determ_branching.specs.Tour.{Tour, current_of, rest_of}
use Rattle.md_tree.specs.declared.answer.DetAnswer.{DetAnswer}
use Rattle.md_tree.specs.declared.node.Node.{Node}
use Rattle.md_tree.specs.declared.verdict.DetVerdict.{DetVerdict}
use Rattle.md_tree.specs.declared.verdict.DetVerdict.TheVariants.{Valid, Undecided, Rejected}
use Rattle.md_tree.specs.AnswerTo.{IsDetAnswerTo, IsLeafFor}
use Rattle.md_tree.specs.Trees.{IsTree, root_of}
use Rattle.md_tree.specs.Verdicts.{IsVerdict, IsVerdictFrom}
use Rattle.md_tree.specs.Visits.{IsNodeFault, IsNodeFor, IsSoundNode, opens_after}
use Rattle.md_tree.specs.AnswerText.{determ_answer_of}
use Rattle.md_tree.specs.TreeText.{node_of, tree_of}

-- the verdict behind the trees at these open nodes, where this one stands before them and the first node has this number
abbrev pub IsJudgedFrom : GeneralSetting → Option Mechanism → List (List (Option ℕ)) → ℕ → List Node → DetVerdict → DetVerdict → Type 0
IsJudgedFrom s best opens number nodes Valid last = IsVerdictFrom s best opens number nodes last
IsJudgedFrom s best opens number nodes known last = last ≡ known

-- the same of one whole tree
abbrev pub IsTreeJudged : GeneralSetting → Option Mechanism → List Node → DetVerdict → DetVerdict → Type 0
IsTreeJudged s best tree known last = IsJudgedFrom s best (root_of s ∷ []) 0 tree known last

-- the verdict on one node of this number
abbrev pub IsNodeVerdict : GeneralSetting → Option Mechanism → List (Option ℕ) → Node → ℕ → DetVerdict → Type 0
IsNodeVerdict s best fixed node number Valid = IsSoundNode s best fixed node
IsNodeVerdict s best fixed node number Undecided = ⊥
IsNodeVerdict s best fixed node number (Rejected fault) = IsNodeFault s best fixed node number fault

-- the verdict behind it, where this one stands before it
abbrev pub IsNodeJudged : GeneralSetting → Option Mechanism → List (Option ℕ) → Node → ℕ → DetVerdict → DetVerdict → Type 0
IsNodeJudged s best fixed node number Valid last = IsNodeVerdict s best fixed node number last
IsNodeJudged s best fixed node number known last = last ≡ known

-- ---- what is read

-- a node that was read, of this number, the verdict behind it, where this one stands before it, and the tour behind it
pub record IsNextJudged (s : GeneralSetting) (best : Option Mechanism) (tour later : Tour) (old new : Rest) (number : ℕ) (known last : DetVerdict) : Type 0 where
  pub node : Node
  pub reads : node_of s (current_of tour) old ≡ Ok (node, new)
  pub fits : IsNodeFor s (current_of tour) node
  pub judged : IsNodeJudged s best (current_of tour) node number known last
  pub outcomes : later.outcomes ≡ tour.outcomes
  pub ranks : later.ranks ≡ tour.ranks
  pub opens : later.opens ≡ opens_after tour.outcomes (current_of tour) node (rest_of tour)

-- a tree that was read, and the verdict behind it
pub record IsJudgedTree (s : GeneralSetting) (best : Option Mechanism) (known : DetVerdict) (old new : Rest) (last : DetVerdict) : Type 0 where
  pub tree : List Node
  pub reads : tree_of s old ≡ Ok (tree, new)
  pub fits : IsTree s (IsLeafFor s) tree
  pub judged : IsTreeJudged s best tree known last

-- an answer that was read, and the verdict on it where nothing failed before
pub record IsJudged (s : GeneralSetting) (reading : Reading DetAnswer) (known : DetVerdict) (old new : Rest) (last : DetVerdict) : Type 0 where
  pub answer : DetAnswer
  pub reads : reading old ≡ Ok (answer, new)
  pub fits : IsDetAnswerTo s answer
  pub judged : known ≡ Valid → IsVerdict s answer last

-- the same of a whole text
pub record IsJudgedText (s : GeneralSetting) (bytes : List ℕ) (known last : DetVerdict) : Type 0 where
  pub answer : DetAnswer
  pub reads : determ_answer_of s bytes ≡ Ok answer
  pub fits : IsDetAnswerTo s answer
  pub judged : known ≡ Valid → IsVerdict s answer last
