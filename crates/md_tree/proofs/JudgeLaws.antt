-- What the verdict behind one part says of those that come after it.
use Rattle.std.proofs.Common.{ℕ, suc, List, [], ◌∷◌, drop, Option, Some, refl}
use Rattle.std.specs.Prelude.{slice_index_or}
use Rattle.md_num.specs.declared.frac.Frac.{Frac}
use Rattle.md_setting.specs.Setting.{GeneralSetting}
use Rattle.md_setting.specs.Meaning.{outcome_count}
use Rattle.md_mech.specs.declared.mechanism.Mechanism.{Mechanism}
use Rattle.md_mech.specs.Value.{HasValue}
use Rattle.md_tree.specs.AnswerTo.{IsLeafFor}
use Rattle.md_tree.specs.Trees.{AreTrees}
use Rattle.md_claims.specs.Values.{IsOtherValue}
use Rattle.md_tree.specs.Verdicts.{IsOptimalVerdict, IsRule, IsRuleFault}
use Rattle.md_tree.specs.Visits.{opens_after}
use Rattle.md_tree.specs.declared.node.Node.{Node}
use Rattle.md_tree.specs.declared.verdict.DetReject.{DetReject}
use Rattle.md_tree.specs.declared.verdict.DetReject.TheVariants.{Lottery, Audit, Value, Leaf, Worth, Root}
use Rattle.md_tree.specs.declared.verdict.DetVerdict.{DetVerdict}
use Rattle.md_tree.specs.declared.verdict.DetVerdict.TheVariants.{Valid, Undecided, Rejected}
use Rattle.md_tree.specs.Judging.{IsJudgedFrom, IsNodeJudged, IsTreeJudged}
use Rattle.md_tree.proofs.OneVerdict.{optimal-by_tree}
use Rattle.md_tree.proofs.VisitLaws.{verdict-after, verdict-here}

-- ---- trees

-- the verdict behind what follows a node is the one behind both
pub judged-after : (s : GeneralSetting) (best : Option Mechanism) (opens : List (List (Option ℕ))) (number : ℕ) (node : Node) (nodes : List Node) (known now last : DetVerdict)
    → AreTrees (outcome_count s) (IsLeafFor s) opens (node ∷ nodes) → IsNodeJudged s best (slice_index_or opens 0 []) node number known now
    → IsJudgedFrom s best (opens_after (outcome_count s) (slice_index_or opens 0 []) node (drop 1 opens)) (suc number) nodes now last
    → IsJudgedFrom s best opens number (node ∷ nodes) known last
judged-after s best opens number node nodes Valid Valid last trees one h = verdict-after s best opens number node nodes last trees one h
judged-after s best opens number node nodes Valid Undecided last trees one h = absurd one
judged-after s best opens number node nodes Valid (Rejected fault) last trees one h = rw h (verdict-here s best opens number node nodes fault trees one)
judged-after s best opens number node nodes Undecided now last trees one h = (rw one at h)
judged-after s best opens number node nodes (Rejected fault) now last trees one h = (rw one at h)

-- where no node is left the verdict stays
pub judged-end : (s : GeneralSetting) (best : Option Mechanism) (number : ℕ) (known : DetVerdict) → IsJudgedFrom s best [] number [] known known
judged-end s best number Valid = tt
judged-end s best number Undecided = refl
judged-end s best number (Rejected fault) = refl

-- ---- mechanisms

module _ (s : GeneralSetting) (value : Frac) (m : Mechanism) (tree : List Node) (last : DetVerdict) where
  pub fault-judged : (fault : DetReject) → IsRuleFault s m fault → IsTreeJudged s (Some m) tree (Rejected fault) last → IsOptimalVerdict s value m tree last
  fault-judged (Lottery rank) f h = rw h f
  fault-judged (Audit broken) f h = rw h f
  fault-judged (Value right) f h = absurd f
  fault-judged (Leaf node) f h = absurd f
  fault-judged (Worth node) f h = absurd f
  fault-judged Root f h = absurd f

  pub value-judged : (right : Frac) → IsRule s m → IsOtherValue s m value right → IsTreeJudged s (Some m) tree (Rejected (Value right)) last → IsOptimalVerdict s value m tree last
  value-judged right rule other h = rw h (rule, other)

  pub rule-judged : IsRule s m → HasValue s m value → IsTreeJudged s (Some m) tree Valid last → IsOptimalVerdict s value m tree last
  rule-judged rule has h = optimal-by_tree s value m tree rule has last h
