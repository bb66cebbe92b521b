-- Answers that were read part by part, with the verdict behind each part.
use Rattle.std.proofs.Common.{◌≡◌, ℕ, pos, ◌<ℤ◌, List, None, Some, Ok, Err, refl, subst}
use Rattle.std.specs.Prelude.{◌↔◌}
use Rattle.md_num.specs.declared.frac.Frac.{Frac}
use Rattle.md_setting.specs.Setting.{GeneralSetting}
use Rattle.md_setting.specs.Meaning.{total_of}
use Rattle.md_mech.specs.declared.mechanism.Mechanism.{Mechanism}
use Rattle.md_mech.specs.Accepted.{IsAccepted}
use Rattle.md_parts.specs.declared.refusal.AnswerRefusal.{AnswerRefusal}
use Rattle.md_parts.specs.Fitting.{IsFraction}
use Rattle.md_parts.specs.Reading.{Rest}
use Rattle.md_parts.specs.Table.{mechanism_of, value_of}
use Rattle.md_tree.specs.declared.answer.DetAnswer.{DetAnswer}
use Rattle.md_tree.specs.declared.answer.DetAnswer.TheVariants as answers
use Rattle.md_tree.specs.declared.node.Node.{Node}
use Rattle.md_tree.specs.declared.verdict.DetReject.TheVariants.{Lottery, Audit, Value, Leaf, Worth, Root}
use Rattle.md_tree.specs.declared.verdict.DetVerdict.{DetVerdict}
use Rattle.md_tree.specs.declared.verdict.DetVerdict.TheVariants.{Valid, Undecided, Rejected}
use Rattle.md_tree.specs.Verdicts.{ClaimsNothing, IsOptimalVerdict, IsTreeVerdict, IsUnboundedVerdict, IsVerdict}
use Rattle.md_tree.specs.AnswerText.{infeasible_answer, optimal_answer}
use Rattle.md_tree.specs.TreeText.{tree_of}
use Rattle.md_tree.specs.Judging.{IsJudged, IsJudgedText, IsJudgedTree, IsTreeJudged}
use Rattle.md_tree.specs.Texts.{IsCheckedText}
use Rattle.md_tree.proofs.AnswerLaws.{if_valid}
use Rattle.md_tree.proofs.OneVerdict.{one-tree, one-unbounded, optimal-only_fault, optimal-only_tree, optimal-only_value}

-- ---- a tree alone

pub infeasible-judged : (s : GeneralSetting) (known last : DetVerdict) (old new : Rest) → IsJudgedTree s None known old new last → IsJudged s (infeasible_answer s) known old new last
infeasible-judged s known last old new h = record {
  answer = answers.Infeasible h.tree;
  reads = rw h.reads refl;
  fits = h.fits;
  judged = λ is. subst (λ (v : DetVerdict). IsTreeJudged s None h.tree v last) is h.judged;
}

pub infeasible-fails : (s : GeneralSetting) (old : Rest) (refusal : AnswerRefusal) → tree_of s old ≡ Err refusal → infeasible_answer s old ≡ Err refusal
infeasible-fails s old refusal e = rw e refl

-- ---- a value, a mechanism and a tree

pub optimal-judged : (s : GeneralSetting) (value : Frac) (m : Mechanism) (known ruled last : DetVerdict) (old mid now new : Rest) → value_of old ≡ Ok (value, mid) → mechanism_of s mid ≡ Ok (m, now)
    → IsFraction value.num value.den → IsAccepted s m
    → (known ≡ Valid → (tree : List Node) (v : DetVerdict) → IsTreeJudged s (Some m) tree ruled v → IsOptimalVerdict s value m tree v)
    → IsJudgedTree s (Some m) ruled now new last → IsJudged s (optimal_answer s) known old new last
optimal-judged s value m known ruled last old mid now new first next fraction accepted rule h = record {
  answer = answers.Optimal value m h.tree;
  reads = rw (first, next, h.reads) refl;
  fits = (fraction, accepted, h.fits);
  judged = λ is. rule is h.tree last h.judged;
}

pub optimal-fails : (s : GeneralSetting) (value : Frac) (m : Mechanism) (old mid now : Rest) (refusal : AnswerRefusal) → value_of old ≡ Ok (value, mid) → mechanism_of s mid ≡ Ok (m, now)
    → tree_of s now ≡ Err refusal → optimal_answer s old ≡ Err refusal
optimal-fails s value m old mid now refusal first next e = rw (first, next, e) refl

-- ---- what a verdict says

one-optimal : (s : GeneralSetting) (value : Frac) (m : Mechanism) (tree : List Node) (v w : DetVerdict) → pos 0 <ℤ total_of s → IsOptimalVerdict s value m tree v → IsOptimalVerdict s value m tree w → w ≡ v
one-optimal s value m tree (Rejected (Lottery rank)) w total h k = optimal-only_fault s value m tree (Lottery rank) h w k
one-optimal s value m tree (Rejected (Audit broken)) w total h k = optimal-only_fault s value m tree (Audit broken) h w k
one-optimal s value m tree (Rejected (Value right)) w total h k = optimal-only_value s value m tree right total h.0 h.1 w k
one-optimal s value m tree (Rejected (Leaf node)) w total h k = optimal-only_tree s value m tree h.0 h.1 (Rejected (Leaf node)) h.2 w k
one-optimal s value m tree (Rejected (Worth node)) w total h k = optimal-only_tree s value m tree h.0 h.1 (Rejected (Worth node)) h.2 w k
one-optimal s value m tree (Rejected Root) w total h k = optimal-only_tree s value m tree h.0 h.1 (Rejected Root) h.2 w k
one-optimal s value m tree Valid w total h k = optimal-only_tree s value m tree h.0 h.1 Valid h.2 w k
one-optimal s value m tree Undecided w total h k = absurd h.2

-- an answer has one verdict
one-verdict : (s : GeneralSetting) (answer : DetAnswer) (v w : DetVerdict) → pos 0 <ℤ total_of s → IsVerdict s answer v → IsVerdict s answer w → w ≡ v
one-verdict s (answers.Optimal value m tree) v w total h k = one-optimal s value m tree v w total h k
one-verdict s (answers.Infeasible tree) v w total h k = one-tree s None tree w v k h
one-verdict s (answers.Unbounded m ray) v w total h k = one-unbounded s m ray w v k h
one-verdict s (answers.TooWide fixed first second) v w total h k = (let one : v ≡ Undecided = h in let other : w ≡ Undecided = k in cc)

-- it is undecided exactly where the answer claims nothing
undecided-claims : (s : GeneralSetting) (answer : DetAnswer) (v : DetVerdict) → IsVerdict s answer v → (v ≡ Undecided) ↔ ClaimsNothing answer
undecided-claims s (answers.Optimal value m tree) v h = ((λ e. (subst (IsOptimalVerdict s value m tree) e h).2), (λ none. absurd none))
undecided-claims s (answers.Infeasible tree) v h = ((λ e. subst (IsTreeVerdict s None tree) e h), (λ none. absurd none))
undecided-claims s (answers.Unbounded m ray) v h = ((λ e. subst (IsUnboundedVerdict s m ray) e h), (λ none. absurd none))
undecided-claims s (answers.TooWide fixed first second) v h = ((λ e. tt), (λ claims. h))

pub text-checked : (s : GeneralSetting) (bytes : List ℕ) (v : DetVerdict) → pos 0 <ℤ total_of s → IsJudgedText s bytes Valid v → IsCheckedText s bytes v
text-checked s bytes v total h =
    let is = h.judged refl in
    record {
      answer = h.answer;
      reads = h.reads;
      is_verdict = is;
      only = λ other told. one-verdict s h.answer v other total is told;
      claim = λ valid. if_valid s h.answer v h.fits is valid;
      undecided = undecided-claims s h.answer v is;
    }
