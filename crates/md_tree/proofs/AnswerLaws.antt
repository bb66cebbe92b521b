-- What the verdict on an answer says.
use Rattle.std.proofs.Common.{◌≡◌, Result, IfOk, None, sym, subst}
use Rattle.std.proofs.lemmas.Result.{IfOk-weaker}
use Rattle.md_num.specs.declared.no_memory.NoMemory.{NoMemory}
use Rattle.md_setting.specs.Setting.{GeneralSetting}
use Rattle.md_tree.specs.AnswerTo.{IsDetAnswerTo}
use Rattle.md_tree.specs.Verdicts.{IsTreeVerdict, IsOptimalVerdict, IsUnboundedVerdict, IsVerdict, ClaimHolds}
use Rattle.md_tree.specs.declared.answer.DetAnswer.{DetAnswer}
use Rattle.md_tree.specs.declared.answer.DetAnswer.TheVariants.{Optimal, Infeasible, Unbounded, TooWide}
use Rattle.md_tree.specs.declared.verdict.DetVerdict.{DetVerdict}
use Rattle.md_tree.specs.declared.verdict.DetVerdict.TheVariants.{Valid, Undecided}
use Rattle.md_tree.proofs.ClaimLaws.{optimal-claimed, infeasible-claimed, unbounded-claimed}

valid-decided : (v : DetVerdict) → v ≡ Undecided → v ≡ Valid → ⊥
valid-decided v h k = cc

-- what a valid answer claims is so
pub if_valid : (s : GeneralSetting) (answer : DetAnswer) (v : DetVerdict) → IsDetAnswerTo s answer → IsVerdict s answer v → v ≡ Valid → ClaimHolds s answer
if_valid s (Optimal value m tree) v for h e =
    let valid : IsOptimalVerdict s value m tree Valid = subst (IsOptimalVerdict s value m tree) e h in
    (optimal-claimed s m tree for.1 for.2 valid.0 valid.2, valid.1)
if_valid s (Infeasible tree) v for h e = infeasible-claimed s tree for (subst (IsTreeVerdict s None tree) e h)
if_valid s (Unbounded m ray) v for h e =
    let valid : IsUnboundedVerdict s m ray Valid = subst (IsUnboundedVerdict s m ray) e h in
    unbounded-claimed s m ray valid.0 valid.1
if_valid s (TooWide fixed first second) v for h e = absurd (valid-decided v h e)

-- the same of a call
pub claims-of : (s : GeneralSetting) (answer stated : DetAnswer) (r : Result DetVerdict NoMemory) → answer ≡ stated → IsDetAnswerTo s answer → IfOk r (IsVerdict s stated)
    → IfOk r (λ v. v ≡ Valid → ClaimHolds s answer)
claims-of s answer stated r is for h =
    IfOk-weaker r (IsVerdict s stated) (λ v. v ≡ Valid → ClaimHolds s answer) (λ v verdict. if_valid s answer v for (subst (λ a. IsVerdict s a v) (sym is) verdict)) h

pub only-of : (s : GeneralSetting) (answer stated : DetAnswer) (r : Result DetVerdict NoMemory) → answer ≡ stated → ((v w : DetVerdict) → IsVerdict s stated v → IsVerdict s stated w → v ≡ w)
    → IfOk r (IsVerdict s stated) → IfOk r (λ v. (other : DetVerdict) → IsVerdict s answer other → other ≡ v)
only-of s answer stated r is one h =
    IfOk-weaker r (IsVerdict s stated) (λ v. (other : DetVerdict) → IsVerdict s answer other → other ≡ v)
    (λ v verdict other told. one other v (subst (λ a. IsVerdict s a other) is told) verdict) h
