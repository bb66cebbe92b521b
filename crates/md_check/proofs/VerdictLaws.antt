-- What a verdict on an answer about a setting shows.
use Rattle.std.proofs.Common.{◌≡◌, ◌↔◌, Result, Ok, Err, IfOk, ℤ, List, refl}
use Rattle.md_math.proofs.SizeLaws.{IsWithin-zero}
use Rattle.md_num.specs.declared.frac.Frac.{Frac}
use Rattle.md_num.specs.declared.no_memory.NoMemory.{NoMemory}
use Rattle.md_setting.specs.Setting.{GeneralSetting}
use Rattle.md_mech.specs.declared.mechanism.Mechanism.{Mechanism}
use Rattle.md_mech.specs.Accepted.{number_limit}
use Rattle.md_mech.proofs.RowLaws.{broken-not_admissible}
use Rattle.md_lp.specs.Program.{Program}
use Rattle.md_cert.specs.declared.bound.Bound.{Bound}
use Rattle.md_cert.specs.declared.certificate.Certificate.TheVariants as certificate
use Rattle.md_cert.specs.Certified.{Certified}
use Rattle.md_rows.specs.ProgramOf.{IsProgramOf}
use Rattle.md_answer.specs.declared.answer.Answer.{Answer}
use Rattle.md_answer.specs.declared.answer.Answer.TheVariants.{Table, Optimal, Infeasible, Unbounded, AuctionOptimal, TooWide}
use Rattle.md_claims.specs.Certificates.{optimal_certificate, unbounded_certificate}
use Rattle.md_question.specs.Best.{best_question}
use Rattle.md_question.specs.declared.finding.Finding.TheVariants as findings
use Rattle.md_question_check.specs.declared.verdict.Reject.TheVariants.{Audit, Value, Level, Unmet}
use Rattle.md_question_check.specs.declared.verdict.Verdict.{Verdict}
use Rattle.md_question_check.specs.declared.verdict.Verdict.TheVariants.{Valid, Undecided, Rejected}
use Rattle.md_question_check.specs.Certificates.{IsJudged}
use Rattle.md_question_check.specs.Verdicts.{IsOptimalVerdict, IsUnboundedVerdict}
use Rattle.md_question_check.proofs.VerdictLaws.{certified-no_fault, verdict-decided}
use Rattle.md_check.specs.Verdicts.{ClaimsNothing, IsSound, IsSoundOptimal, IsSoundUnbounded, IsVerdict}

-- ---- where all conditions hold the verdict is valid

optimal-sound : (s : GeneralSetting) (p : Program) (value : Frac) (m : Mechanism) (bound : Bound) (v : Verdict) → IsProgramOf s p → IsOptimalVerdict (best_question s) value m bound v
    → IsSoundOptimal s p value m bound → v ≡ Valid
optimal-sound s p value m bound Valid is v h = refl
optimal-sound s p value m bound Undecided is v h = absurd (v.2.holds p is)
optimal-sound s p value m bound (Rejected (Audit broken)) is v h = absurd (broken-not_admissible s m 0 broken v h.admissible)
optimal-sound s p value m bound (Rejected (Unmet unmet)) is v h = absurd v.1
optimal-sound s p value m bound (Rejected (Value right)) is v h = absurd (v.1.other h.value)
optimal-sound s p value m bound (Rejected (Level level)) is v h = absurd (v.1.wide (IsWithin-zero number_limit))
optimal-sound s p value m bound (Rejected reject) is v h = absurd (certified-no_fault p (optimal_certificate s m bound) reject h.certified (v.2.holds p is))

unbounded-sound : (s : GeneralSetting) (p : Program) (m : Mechanism) (ray : List ℤ) (v : Verdict) → IsProgramOf s p → IsUnboundedVerdict (best_question s) m ray v → IsSoundUnbounded s p m ray
    → v ≡ Valid
unbounded-sound s p m ray Valid is v h = refl
unbounded-sound s p m ray Undecided is v h = absurd (v.2.holds p is)
unbounded-sound s p m ray (Rejected (Audit broken)) is v h = absurd (broken-not_admissible s m 0 broken v h.admissible)
unbounded-sound s p m ray (Rejected (Unmet unmet)) is v h = absurd v.1
unbounded-sound s p m ray (Rejected (Level level)) is v h = absurd (v.1.wide (IsWithin-zero number_limit))
unbounded-sound s p m ray (Rejected reject) is v h = absurd (certified-no_fault p (unbounded_certificate s m ray) reject h.certified (v.2.holds p is))

infeasible-sound : (s : GeneralSetting) (p : Program) (face : List ℤ) (v : Verdict) → IsProgramOf s p → IsJudged (best_question s) (certificate.Infeasible face) v
    → Certified p (certificate.Infeasible face) → v ≡ Valid
infeasible-sound s p face Valid is v h = refl
infeasible-sound s p face Undecided is v h = absurd (v.holds p is)
infeasible-sound s p face (Rejected reject) is v h = absurd (certified-no_fault p (certificate.Infeasible face) reject h (v.holds p is))

pub sound-valid : (s : GeneralSetting) (p : Program) (answer : Answer) (v : Verdict) → IsProgramOf s p → IsVerdict s answer v → IsSound s p answer → v ≡ Valid
sound-valid s p (Table m) v is verdict h = absurd h
sound-valid s p (Optimal value m bound) v is verdict h = optimal-sound s p value m bound v is verdict h
sound-valid s p (Infeasible face) v is verdict h = infeasible-sound s p face v is verdict h
sound-valid s p (Unbounded m ray) v is verdict h = unbounded-sound s p m ray v is verdict h
sound-valid s p (AuctionOptimal value interim masses cuts bound) v is verdict h = absurd h
sound-valid s p (TooWide cuts first second) v is verdict h = absurd h

-- ---- undecided

undecided : (s : GeneralSetting) (answer : Answer) (v : Verdict) → IsVerdict s answer v → (v ≡ Undecided) ↔ ClaimsNothing answer
undecided s (Table m) v is = (λ e. tt, λ n. is)
undecided s (Optimal value m bound) v is = (λ e. absurd (verdict-decided (best_question s) (findings.Optimal value m bound) v is e), λ n. absurd n)
undecided s (Infeasible face) v is = (λ e. absurd (verdict-decided (best_question s) (findings.Infeasible face) v is e), λ n. absurd n)
undecided s (Unbounded m ray) v is = (λ e. absurd (verdict-decided (best_question s) (findings.Unbounded m ray) v is e), λ n. absurd n)
undecided s (AuctionOptimal value interim masses cuts bound) v is = absurd is
undecided s (TooWide cuts first second) v is = (λ e. tt, λ n. is)

-- ---- the answer of a call

pub if_sound : (s : GeneralSetting) (answer : Answer) (r : Result Verdict NoMemory) → IfOk r (IsVerdict s answer)
    → IfOk r (λ v. (p : Program) → IsProgramOf s p → IsSound s p answer → v ≡ Valid)
if_sound s answer (Ok v) is = λ p of h. sound-valid s p answer v of is h
if_sound s answer (Err e) is = tt

pub if_undecided : (s : GeneralSetting) (answer : Answer) (r : Result Verdict NoMemory) → IfOk r (IsVerdict s answer) → IfOk r (λ v. (v ≡ Undecided) ↔ ClaimsNothing answer)
if_undecided s answer (Ok v) is = undecided s answer v is
if_undecided s answer (Err e) is = tt
