-- The verdict on an answer about a setting: that on what it claims by the question that the setting asks by itself, by the
-- conditions of answers to questions. They speak of the setting's program, which has no level, so that the eleventh never fails.
use Rattle.std.specs.Prelude.{◌≡◌, ℤ, List}
use Rattle.md_num.specs.declared.frac.Frac.{Frac}
use Rattle.md_setting.specs.Setting.{GeneralSetting}
use Rattle.md_mech.specs.declared.mechanism.Mechanism.{Mechanism}
use Rattle.md_mech.specs.Admissible.{IsAdmissible}
use Rattle.md_mech.specs.Optimal.{IsOptimal, IsInfeasible, Grows}
use Rattle.md_mech.specs.Value.{HasValue}
use Rattle.md_lp.specs.Program.{Program}
use Rattle.md_cert.specs.declared.bound.Bound.{Bound}
use Rattle.md_cert.specs.declared.certificate.Certificate.TheVariants as certificate
use Rattle.md_cert.specs.Certified.{Certified}
use Rattle.md_answer.specs.declared.answer.Answer.{Answer}
use Rattle.md_answer.specs.declared.answer.Answer.TheVariants.{Table, Optimal, Infeasible, Unbounded, AuctionOptimal, TooWide}
use Rattle.md_claims.specs.Certificates.{optimal_certificate, unbounded_certificate}
use Rattle.md_question.specs.Best.{best_question}
use Rattle.md_question_check.specs.declared.verdict.Verdict.{Verdict}
use Rattle.md_question_check.specs.declared.verdict.Verdict.TheVariants.{Undecided}
use Rattle.md_question_check.specs.Certificates.{IsJudged}
use Rattle.md_question_check.specs.Verdicts.{IsOptimalVerdict, IsUnboundedVerdict}

-- ---- the verdict

-- a table, and an answer that is too wide, claim nothing that could be checked; an answer about an auction is none about a
-- general setting
abbrev pub IsVerdict : GeneralSetting → Answer → Verdict → Type 0
IsVerdict s (Table m) verdict = verdict ≡ Undecided
IsVerdict s (Optimal value m bound) verdict = IsOptimalVerdict (best_question s) value m bound verdict
IsVerdict s (Infeasible face) verdict = IsJudged (best_question s) (certificate.Infeasible face) verdict
IsVerdict s (Unbounded m ray) verdict = IsUnboundedVerdict (best_question s) m ray verdict
IsVerdict s (AuctionOptimal value interim masses cuts bound) verdict = ⊥
IsVerdict s (TooWide cuts first second) verdict = verdict ≡ Undecided

abbrev pub ClaimsNothing : Answer → Type 0
ClaimsNothing (Table m) = Unit {0}
ClaimsNothing (TooWide cuts first second) = Unit {0}
ClaimsNothing _ = ⊥

-- ---- all conditions hold

pub record IsSoundOptimal (s : GeneralSetting) (p : Program) (printed : Frac) (m : Mechanism) (bound : Bound) : Type 0 where
  pub admissible : IsAdmissible s m
  pub value : HasValue s m printed
  pub certified : Certified p (optimal_certificate s m bound)

pub record IsSoundUnbounded (s : GeneralSetting) (p : Program) (m : Mechanism) (ray : List ℤ) : Type 0 where
  pub admissible : IsAdmissible s m
  pub certified : Certified p (unbounded_certificate s m ray)

abbrev pub IsSound : GeneralSetting → Program → Answer → Type 0
IsSound s p (Table m) = ⊥
IsSound s p (Optimal value m bound) = IsSoundOptimal s p value m bound
IsSound s p (Infeasible face) = Certified p (certificate.Infeasible face)
IsSound s p (Unbounded m ray) = IsSoundUnbounded s p m ray
IsSound s p (AuctionOptimal value interim masses cuts bound) = ⊥
IsSound s p (TooWide cuts first second) = ⊥

-- ---- what is claimed

-- the claim of an answer is so, over mechanisms of any denominator, with numbers of any size
abbrev pub ClaimHolds : GeneralSetting → Answer → Type 0
ClaimHolds s (Table m) = ⊥
ClaimHolds s (Optimal value m bound) = IsOptimal s m × HasValue s m value
ClaimHolds s (Infeasible face) = IsInfeasible s
ClaimHolds s (Unbounded m ray) = Grows s m ray
ClaimHolds s (AuctionOptimal value interim masses cuts bound) = ⊥
ClaimHolds s (TooWide cuts first second) = ⊥
