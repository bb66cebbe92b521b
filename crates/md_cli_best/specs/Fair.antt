-- What `fair` says of a setting: the fairest of its mechanisms, or why there is none.
use Rattle.std.specs.Prelude.{◌≡◌, ◌≢◌, ◌⊎◌, ◌↔◌, ℕ, List, Ok}
use Rattle.md_setting.specs.Setting.{GeneralSetting}
use Rattle.md_setting.specs.ByKind.{WhereGeneral}
use Rattle.md_setting.specs.declared.file.SettingFile.{SettingFile}
use Rattle.md_lp.specs.Program.{Program}
use Rattle.md_lp.specs.declared.pivot.Pivot.{Pivot}
use Rattle.md_lp.specs.declared.wide.Wide.{Wide}
use Rattle.md_mech.specs.Admissible.{IsAdmissible}
use Rattle.md_mech.specs.Optimal.{IsInfeasible}
use Rattle.md_simplex.specs.declared.order.Order.{Order}
use Rattle.md_simplex.specs.declared.order.Order.TheVariants.{Forward, Backward}
use Rattle.md_simplex.specs.declared.step.Step.{Step}
use Rattle.md_simplex.specs.Runs.{IsFirstWideOf, IsTaken, MeetsWideBasis}
use Rattle.md_question.specs.Findings.{WhereUnbounded}
use Rattle.md_question.specs.Shown.{IsShown, IsSo}
use Rattle.md_question.specs.declared.finding.Finding.{Finding}
use Rattle.md_question.specs.declared.finding.Finding.TheVariants.{Optimal, Infeasible, Unbounded}
use Rattle.md_question_check.specs.Verdicts.{HasNarrowLevel}
use Rattle.md_question_check.specs.declared.verdict.Verdict.TheVariants.{Valid}
use Rattle.md_question_solve.specs.Found.{IsFound, IsWideFor}
use Rattle.md_fair.specs.Bounds.{HasNoLeastBound}
use Rattle.md_fair.specs.FairProgram.{IsFairProgram}
use Rattle.md_fair.specs.FairQuestion.{fair_question}
use Rattle.md_fair.specs.FairRows.{text_of_fair}
use Rattle.md_fair.specs.FairText.{fair_answer_of}
use Rattle.md_fair.specs.FairVerdicts.{IsFairVerdict}
use Rattle.md_fair.specs.declared.answer.FairAnswer.TheVariants.{Found, TooWide}
use Rattle.md_cli_best.specs.Headline.{IsEndStatus}
use Rattle.md_cli_driver.specs.Saying.{Saying}

-- ---- an answer

-- the status of each kind of answer
abbrev pub status_of_finding : Finding → ℕ
status_of_finding (Optimal value mechanism bound) = 0
status_of_finding (Infeasible face) = 10
status_of_finding (Unbounded mechanism ray) = 11

-- The one answer of a setting within a width, its status, and its text, which reads back as the answer. What it claims is so, over
-- mechanisms of any denominator: that its mechanism is the fairest and has this value, that none is admissible, or that the least
-- which an agent gets on average has no bound. Its numbers show it, in whatever terms the fair program is written, so that the
-- checker finds it valid; where the least has no bound, it does where the least that the mechanism gives has at most 62 bits.
pub record IsFairestSaying (s : GeneralSetting) (width : ℕ) (saying : Saying) : Type 0 where
  pub answer : Finding
  pub solved : IsFound (fair_question s) width answer
  pub only : (other : Finding) → IsFound (fair_question s) width other → answer ≡ other
  pub shows : IsSo (fair_question s) answer
  pub admissible : WhereUnbounded (λ mechanism ray. IsAdmissible s mechanism) answer
  pub certified : (p : Program) → IsFairProgram s p → IsShown (fair_question s) p answer
  pub valid : WhereUnbounded (λ mechanism ray. HasNarrowLevel (fair_question s) mechanism) answer → IsFairVerdict s (Found answer) Valid
  pub status : saying.status ≡ status_of_finding answer
  pub text : saying.text ≡ text_of_fair s (Found answer)
  pub read_back : fair_answer_of s saying.text ≡ Ok (Found answer)

-- ---- no answer within the width

-- of the forward path of the fair program and of the backward one, the pivots to the first wide basis and its first wide
-- entry, in whatever terms that program is written
pub record IsFairTooWide (s : GeneralSetting) (width : ℕ) (saying : Saying) : Type 0 where
  pub first : Wide
  pub second : Wide
  pub wide : IsWideFor (fair_question s) width first second
  pub forward : (p : Program) → IsFairProgram s p → IsFirstWideOf Forward p width first
  pub backward : (p : Program) → IsFairProgram s p → IsFirstWideOf Backward p width second
  pub status : saying.status ≡ 12
  pub text : saying.text ≡ text_of_fair s (TooWide first second)
  pub read_back : fair_answer_of s saying.text ≡ Ok (TooWide first second)

-- ---- what is said

-- an answer or that there is none within the width, and which status it is
pub record IsFairSaying (s : GeneralSetting) (width : ℕ) (saying : Saying) : Type 0 where
  pub told : IsFairestSaying s width saying ⊎ IsFairTooWide s width saying
  -- where both paths of the fair program come to a wide basis, it is 12, and where a path is taken, it tells how that ends
  pub wide : (p : Program) → IsFairProgram s p → MeetsWideBasis Forward p width → MeetsWideBasis Backward p width → saying.status ≡ 12
  pub taken : (p : Program) (order : Order) (pivots : List Pivot) (step : Step) → IsFairProgram s p → IsTaken order p width pivots step → IsEndStatus step saying.status
  -- where it is not 12, it tells exactly where no mechanism is admissible, and where the leasts of the admissible ones have no bound
  pub none : saying.status ≢ 12 → (saying.status ≡ 10) ↔ IsInfeasible s
  pub no_bound : saying.status ≢ 12 → (saying.status ≡ 11) ↔ HasNoLeastBound s

abbrev pub IsFair : ℕ → SettingFile → Saying → Type 0
IsFair width file saying = WhereGeneral (λ s. IsFairSaying s width saying) file
