-- What `find` and `findfair` say of a general setting: what is found on the two stated paths or off them, or that nothing was.
use Rattle.std.specs.Prelude.{◌≡◌, ◌≢◌, ◌⊎◌, ◌↔◌, ℕ, List, Result, Ok, Err}
use Rattle.md_setting.specs.Setting.{GeneralSetting}
use Rattle.md_setting.specs.ByKind.{WhereGeneral}
use Rattle.md_setting.specs.Rows.{column_count, row_count}
use Rattle.md_setting.specs.declared.file.SettingFile.{SettingFile}
use Rattle.md_setting.specs.declared.file.SettingFile.TheVariants.{General, Auction, Bidders}
use Rattle.md_mech.specs.Optimal.{IsInfeasible}
use Rattle.md_question.specs.Best.{best_question}
use Rattle.md_question.specs.Certified.{IsCertifiedFinding}
use Rattle.md_question.specs.Findings.{WhereUnbounded}
use Rattle.md_question.specs.Question.{AdmitsNone, Question}
use Rattle.md_question.specs.declared.finding.Finding.{Finding}
use Rattle.md_question_solve.specs.Found.{HasWidePaths}
use Rattle.md_question_solve.specs.Found as paths
use Rattle.md_question_check.specs.Verdicts.{HasNarrowLevel, IsVerdictOn}
use Rattle.md_question_check.specs.declared.verdict.Verdict.TheVariants.{Valid}
use Rattle.md_answer.specs.Answers as answers
use Rattle.md_answer.specs.Rows.{text_of_answer}
use Rattle.md_answer.specs.declared.answer.Answer.{Answer}
use Rattle.md_solve.specs.Answered.{IsTooWide}
use Rattle.md_solve.specs.Bounds.{HasNoBound}
use Rattle.md_solve.specs.Solved.{IsSolved, answer_of}
use Rattle.md_fair.specs.Bounds.{HasNoLeastBound}
use Rattle.md_fair.specs.FairQuestion.{fair_question}
use Rattle.md_fair.specs.FairRows.{text_of_fair}
use Rattle.md_fair.specs.FairText.{fair_answer_of}
use Rattle.md_fair.specs.declared.answer.FairAnswer.TheVariants.{Found}
use Rattle.md_parts.specs.declared.refusal.AnswerRefusal.{AnswerRefusal}
use Rattle.md_find_basis.specs.Basis.{Listed, basis_of}
use Rattle.md_cli_driver.specs.declared.refusal.Refusal.{Refusal}
use Rattle.md_cli_driver.specs.declared.refusal.Refusal.TheVariants as refusal
use Rattle.md_cli_driver.specs.Saying.{Saying, undecided_text}
use Rattle.md_cli_best.specs.Fair.{status_of_finding}
use Rattle.md_cli_best.specs.Headline.{PrintsInfeasible, PrintsOptimal, PrintsUnbounded}

-- ---- a question

-- What was found, in its records, which read back as it, and with the status of its kind: what it claims is so, and its numbers show
-- it, so that the checker finds it valid; where there is no bound, it does where the level of the mechanism has at most 62 bits. Which
-- finding it is of several is not said.
pub record IsFound (q : Question) (text_of : Finding → List ℕ) (Reads : List ℕ → Finding → Type 0) (saying : Saying) : Type 0 where
  pub finding : Finding
  pub certified : IsCertifiedFinding q finding
  pub valid : WhereUnbounded (λ mechanism ray. HasNarrowLevel q mechanism) finding → IsVerdictOn q finding Valid
  pub status : saying.status ≡ status_of_finding finding
  pub text : saying.text ≡ text_of finding
  pub read_back : Reads saying.text finding

-- that nothing was: both stated paths of the question's program come to a basis that is too wide at 62 bits, of which nothing follows
-- for the question itself
pub record IsNotFound (q : Question) (saying : Saying) : Type 0 where
  pub wide : HasWidePaths q 62
  pub status : saying.status ≡ 22
  pub text : saying.text ≡ undecided_text

-- One of these. Where the paths give a finding within 62 bits, there is one. Where it is not 22, the status tells exactly where no
-- mechanism is admitted, and where there is no bound.
pub record IsFindingBy (q : Question) (NoBound : Type 0) (text_of : Finding → List ℕ) (Reads : List ℕ → Finding → Type 0) (saying : Saying) : Type 0 where
  pub told : IsFound q text_of Reads saying ⊎ IsNotFound q saying
  pub answered : (finding : Finding) → paths.IsFound q 62 finding → saying.status ≢ 22
  pub none : saying.status ≢ 22 → (saying.status ≡ 10) ↔ AdmitsNone q
  pub no_bound : saying.status ≢ 22 → (saying.status ≡ 11) ↔ NoBound

-- the statuses of what is answered
abbrev pub IsFindStatus : ℕ → Type 0
IsFindStatus status = (status ≡ 0) ⊎ ((status ≡ 10) ⊎ ((status ≡ 11) ⊎ (status ≡ 22)))

-- ---- `find`

-- in the words of mechanisms: what is printed with a status, and which status it is
pub record IsFindHeadline (s : GeneralSetting) (status : ℕ) (text : List ℕ) : Type 0 where
  pub optimal : status ≡ 0 → PrintsOptimal s text
  pub infeasible : status ≡ 10 → PrintsInfeasible s text
  pub unbounded : status ≡ 11 → PrintsUnbounded s text
  pub one_of : IsFindStatus status
  -- 22 comes only where both paths of the setting's program come to a basis that is too wide at 62 bits: where `solve` has an answer
  -- within these, there is one
  pub wide : status ≡ 22 → HasWidePaths (best_question s) 62
  pub answered : (answer : Answer) → IsSolved s 62 answer → ¬ IsTooWide answer → status ≢ 22
  -- where it is not 22, it tells exactly where no mechanism is admissible, and where the values of the admissible ones have no bound
  pub none : status ≢ 22 → (status ≡ 10) ↔ IsInfeasible s
  pub no_bound : status ≢ 22 → (status ≡ 11) ↔ HasNoBound s

-- the best mechanism of a setting, in the records of an answer of `solve`
pub record IsFinding (s : GeneralSetting) (saying : Saying) : Type 0 where
  pub told : IsFindingBy (best_question s) (HasNoBound s) (λ finding. text_of_answer s (answer_of finding)) (λ text finding. answers.answer_of s text ≡ Ok (answer_of finding)) saying
  pub headline : IsFindHeadline s saying.status saying.text

abbrev pub IsFind : SettingFile → Saying → Type 0
IsFind file saying = WhereGeneral (λ s. IsFinding s saying) file

-- what is shown by a text that was printed with a status
abbrev pub IsFindShownBy : SettingFile → ℕ → List ℕ → Type 0
IsFindShownBy file status text = WhereGeneral (λ s. IsFindHeadline s status text) file

-- ---- `find` from a basis

abbrev pub basis_or_refusal : Result Listed AnswerRefusal → Result Listed Refusal
basis_or_refusal (Ok basis) = Ok basis
basis_or_refusal (Err e) = Err (refusal.Answer e)

-- the basis that the second file lists of the program of a general setting
abbrev pub basis_in : SettingFile → List ℕ → Result Listed Refusal
basis_in (General s) bytes = basis_or_refusal (basis_of (column_count s) (row_count s) bytes)
basis_in (Auction a) bytes = Err refusal.OtherKind
basis_in (Bidders a) bytes = Err refusal.OtherKind

-- ---- `findfair`

-- the fairest mechanism of a setting, in the records of `fair`
abbrev pub IsFindFair : SettingFile → Saying → Type 0
IsFindFair file saying = WhereGeneral (λ s. IsFindingBy (fair_question s) (HasNoLeastBound s) (λ finding. text_of_fair s (Found finding)) (λ text finding. fair_answer_of s text ≡ Ok (Found finding)) saying) file
