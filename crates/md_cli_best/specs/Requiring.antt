-- What `require` says of a general setting and of the conditions of the designer that a second file says.
use Rattle.std.specs.Prelude.{◌≡◌, ◌≢◌, ◌⊎◌, ◌↔◌, ℕ, List, Option, Result, Ok, Err}
use Rattle.md_num.specs.declared.frac.Frac.{Frac}
use Rattle.md_setting.specs.Setting.{GeneralSetting}
use Rattle.md_setting.specs.ByKind.{WhereGeneral}
use Rattle.md_setting.specs.declared.file.SettingFile.{SettingFile}
use Rattle.md_setting.specs.declared.file.SettingFile.TheVariants.{General, Auction, Bidders}
use Rattle.md_parts.specs.declared.refusal.AnswerRefusal.{AnswerRefusal}
use Rattle.md_question.specs.Certified.{IsCertifiedFinding}
use Rattle.md_question.specs.Question.{AdmitsNone}
use Rattle.md_question.specs.declared.finding.Finding.{Finding}
use Rattle.md_question_solve.specs.Found.{IsFound}
use Rattle.md_require.specs.declared.condition.Condition.{Condition}
use Rattle.md_require.specs.declared.required_verdict.RequiredVerdict.TheVariants.{Valid}
use Rattle.md_require.specs.RequireQuestion.{require_question}
use Rattle.md_require.specs.RequireVerdicts.{AnswerHolds, IsRequiredVerdict}
use Rattle.md_conditions_text.specs.ConditionsText.{conditions_of}
use Rattle.md_require_text.specs.RequiredRows.{text_of_required}
use Rattle.md_require_text.specs.RequiredText.{required_answer_of}
use Rattle.md_require_text.specs.Told.{Told}
use Rattle.md_cli_driver.specs.declared.refusal.Refusal.{Refusal}
use Rattle.md_cli_driver.specs.declared.refusal.Refusal.TheVariants as refusal
use Rattle.md_cli_driver.specs.Saying.{Saying}
use Rattle.md_cli_best.specs.Fair.{status_of_finding}
use Rattle.md_cli_best.specs.Finding.{IsNotFound}
use Rattle.md_cli_best.specs.RequiredBounds.{HasNoRequiredBound}

abbrev pub conditions_or_refusal : Result (List Condition) AnswerRefusal → Result (List Condition) Refusal
conditions_or_refusal (Ok conditions) = Ok conditions
conditions_or_refusal (Err e) = Err (refusal.Answer e)

-- the conditions that the second file says of a general setting
abbrev pub conditions_in : SettingFile → List ℕ → Result (List Condition) Refusal
conditions_in (General s) bytes = conditions_or_refusal (conditions_of s bytes)
conditions_in (Auction a) bytes = Err refusal.OtherKind
conditions_in (Bidders a) bytes = Err refusal.OtherKind

-- the conditions with what was found under them, and the shadows that are told
abbrev pub with_conditions : List Condition → Finding → List (Option Frac) → Told
with_conditions conditions finding shadows = record { conditions = conditions; finding = finding; shadows = shadows }

-- What was found under the conditions, and the shadow of each condition of a best mechanism, in their records, which read back as
-- these, and with the status of its kind. What it claims is so, its shadows too, and its numbers show it, so that the checker finds
-- it valid: each shadow that is told is the right one, and one is told wherever there is one of at most 62 bits. Which finding it is
-- of several is not said.
pub record IsRequiredSaying (s : GeneralSetting) (conditions : List Condition) (saying : Saying) : Type 0 where
  pub finding : Finding
  pub shadows : List (Option Frac)
  pub certified : IsCertifiedFinding (require_question s conditions) finding
  pub valid : IsRequiredVerdict s conditions finding shadows Valid
  pub holds : AnswerHolds s conditions finding shadows
  pub status : saying.status ≡ status_of_finding finding
  pub text : saying.text ≡ text_of_required s (with_conditions conditions finding shadows)
  pub read_back : required_answer_of s saying.text ≡ Ok (with_conditions conditions finding shadows)

-- The best mechanism among the admissible ones that meet the conditions, or that there is none or no best one; or that nothing was
-- found. Where the paths give a finding within 62 bits, there is one. Where it is not 22, the status tells exactly where there is none,
-- and where their values have no bound.
pub record IsRequiring (s : GeneralSetting) (conditions : List Condition) (saying : Saying) : Type 0 where
  pub told : IsRequiredSaying s conditions saying ⊎ IsNotFound (require_question s conditions) saying
  pub answered : (finding : Finding) → IsFound (require_question s conditions) 62 finding → saying.status ≢ 22
  pub none : saying.status ≢ 22 → (saying.status ≡ 10) ↔ AdmitsNone (require_question s conditions)
  pub no_bound : saying.status ≢ 22 → (saying.status ≡ 11) ↔ HasNoRequiredBound s conditions

abbrev pub IsRequire : SettingFile → List Condition → Saying → Type 0
IsRequire file conditions saying = WhereGeneral (λ s. IsRequiring s conditions saying) file
