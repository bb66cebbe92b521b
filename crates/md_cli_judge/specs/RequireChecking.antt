-- What `check` says of a general setting and of the answer about its best mechanism under conditions that a second file says.
use Rattle.std.specs.Prelude.{◌≡◌, ℕ, pos, List, [], ◌∷◌, codes, Option, None, Some}
use Rattle.md_num.specs.WholeText.{text_of}
use Rattle.md_num.specs.declared.frac.Frac.{Frac}
use Rattle.md_records.specs.Written.{record_text}
use Rattle.md_setting.specs.Setting.{GeneralSetting}
use Rattle.md_setting.specs.ByKind.{WhereGeneral}
use Rattle.md_setting.specs.declared.file.SettingFile.{SettingFile}
use Rattle.md_setting.specs.declared.file.SettingFile.TheVariants.{General}
use Rattle.md_question_check.specs.declared.verdict.Verdict.TheVariants as verdicts
use Rattle.md_require.specs.declared.required_verdict.RequiredVerdict.{RequiredVerdict}
use Rattle.md_require.specs.declared.required_verdict.RequiredVerdict.TheVariants.{Valid, Rejected, Shadow}
use Rattle.md_require.specs.RequireVerdicts.{AnswerHolds, IsRequiredVerdict}
use Rattle.md_require_text.specs.Told.{Told}
use Rattle.md_cli_driver.specs.Saying.{Saying}
use Rattle.md_cli_judge.specs.Verdicts.{TellsVerdict, rejected}

-- the record of a shadow that is told otherwise than it is right: the number of its condition, and the right one, unless none is to be
-- told
abbrev pub shadow_record : ℕ → Option Frac → List (List ℕ)
shadow_record index None = rejected (codes "18") (text_of (pos index) ∷ [])
shadow_record index (Some right) = rejected (codes "18") (text_of (pos index) ∷ text_of right.num ∷ text_of right.den ∷ [])

-- what is said of a verdict
abbrev pub TellsRequiredVerdict : SettingFile → RequiredVerdict → Saying → Type 0
TellsRequiredVerdict file Valid saying = TellsVerdict file verdicts.Valid saying
TellsRequiredVerdict file (Rejected reject) saying = TellsVerdict file (verdicts.Rejected reject) saying
TellsRequiredVerdict file (Shadow index right) saying = (saying.status ≡ 20) × (saying.text ≡ record_text (shadow_record index right))

-- The one verdict on an answer, and what is said of it. Where the answer is valid, what it claims is so, its shadows too, over
-- mechanisms of any denominator, with numbers of any size.
pub record IsRequireCheckedOf (s : GeneralSetting) (answer : Told) (saying : Saying) : Type 0 where
  pub verdict : RequiredVerdict
  pub is_verdict : IsRequiredVerdict s answer.conditions answer.finding answer.shadows verdict
  pub only : (other : RequiredVerdict) → IsRequiredVerdict s answer.conditions answer.finding answer.shadows other → other ≡ verdict
  pub claim : verdict ≡ Valid → AnswerHolds s answer.conditions answer.finding answer.shadows
  pub told : TellsRequiredVerdict (General s) verdict saying

abbrev pub IsRequireCheck : SettingFile → Told → Saying → Type 0
IsRequireCheck file answer saying = WhereGeneral (λ s. IsRequireCheckedOf s answer saying) file
