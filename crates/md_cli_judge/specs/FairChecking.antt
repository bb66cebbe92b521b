-- What `check` says of a general setting and of the answer about its fairest mechanism that a second file says.
use Rattle.std.specs.Prelude.{◌≡◌, ◌↔◌}
use Rattle.md_setting.specs.Setting.{GeneralSetting}
use Rattle.md_setting.specs.ByKind.{WhereGeneral}
use Rattle.md_setting.specs.declared.file.SettingFile.{SettingFile}
use Rattle.md_setting.specs.declared.file.SettingFile.TheVariants.{General}
use Rattle.md_question_check.specs.declared.verdict.Verdict.{Verdict}
use Rattle.md_question_check.specs.declared.verdict.Verdict.TheVariants.{Valid, Undecided}
use Rattle.md_fair.specs.declared.answer.FairAnswer.{FairAnswer}
use Rattle.md_fair.specs.FairVerdicts.{ClaimHolds, ClaimsNothing, IsFairVerdict}
use Rattle.md_cli_driver.specs.Saying.{Saying}
use Rattle.md_cli_judge.specs.Verdicts.{TellsVerdict}

-- The one verdict on an answer, and what is said of it. Where the answer is valid, what it claims is so, over mechanisms of any
-- denominator, with numbers of any size; it stays undecided exactly where it claims nothing.
pub record IsFairCheckedOf (s : GeneralSetting) (answer : FairAnswer) (saying : Saying) : Type 0 where
  pub verdict : Verdict
  pub is_verdict : IsFairVerdict s answer verdict
  pub only : (other : Verdict) → IsFairVerdict s answer other → other ≡ verdict
  pub claim : verdict ≡ Valid → ClaimHolds s answer
  pub undecided : (verdict ≡ Undecided) ↔ ClaimsNothing answer
  pub told : TellsVerdict (General s) verdict saying

abbrev pub IsFairCheck : SettingFile → FairAnswer → Saying → Type 0
IsFairCheck file answer saying = WhereGeneral (λ s. IsFairCheckedOf s answer saying) file
