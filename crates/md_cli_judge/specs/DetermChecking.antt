-- What `check` and `determcheck` say of a general setting and of the answer about its deterministic mechanisms that a second file says. The
-- answer may be much larger than its text, so that it is the text that is kept of the second file.
use Rattle.std.specs.Prelude.{◌≡◌, ◌↔◌, ℕ, List, Result, Ok, Err}
use Rattle.md_setting.specs.Setting.{GeneralSetting}
use Rattle.md_setting.specs.ByKind.{WhereGeneral}
use Rattle.md_setting.specs.declared.file.SettingFile.{SettingFile}
use Rattle.md_setting.specs.declared.file.SettingFile.TheVariants.{General, Auction, Bidders}
use Rattle.md_parts.specs.declared.refusal.AnswerRefusal.{AnswerRefusal}
use Rattle.md_tree.specs.declared.answer.DetAnswer.{DetAnswer}
use Rattle.md_tree.specs.declared.verdict.DetVerdict.{DetVerdict}
use Rattle.md_tree.specs.declared.verdict.DetVerdict.TheVariants.{Valid, Undecided}
use Rattle.md_tree.specs.Verdicts.{ClaimHolds, ClaimsNothing, IsVerdict}
use Rattle.md_tree.specs.AnswerText.{determ_answer_of}
use Rattle.md_cli_driver.specs.declared.refusal.Refusal.{Refusal}
use Rattle.md_cli_driver.specs.declared.refusal.Refusal.TheVariants as refusal
use Rattle.md_cli_driver.specs.Saying.{Saying}
use Rattle.md_cli_judge.specs.DetermVerdicts.{TellsVerdict}

-- the text where it says an answer, and else the reason to refuse it
abbrev pub text_or_refusal : List ℕ → Result DetAnswer AnswerRefusal → Result (List ℕ) Refusal
text_or_refusal bytes (Ok answer) = Ok bytes
text_or_refusal bytes (Err e) = Err (refusal.Answer e)

-- the second file's text, where it says an answer of a general setting
abbrev pub determ_text_in : SettingFile → List ℕ → Result (List ℕ) Refusal
determ_text_in (General s) bytes = text_or_refusal bytes (determ_answer_of s bytes)
determ_text_in (Auction a) bytes = Err refusal.OtherKind
determ_text_in (Bidders a) bytes = Err refusal.OtherKind

-- The one verdict on an answer, and what is said of it. Where the answer is valid, what it claims is so, over mechanisms of any
-- denominator, with numbers of any size; it stays undecided exactly where it claims nothing.
pub record IsDetermCheckedOf (s : GeneralSetting) (answer : DetAnswer) (saying : Saying) : Type 0 where
  pub verdict : DetVerdict
  pub is_verdict : IsVerdict s answer verdict
  pub only : (other : DetVerdict) → IsVerdict s answer other → other ≡ verdict
  pub claim : verdict ≡ Valid → ClaimHolds s answer
  pub undecided : (verdict ≡ Undecided) ↔ ClaimsNothing answer
  pub told : TellsVerdict s verdict saying

-- the text says an answer, and this is what is said of it
pub record IsDetermCheckedText (s : GeneralSetting) (bytes : List ℕ) (saying : Saying) : Type 0 where
  pub answer : DetAnswer
  pub reads : determ_answer_of s bytes ≡ Ok answer
  pub checked : IsDetermCheckedOf s answer saying

abbrev pub IsDetermCheck : SettingFile → List ℕ → Saying → Type 0
IsDetermCheck file bytes saying = WhereGeneral (λ s. IsDetermCheckedText s bytes saying) file
