-- What `check` reads as the answer of a second file, and what it says of a setting and of such an answer.
use Rattle.std.specs.Prelude.{ℕ, List, Result, Ok, Err}
use Rattle.md_setting.specs.Setting.{GeneralSetting}
use Rattle.md_setting.specs.ByKind.{IsGeneral, WhereAuction, WhereGeneral}
use Rattle.md_setting.specs.declared.file.SettingFile.{SettingFile}
use Rattle.md_setting.specs.declared.file.SettingFile.TheVariants.{General, Auction, Bidders}
use Rattle.md_parts.specs.declared.refusal.AnswerRefusal.{AnswerRefusal}
use Rattle.md_answer.specs.AnswerTo.{IsAnswerTo}
use Rattle.md_answer.specs.Answers.{answer_of}
use Rattle.md_answer.specs.AuctionAnswerTo.{IsAuctionAnswer}
use Rattle.md_answer.specs.AuctionAnswers.{auction_answer_of}
use Rattle.md_fair.specs.FairRows.{IsFairAnswer}
use Rattle.md_fair.specs.FairText.{fair_answer_of}
use Rattle.md_require_text.specs.RequiredText.{required_answer_of}
use Rattle.md_require_text.specs.Told.{IsRequiredAnswer}
use Rattle.md_tree.specs.AnswerText.{determ_answer_of}
use Rattle.md_tree.specs.Texts.{IsReadText}
use Rattle.md_cli_driver.specs.declared.refusal.Refusal.{Refusal}
use Rattle.md_cli_driver.specs.declared.refusal.Refusal.TheVariants as refusal
use Rattle.md_cli_driver.specs.Saying.{Saying}
use Rattle.md_cli_judge.specs.AsymChecking.{IsAsymCheck}
use Rattle.md_cli_judge.specs.Checking.{IsCheck}
use Rattle.md_cli_judge.specs.DetermChecking.{IsDetermCheck}
use Rattle.md_cli_judge.specs.FairChecking.{IsFairCheck}
use Rattle.md_cli_judge.specs.Forms.{form_of}
use Rattle.md_cli_judge.specs.RequireChecking.{IsRequireCheck}
use Rattle.md_cli_judge.specs.declared.answer_form.AnswerForm.{AnswerForm}
use Rattle.md_cli_judge.specs.declared.answer_form.AnswerForm.TheVariants as form
use Rattle.md_cli_judge.specs.declared.checked_answer.CheckedAnswer.{CheckedAnswer}
use Rattle.md_cli_judge.specs.declared.checked_answer.CheckedAnswer.TheVariants.{Best, Fair, Required, Asym, Determ}

-- ---- what is read

-- the answer that was read, or the reason to refuse it
abbrev pub read_as : {T : Type 0} → (T → CheckedAnswer) → Result T AnswerRefusal → Result CheckedAnswer Refusal
read_as is (Ok answer) = Ok (is answer)
read_as is (Err e) = Err (refusal.Answer e)

-- what a text of this form says of a general setting; one about a sale is read when it is judged
abbrev pub general_answer_in : GeneralSetting → List ℕ → AnswerForm → Result CheckedAnswer Refusal
general_answer_in s bytes form.Best = read_as Best (answer_of s bytes)
general_answer_in s bytes form.Fair = read_as Fair (fair_answer_of s bytes)
general_answer_in s bytes form.Required = read_as Required (required_answer_of s bytes)
general_answer_in s bytes form.Asym = Ok (Asym bytes)
general_answer_in s bytes form.Determ = read_as (λ _. Determ bytes) (determ_answer_of s bytes)

-- the answer that the second file says of the setting
abbrev pub checked_answer_in : SettingFile → List ℕ → Result CheckedAnswer Refusal
checked_answer_in (General s) bytes = general_answer_in s bytes (form_of (General s) bytes)
checked_answer_in (Auction a) bytes = read_as Best (auction_answer_of a bytes)
checked_answer_in (Bidders a) bytes = Err refusal.OtherKind

-- it has the sizes of the setting, and its numbers are in their ranges
abbrev pub IsCheckable : SettingFile → CheckedAnswer → Type 0
IsCheckable file (Best answer) = WhereGeneral (λ s. IsAnswerTo s answer) file × WhereAuction (λ a. IsAuctionAnswer a answer) file
IsCheckable file (Fair answer) = IsGeneral file × WhereGeneral (λ s. IsFairAnswer s answer) file
IsCheckable file (Required answer) = IsGeneral file × WhereGeneral (λ s. IsRequiredAnswer s answer) file
IsCheckable file (Asym bytes) = IsGeneral file
IsCheckable file (Determ bytes) = IsGeneral file × WhereGeneral (λ s. IsReadText s bytes) file

-- ---- what is said

abbrev pub IsChecked : SettingFile → CheckedAnswer → Saying → Type 0
IsChecked file (Best answer) saying = IsCheck file answer saying
IsChecked file (Fair answer) saying = IsFairCheck file answer saying
IsChecked file (Required answer) saying = IsRequireCheck file answer saying
IsChecked file (Asym bytes) saying = IsAsymCheck file bytes saying
IsChecked file (Determ bytes) saying = IsDetermCheck file bytes saying
