-- What `run` draws of, as the second file says it, and what it says.
use Rattle.std.specs.Prelude.{◌≡◌, ◌⊎◌, ℕ, ℤ, true, List, Option, None, Some, Result, Ok, Err, if◌then◌else◌}
use Rattle.md_setting.specs.ByKind.{IsGeneral, WhereAuction, WhereGeneral}
use Rattle.md_setting.specs.declared.file.SettingFile.{SettingFile}
use Rattle.md_setting.specs.declared.file.SettingFile.TheVariants.{General, Auction, Bidders}
use Rattle.md_parts.specs.declared.refusal.AnswerRefusal.{AnswerRefusal}
use Rattle.md_answer.specs.AnswerTo.{IsAnswerTo}
use Rattle.md_answer.specs.AuctionAnswers.{auction_answer_of}
use Rattle.md_answer.specs.AuctionAnswerTo.{IsAuctionAnswer}
use Rattle.md_answer.specs.declared.answer.Answer.{Answer}
use Rattle.md_answer.specs.declared.answer.Answer.TheVariants.{Table}
use Rattle.md_mechanism_text.specs.MechanismText.{mechanism_text_of, names_another_kind}
use Rattle.md_mechanism_text.specs.Proposals.{Proposed}
use Rattle.md_cli_driver.specs.declared.refusal.Refusal.{Refusal}
use Rattle.md_cli_driver.specs.declared.refusal.Refusal.TheVariants as refusal
use Rattle.md_cli_driver.specs.Reading.{and_then, answer_or_refusal}
use Rattle.md_cli_driver.specs.Saying.{Saying}
use Rattle.md_cli_tell.specs.Drawing.{IsDrawing, drawable, has_table}
use Rattle.md_cli_tell.specs.SaleDrawing.{IsOtherDrawing}
use Rattle.md_cli_tell.specs.declared.drawable.Drawable.{Drawable}
use Rattle.md_cli_tell.specs.declared.drawable.Drawable.TheVariants as drawables

-- ---- what is drawn of

abbrev pub of_answer : Result Answer Refusal → Result Drawable Refusal
of_answer (Ok answer) = Ok (drawables.Table answer)
of_answer (Err e) = Err e

-- a mechanism as an answer; the conditions that it is to meet are left out
abbrev pub table_or_none : Option Proposed → Result Drawable Refusal
table_or_none (Some proposed) = Ok (drawables.Table (Table proposed.mechanism))
table_or_none None = Err refusal.NoTable

-- the mechanism of a text, or the text itself, where it names another kind of answer
abbrev pub table_or_other : List ℕ → Result (Option Proposed) AnswerRefusal → Result Drawable Refusal
table_or_other bytes (Ok found) = table_or_none found
table_or_other bytes (Err e) = if names_another_kind e then Ok (drawables.Other bytes) else Err (refusal.Answer e)

-- What the second file says of which something can be drawn: of a general setting the mechanism of an answer, whichever command
-- printed it, or a text that names another kind of answer; of an auction an answer with masses.
abbrev pub drawable_in : SettingFile → List ℕ → Result Drawable Refusal
drawable_in (General s) bytes = table_or_other bytes (mechanism_text_of s bytes)
drawable_in (Auction a) bytes = of_answer (and_then (answer_or_refusal (auction_answer_of a bytes)) drawable)
drawable_in (Bidders a) bytes = Err refusal.OtherKind

-- an answer has the sizes of the setting, its numbers are in their ranges, and it has lotteries or masses; a text is of a general setting
abbrev pub IsDrawable : SettingFile → Drawable → Type 0
IsDrawable file (drawables.Table answer) = (WhereGeneral (λ s. IsAnswerTo s answer) file × WhereAuction (λ a. IsAuctionAnswer a answer) file) × (has_table answer ≡ true)
IsDrawable file (drawables.Other bytes) = IsGeneral file

-- ---- what is said

abbrev pub IsRun : List ℕ → ℤ → ℤ → SettingFile → Drawable → Saying → Type 0
IsRun profile first second file (drawables.Table answer) saying = IsDrawing file answer profile first second saying
IsRun profile first second file (drawables.Other bytes) saying = WhereGeneral (λ s. IsOtherDrawing profile first second s bytes saying) file

-- the statuses of what is said
abbrev pub IsRunStatus : ℕ → Type 0
IsRunStatus status = (status ≡ 0) ⊎ (status ≡ 67)
