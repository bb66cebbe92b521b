-- The answer about several units that the second file says, of which something can be told and drawn.
use Rattle.std.specs.Prelude.{◌≡◌, ℕ, true, List, Result, Err}
use Rattle.md_setting.specs.ByKind.{WhereAuction}
use Rattle.md_setting.specs.declared.file.SettingFile.{SettingFile}
use Rattle.md_setting.specs.declared.file.SettingFile.TheVariants.{General, Auction, Bidders}
use Rattle.md_answer.specs.AuctionAnswers.{answer_for}
use Rattle.md_answer.specs.AuctionAnswerTo.{IsAnswerFor}
use Rattle.md_answer.specs.declared.answer.Answer.{Answer}
use Rattle.md_answer.specs.declared.supply.Supply.TheVariants.{Units}
use Rattle.md_cli_driver.specs.Reading.{and_then, answer_or_refusal}
use Rattle.md_cli_driver.specs.declared.refusal.Refusal.{Refusal}
use Rattle.md_cli_driver.specs.declared.refusal.Refusal.TheVariants as refusal
use Rattle.md_cli_tell.specs.Drawing.{drawable, has_table}

-- an answer about so many units, which must have masses
abbrev pub unit_table_in : ℕ → SettingFile → List ℕ → Result Answer Refusal
unit_table_in units (General s) bytes = Err refusal.OtherKind
unit_table_in units (Auction a) bytes = and_then (answer_or_refusal (answer_for (Units units) a bytes)) drawable
unit_table_in units (Bidders a) bytes = Err refusal.OtherKind

-- it has the sizes of the auction and its numbers are in their ranges
abbrev pub HasUnitTable : ℕ → SettingFile → Answer → Type 0
HasUnitTable units file answer = WhereAuction (λ a. IsAnswerFor (Units units) a answer) file × (has_table answer ≡ true)
