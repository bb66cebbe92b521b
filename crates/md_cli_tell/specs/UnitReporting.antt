-- What `report` says of an auction and an answer about several units.
use Rattle.std.specs.Prelude.{◌≡◌, ℕ, List}
use Rattle.md_setting.specs.Auction.{SymmetricAuction}
use Rattle.md_setting.specs.ByKind.{WhereAuction}
use Rattle.md_setting.specs.declared.file.SettingFile.{SettingFile}
use Rattle.md_answer.specs.declared.answer.Answer.{Answer}
use Rattle.md_answer.specs.declared.answer.Answer.TheVariants.{AuctionOptimal}
use Rattle.md_answer.specs.declared.supply.Supply.TheVariants.{Units}
use Rattle.md_cli_driver.specs.Saying.{Saying}
use Rattle.md_cli_tell.specs.Reporting.{IsInterimText}

-- the text tells what its odds and payments do where so many units are sold, against their reduced program with its cuts
abbrev pub TellsUnits : ℕ → SymmetricAuction → Answer → List ℕ → Type 0
TellsUnits units a (AuctionOptimal value interim masses cuts bound) text = IsInterimText (Units units) a interim cuts text
TellsUnits units a _ text = ⊥

abbrev pub IsUnitReporting : ℕ → SettingFile → Answer → Saying → Type 0
IsUnitReporting units file answer saying = (saying.status ≡ 0) × WhereAuction (λ a. TellsUnits units a answer saying.text) file

-- the statuses of what is answered
abbrev pub IsUnitReportStatus : ℕ → Type 0
IsUnitReportStatus status = status ≡ 0
