-- What `check` with a number of units says of an auction, and of the answer about their sale that a second file says.
use Rattle.std.specs.Prelude.{◌≡◌, ◌↔◌, ℕ, List, Result, Err}
use Rattle.md_setting.specs.Auction.{SymmetricAuction}
use Rattle.md_setting.specs.ByKind.{WhereAuction}
use Rattle.md_setting.specs.declared.file.SettingFile.{SettingFile}
use Rattle.md_setting.specs.declared.file.SettingFile.TheVariants.{General, Auction, Bidders}
use Rattle.md_answer.specs.AuctionAnswers.{answer_for}
use Rattle.md_answer.specs.declared.answer.Answer.{Answer}
use Rattle.md_answer.specs.declared.supply.Supply.TheVariants.{Units}
use Rattle.md_question_check.specs.declared.verdict.Verdict.{Verdict}
use Rattle.md_question_check.specs.declared.verdict.Verdict.TheVariants.{Valid, Undecided}
use Rattle.md_check.specs.AuctionVerdicts.{ClaimHoldsFor, IsVerdictFor}
use Rattle.md_check.specs.Verdicts.{ClaimsNothing}
use Rattle.md_cli_driver.specs.Reading.{answer_or_refusal}
use Rattle.md_cli_driver.specs.declared.refusal.Refusal.{Refusal}
use Rattle.md_cli_driver.specs.declared.refusal.Refusal.TheVariants as refusal
use Rattle.md_cli_driver.specs.Saying.{Saying}
use Rattle.md_cli_judge.specs.Verdicts.{TellsVerdict}

-- the answer about so many units that the second file says of an auction
abbrev pub unit_answer_in : ℕ → SettingFile → List ℕ → Result Answer Refusal
unit_answer_in units (General s) bytes = Err refusal.OtherKind
unit_answer_in units (Auction a) bytes = answer_or_refusal (answer_for (Units units) a bytes)
unit_answer_in units (Bidders a) bytes = Err refusal.OtherKind

-- The one verdict on an answer, and what is said of it. Where the answer is valid, what it claims is so, over all mechanisms of the
-- units, of any denominator, with numbers of any size; it stays undecided exactly where it claims nothing.
pub record IsUnitCheckedOf (a : SymmetricAuction) (units : ℕ) (answer : Answer) (saying : Saying) : Type 0 where
  pub verdict : Verdict
  pub is_verdict : IsVerdictFor (Units units) a answer verdict
  pub only : (other : Verdict) → IsVerdictFor (Units units) a answer other → other ≡ verdict
  pub claim : verdict ≡ Valid → ClaimHoldsFor (Units units) a answer
  pub undecided : (verdict ≡ Undecided) ↔ ClaimsNothing answer
  pub told : TellsVerdict (Auction a) verdict saying

abbrev pub IsUnitCheck : ℕ → SettingFile → Answer → Saying → Type 0
IsUnitCheck units file answer saying = WhereAuction (λ a. IsUnitCheckedOf a units answer saying) file
