-- What `check` says of a setting and of the answer about its best mechanism that a second file says.
use Rattle.std.specs.Prelude.{◌≡◌, ◌↔◌}
use Rattle.md_setting.specs.declared.file.SettingFile.{SettingFile}
use Rattle.md_setting.specs.declared.file.SettingFile.TheVariants.{General, Auction, Bidders}
use Rattle.md_answer.specs.declared.answer.Answer.{Answer}
use Rattle.md_question_check.specs.declared.verdict.Verdict.{Verdict}
use Rattle.md_question_check.specs.declared.verdict.Verdict.TheVariants.{Valid, Undecided}
use Rattle.md_check.specs.AuctionVerdicts.{AuctionClaimHolds}
use Rattle.md_check.specs.FileVerdicts.{IsVerdictOn}
use Rattle.md_check.specs.Verdicts.{ClaimHolds, ClaimsNothing}
use Rattle.md_cli_driver.specs.Saying.{Saying}
use Rattle.md_cli_judge.specs.Verdicts.{TellsVerdict}

-- what an answer claims is so, over mechanisms of any denominator, with numbers of any size
abbrev pub ClaimHoldsOf : SettingFile → Answer → Type 0
ClaimHoldsOf (General s) answer = ClaimHolds s answer
ClaimHoldsOf (Auction a) answer = AuctionClaimHolds a answer
ClaimHoldsOf (Bidders a) answer = ⊥

-- The one verdict on an answer, and what is said of it. Where the answer is valid, what it claims is so; it stays undecided
-- exactly where it claims nothing.
pub record IsCheck (file : SettingFile) (answer : Answer) (saying : Saying) : Type 0 where
  pub verdict : Verdict
  pub is_verdict : IsVerdictOn file answer verdict
  pub only : (other : Verdict) → IsVerdictOn file answer other → other ≡ verdict
  pub claim : verdict ≡ Valid → ClaimHoldsOf file answer
  pub undecided : (verdict ≡ Undecided) ↔ ClaimsNothing answer
  pub told : TellsVerdict file verdict saying
