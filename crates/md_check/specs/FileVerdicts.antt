-- The verdict on an answer to a setting file, general or of an auction.
use Rattle.md_setting.specs.declared.file.SettingFile.{SettingFile}
use Rattle.md_setting.specs.declared.file.SettingFile.TheVariants.{General, Auction, Bidders}
use Rattle.md_answer.specs.declared.answer.Answer.{Answer}
use Rattle.md_question_check.specs.declared.verdict.Verdict.{Verdict}
use Rattle.md_check.specs.AuctionVerdicts.{IsAuctionVerdict}
use Rattle.md_check.specs.Verdicts.{IsVerdict}

-- the verdict on an answer is this
abbrev pub IsVerdictOn : SettingFile → Answer → Verdict → Type 0
IsVerdictOn (General s) answer verdict = IsVerdict s answer verdict
IsVerdictOn (Auction a) answer verdict = IsAuctionVerdict a answer verdict
IsVerdictOn (Bidders a) answer verdict = ⊥
