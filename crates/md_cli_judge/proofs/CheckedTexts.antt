-- What is said of an answer, or of a text, that was checked.
use Rattle.std.proofs.Common.{◌≡◌, ◌↔◌, ℕ, List, true}
use Rattle.md_setting.specs.ByKind.{has_no_groups, WhereAuction, WhereGeneral}
use Rattle.md_setting.specs.Setting.{GeneralSetting}
use Rattle.md_setting.specs.declared.file.SettingFile.{SettingFile}
use Rattle.md_setting.specs.declared.file.SettingFile.TheVariants.{General, Auction, Bidders}
use Rattle.md_answer.specs.declared.answer.Answer.{Answer}
use Rattle.md_question_check.specs.declared.verdict.Verdict.{Verdict}
use Rattle.md_question_check.specs.declared.verdict.Verdict.TheVariants.{Valid, Undecided}
use Rattle.md_check.specs.AuctionVerdicts.{AuctionClaimHolds, IsAuctionVerdict}
use Rattle.md_check.specs.Verdicts.{ClaimHolds, ClaimsNothing, IsVerdict}
use Rattle.md_tree.specs.declared.verdict.DetVerdict.{DetVerdict}
use Rattle.md_tree.specs.Texts.{IsCheckedText}
use Rattle.md_cli_driver.specs.Saying.{Saying}
use Rattle.md_cli_judge.specs.Checking.{IsCheck}
use Rattle.md_cli_judge.specs.DetermChecking.{IsDetermCheckedText}
use Rattle.md_cli_judge.specs.DetermVerdicts.{TellsVerdict}
use Rattle.md_cli_judge.specs.Verdicts.{TellsVerdict as TellsVerdictOn}

pub told_verdict : (file : SettingFile) (answer : Answer) (verdict : Verdict) (saying : Saying) → has_no_groups file ≡ true
    → WhereGeneral (λ s. IsVerdict s answer verdict) file → WhereAuction (λ a. IsAuctionVerdict a answer verdict) file
    → WhereGeneral (λ s. (other : Verdict) → IsVerdict s answer other → other ≡ verdict) file → WhereAuction (λ a. (other : Verdict) → IsAuctionVerdict a answer other → other ≡ verdict) file
    → WhereGeneral (λ s. verdict ≡ Valid → ClaimHolds s answer) file → WhereAuction (λ a. verdict ≡ Valid → AuctionClaimHolds a answer) file
    → (verdict ≡ Undecided) ↔ ClaimsNothing answer → TellsVerdictOn file verdict saying → IsCheck file answer saying
told_verdict (General s) answer verdict saying none is auction only auction_only claim auction_claim undecided told =
    record { verdict = verdict; is_verdict = is; only = only; claim = claim; undecided = undecided; told = told }
told_verdict (Auction a) answer verdict saying none general is general_only only general_claim claim undecided told =
    record { verdict = verdict; is_verdict = is; only = only; claim = claim; undecided = undecided; told = told }
told_verdict (Bidders a) answer verdict saying none is auction only auction_only claim auction_claim undecided told = absurd (let e = none in cc)

pub told_text : (s : GeneralSetting) (bytes : List ℕ) (verdict : DetVerdict) (saying : Saying) → IsCheckedText s bytes verdict → TellsVerdict s verdict saying → IsDetermCheckedText s bytes saying
told_text s bytes verdict saying h told = record {
  answer = h.answer;
  reads = h.reads;
  checked = record {
    verdict = verdict;
    is_verdict = h.is_verdict;
    only = h.only;
    claim = h.claim;
    undecided = h.undecided;
    told = told;
  };
}
