-- What `report` tells of, as the second file says it.
use Rattle.std.specs.Prelude.{◌==◌, ℕ, Bool, false, List, Option, None, Some, Result, Ok, Err, if◌then◌else◌}
use Rattle.md_setting.specs.Auction.{SymmetricAuction, value_count}
use Rattle.md_setting.specs.declared.file.SettingFile.{SettingFile}
use Rattle.md_setting.specs.declared.file.SettingFile.TheVariants.{General, Auction, Bidders}
use Rattle.md_lp.specs.Cuts.{AreCuts}
use Rattle.md_border.specs.Odds.{IsInterim}
use Rattle.md_border.specs.declared.interim.Interim.{Interim}
use Rattle.md_parts.specs.declared.refusal.AnswerRefusal.{AnswerRefusal}
use Rattle.md_parts.specs.declared.refusal.AnswerRefusal.TheVariants.{Line, Cell, Sum, End, Memory}
use Rattle.md_answer.specs.AuctionAnswers.{auction_answer_of}
use Rattle.md_answer.specs.AuctionTables.{auction_table_of}
use Rattle.md_answer.specs.declared.answer.Answer.{Answer}
use Rattle.md_answer.specs.declared.answer.Answer.TheVariants as answers
use Rattle.md_mechanism_text.specs.MechanismText.{mechanism_text_of, names_another_kind}
use Rattle.md_mechanism_text.specs.Proposals.{IsProposedFor, Proposed}
use Rattle.md_cli_driver.specs.declared.refusal.Refusal.{Refusal}
use Rattle.md_cli_driver.specs.declared.refusal.Refusal.TheVariants as refusal
use Rattle.md_cli_tell.specs.declared.reported.Reported.{Reported}
use Rattle.md_cli_tell.specs.declared.reported.Reported.TheVariants as reported

-- ---- of a general setting

-- the mechanism of an answer, which must have one, with the conditions that it is to meet
abbrev pub mechanism_reported : Option Proposed → Result Reported Refusal
mechanism_reported (Some proposed) = Ok (reported.Mechanism proposed)
mechanism_reported None = Err refusal.NoTable

-- the same of a text, or the text itself, where it names another kind of answer
abbrev pub mechanism_or_other : List ℕ → Result (Option Proposed) AnswerRefusal → Result Reported Refusal
mechanism_or_other bytes (Ok found) = mechanism_reported found
mechanism_or_other bytes (Err e) = if names_another_kind e then Ok (reported.Other bytes) else Err (refusal.Answer e)

-- ---- of an auction

-- the odds and payments of an answer, with its cuts
abbrev pub odds_reported : Answer → Result Reported Refusal
odds_reported (answers.Table mechanism) = Err refusal.NoTable
odds_reported (answers.Optimal value mechanism bound) = Err refusal.NoTable
odds_reported (answers.Infeasible face) = Err refusal.NoTable
odds_reported (answers.Unbounded mechanism ray) = Err refusal.NoTable
odds_reported (answers.AuctionOptimal value interim masses cuts bound) = Ok (reported.Odds interim cuts)
odds_reported (answers.TooWide cuts first second) = Err refusal.NoTable

-- a text is refused for the fourth field of its first record, which says what is claimed of the auction
abbrev pub names_another_word : AnswerRefusal → Bool
names_another_word (Line line) = false
names_another_word (Cell line field) = if line == 1 then field == 4 else false
names_another_word (Sum line) = false
names_another_word (End line) = false
names_another_word Memory = false

-- an auction of the designer's own
abbrev pub own_or_refusal : Result Interim AnswerRefusal → Result Reported Refusal
own_or_refusal (Ok interim) = Ok (reported.Own interim)
own_or_refusal (Err e) = Err (refusal.Answer e)

-- what a text says as an answer, or else as an auction of the designer's own
abbrev pub answer_or_own : Result Answer AnswerRefusal → Result Interim AnswerRefusal → Result Reported Refusal
answer_or_own (Ok answer) own = odds_reported answer
answer_or_own (Err e) own = if names_another_word e then own_or_refusal own else Err (refusal.Answer e)

abbrev pub auction_reported_in : SymmetricAuction → List ℕ → Result Reported Refusal
auction_reported_in a bytes = answer_or_own (auction_answer_of a bytes) (auction_table_of a bytes)

-- What the second file says to be told of: of a general setting the mechanism of an answer, whichever command printed it, or a text
-- that names another kind of answer; of an auction the odds and payments of an answer, or those of an auction of the designer's own, of
-- which nothing is claimed.
abbrev pub reported_in : SettingFile → List ℕ → Result Reported Refusal
reported_in (General s) bytes = mechanism_or_other bytes (mechanism_text_of s bytes)
reported_in (Auction a) bytes = auction_reported_in a bytes
reported_in (Bidders a) bytes = Err refusal.OtherKind

-- it has the sizes of the setting, its numbers are in their ranges, and its conditions fit the setting
abbrev pub IsReportable : SettingFile → Reported → Type 0
IsReportable (General s) (reported.Mechanism proposed) = IsProposedFor s proposed
IsReportable (General s) (reported.Odds interim cuts) = ⊥
IsReportable (General s) (reported.Own interim) = ⊥
IsReportable (General s) (reported.Other bytes) = Unit {0}
IsReportable (Auction a) (reported.Mechanism proposed) = ⊥
IsReportable (Auction a) (reported.Odds interim cuts) = IsInterim a interim × AreCuts (value_count a) cuts
IsReportable (Auction a) (reported.Own interim) = IsInterim a interim
IsReportable (Auction a) (reported.Other bytes) = ⊥
IsReportable (Bidders a) reported = ⊥
