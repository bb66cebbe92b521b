-- What the files of a command say, and which reason to refuse them comes first.
use Rattle.std.specs.Prelude.{◌≡◌, ◌≢◌, ℕ, Bool, true, false, List, length, Result, Ok, Err, MatchResult, nat_lt, if◌then◌else◌}
use Rattle.md_setting.specs.declared.file.SettingFile.{SettingFile}
use Rattle.md_setting.specs.declared.file.SettingFile.TheVariants.{General, Auction, Bidders}
use Rattle.md_toml.specs.File.{setting_of}
use Rattle.md_answer.specs.Answers.{answer_of}
use Rattle.md_answer.specs.AuctionAnswers.{auction_answer_of}
use Rattle.md_answer.specs.declared.answer.Answer.{Answer}
use Rattle.md_parts.specs.declared.refusal.AnswerRefusal.{AnswerRefusal}
use Rattle.md_toml.specs.declared.refusal.SettingRefusal.{SettingRefusal}
use Rattle.md_cli_driver.specs.declared.refusal.Refusal.{Refusal}
use Rattle.md_cli_driver.specs.declared.refusal.Refusal.TheVariants as refusal

-- the greatest length of a setting file, and of a second file
abbrev pub setting_limit : ℕ
setting_limit = 1048576

abbrev pub answer_limit : ℕ
answer_limit = 67108864

-- a file as it is read, unless it is longer than its limit
abbrev pub file_of : ℕ → Refusal → List ℕ → Result (List ℕ) Refusal
file_of limit too_long bytes = if nat_lt limit (length bytes) then Err too_long else Ok bytes

-- what comes next is read where nothing was refused
abbrev pub and_then : {A B : Type 0} → Result A Refusal → (A → Result B Refusal) → Result B Refusal
and_then (Ok x) next = next x
and_then (Err e) next = Err e

-- the setting that was read
abbrev pub setting_or_refusal : Result SettingFile SettingRefusal → Result SettingFile Refusal
setting_or_refusal (Ok file) = Ok file
setting_or_refusal (Err e) = Err (refusal.Setting e)

-- a setting of a kind that the command serves
abbrev pub served_by : (SettingFile → Bool) → SettingFile → Result SettingFile Refusal
served_by serves file = if serves file then Ok file else Err refusal.OtherKind

-- the setting that a file says, or the first reason to refuse it
abbrev pub file_said : List ℕ → Result SettingFile Refusal
file_said bytes = and_then (file_of setting_limit refusal.SettingTooLong bytes) (λ short. setting_or_refusal (setting_of short))

-- the same to a command, which serves some settings
abbrev pub setting_in : (SettingFile → Bool) → List ℕ → Result SettingFile Refusal
setting_in serves bytes = and_then (file_said bytes) (served_by serves)

-- the settings that are general
abbrev pub is_general : SettingFile → Bool
is_general (General s) = true
is_general (Auction a) = false
is_general (Bidders a) = false

-- those that are auctions
abbrev pub is_auction : SettingFile → Bool
is_auction (General s) = false
is_auction (Auction a) = true
is_auction (Bidders a) = false

-- what a second file says, or the first reason to refuse it
abbrev pub second_in : {T : Type 0} → (List ℕ → Result T Refusal) → List ℕ → Result T Refusal
second_in reading bytes = and_then (file_of answer_limit refusal.AnswerTooLong bytes) reading

-- A call gives what the definition gives, unless a read failed or memory ran out. The function says what the answer means.
abbrev pub Follows : {T D : Type 0} → (T → D) → Result T Refusal → Result D Refusal → Type 0
Follows meaning answer given =
    MatchResult answer (λ x. given ≡ Ok (meaning x)) (λ e. e ≢ refusal.ReadFault → e ≢ refusal.Memory → given ≡ Err e)

-- ---- answers

abbrev pub answer_or_refusal : Result Answer AnswerRefusal → Result Answer Refusal
answer_or_refusal (Ok answer) = Ok answer
answer_or_refusal (Err e) = Err (refusal.Answer e)

-- the answer that the second file says of the setting
abbrev pub answer_in : SettingFile → List ℕ → Result Answer Refusal
answer_in (General s) bytes = answer_or_refusal (answer_of s bytes)
answer_in (Auction a) bytes = answer_or_refusal (auction_answer_of a bytes)
answer_in (Bidders a) bytes = Err refusal.OtherKind
