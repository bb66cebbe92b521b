-- What `drill` says of a number: how the setting that it stands for is solved, and what the checker finds of the answer.
use Rattle.std.specs.Prelude.{◌≡◌, ◌⊎◌, ◌++◌, ◌∷◌, [], ℕ, ℤ, pos, List, Option, None, Some, Ok, codes}
use Rattle.md_num.specs.WholeText.{text_of}
use Rattle.md_num.specs.declared.frac.Frac.{Frac}
use Rattle.md_setting.specs.declared.file.SettingFile.{SettingFile}
use Rattle.md_setting.specs.declared.file.SettingFile.TheVariants.{General, Auction, Bidders}
use Rattle.md_gen.specs.Generated.{IsGenerated}
use Rattle.md_records.specs.Written.{text_of_records}
use Rattle.md_answer.specs.Kinds.{word_of}
use Rattle.md_answer.specs.Rows.{kind_in}
use Rattle.md_answer.specs.declared.answer.Answer.{Answer}
use Rattle.md_answer.specs.declared.answer.Answer.TheVariants.{Table, Optimal, Infeasible, Unbounded, AuctionOptimal, TooWide}
use Rattle.md_question_check.specs.declared.verdict.Verdict.{Verdict}
use Rattle.md_question_check.specs.declared.verdict.Verdict.TheVariants.{Valid, Undecided, Rejected}
use Rattle.md_check.specs.FileVerdicts.{IsVerdictOn}
use Rattle.md_cli_driver.specs.Reading.{answer_in}
use Rattle.md_cli_best.specs.Headline.{IsSolveStatus}
use Rattle.md_cli_best.specs.Numbers.{IsSaidOfNumber}
use Rattle.md_cli_driver.specs.Saying.{Saying}
use Rattle.md_cli_best.specs.Solving.{IsSolve}

-- ---- the records

-- the kind of a setting, as answers name it
abbrev pub kind_of : SettingFile → List ℕ
kind_of (General s) = codes "general"
kind_of (Auction a) = codes "auction"
kind_of (Bidders a) = codes "bidders"

-- the value of an answer that has one
abbrev pub value_in : Answer → Option Frac
value_in (Table mechanism) = None
value_in (Optimal value mechanism bound) = Some value
value_in (Infeasible face) = None
value_in (Unbounded mechanism ray) = None
value_in (AuctionOptimal value interim masses cuts bound) = Some value
value_in (TooWide cuts first second) = None

-- a record with both numbers of a value behind it, where there is one
abbrev pub with_value : List (List ℕ) → Option Frac → List (List ℕ)
with_value row None = row
with_value row (Some value) = (row ++ text_of value.num ∷ []) ++ text_of value.den ∷ []

-- the number, the kind of its setting, which answer it has, and the value of an optimal one
abbrev pub drill_row : ℕ → SettingFile → Answer → List (List ℕ)
drill_row number file answer =
    with_value (codes "drill" ∷ text_of (pos number) ∷ kind_of file ∷ word_of (kind_in answer) ∷ []) (value_in answer)

abbrev pub word_of_verdict : Verdict → List ℕ
word_of_verdict Valid = codes "valid"
word_of_verdict Undecided = codes "undecided"
word_of_verdict (Rejected reject) = codes "rejected"

abbrev pub check_row : Verdict → List (List ℕ)
check_row verdict = codes "check" ∷ word_of_verdict verdict ∷ []

-- ---- what is said

-- a text says an answer about the setting
abbrev pub IsReadable : SettingFile → List ℕ → Type 0
IsReadable file text = (answer : Answer) × (answer_in file text ≡ Ok answer)

-- the verdict on what is claimed; an answer that claims nothing is undecided
abbrev pub sure_verdict : Answer → Verdict
sure_verdict (Table mechanism) = Undecided
sure_verdict (Optimal value mechanism bound) = Valid
sure_verdict (Infeasible face) = Valid
sure_verdict (Unbounded mechanism ray) = Valid
sure_verdict (AuctionOptimal value interim masses cuts bound) = Valid
sure_verdict (TooWide cuts first second) = Undecided

-- both records about an answer, with a verdict on it
pub record IsCheckedAs (number : ℕ) (file : SettingFile) (answer : Answer) (told : List ℕ) : Type 0 where
  pub verdict : Verdict
  pub judged : IsVerdictOn file answer verdict
  pub text : told ≡ text_of_records (drill_row number file answer ∷ check_row verdict ∷ [])

-- the same about the answer that a text says
pub record IsToldOf (number : ℕ) (file : SettingFile) (printed told : List ℕ) : Type 0 where
  pub answer : Answer
  pub read_back : answer_in file printed ≡ Ok answer
  pub checked : IsCheckedAs number file answer told

-- The setting of the number, and what `solve` says of it within the greatest width: a text with this status. What the text
-- says, read back, is told with its value. The checker finds it valid where it claims something, and undecided where both
-- paths are too wide; it rejects nothing.
pub record IsDrilled (number : ℕ) (saying : Saying) : Type 0 where
  pub file : SettingFile
  pub generated : IsGenerated number file
  pub printed : List ℕ
  pub solved : IsSolve 62 file record { status = saying.status; text = printed }
  pub answer : Answer
  pub read_back : answer_in file printed ≡ Ok answer
  pub verdict : IsVerdictOn file answer (sure_verdict answer)
  pub text : saying.text ≡ text_of_records (drill_row number file answer ∷ check_row (sure_verdict answer) ∷ [])

abbrev pub IsDrill : ℤ → Saying → Type 0
IsDrill number saying = IsSaidOfNumber IsDrilled number saying

-- the statuses of both
abbrev pub IsDrillStatus : ℕ → Type 0
IsDrillStatus status = IsSolveStatus status ⊎ (status ≡ 67)
