-- What is said of the verdict on an answer.
use Rattle.std.specs.Prelude.{◌≡◌, ◌⊎◌, ◌<◌, ◌++◌, ◌∷◌, [], ℕ, pos, List, Some, codes, length, slice_get}
use Rattle.md_num.specs.WholeText.{text_of}
use Rattle.md_records.specs.Written.{record_text}
use Rattle.md_setting.specs.declared.file.SettingFile.{SettingFile}
use Rattle.md_setting.specs.declared.file.SettingFile.TheVariants.{General, Auction, Bidders}
use Rattle.md_mech.specs.declared.broken.Broken.{Broken}
use Rattle.md_mech.specs.Rows.{Condition, conditions_of}
use Rattle.md_mech.specs.RowName.{name_of}
use Rattle.md_question_check.specs.declared.verdict.Reject.{Reject}
use Rattle.md_question_check.specs.declared.verdict.Reject.TheVariants.{Audit, Value, Pair, Column, FaceRight, MainRight, RayRow, RayGain, Masses, Reduced, Level, Unmet}
use Rattle.md_question_check.specs.declared.verdict.Verdict.{Verdict}
use Rattle.md_question_check.specs.declared.verdict.Verdict.TheVariants.{Valid, Undecided, Rejected}
use Rattle.md_cli_driver.specs.Saying.{Saying, undecided_text}

abbrev pub valid_text : List ℕ
valid_text = codes "valid" ++ 10 ∷ []

-- the record of a condition that fails, by the condition's number, with its numbers
abbrev pub rejected : List ℕ → List (List ℕ) → List (List ℕ)
rejected condition fields = codes "rejected" ∷ condition ∷ fields

-- the row is one of the setting's, which is general
abbrev pub IsBrokenRow : SettingFile → Broken → Type 0
IsBrokenRow (General s) broken = broken.row < length (conditions_of s)
IsBrokenRow (Auction a) broken = ⊥
IsBrokenRow (Bidders a) broken = ⊥

-- The record of the first condition that fails. The condition with the number 1, which no answer about an auction has, names
-- the broken row of the setting.
abbrev pub IsRejected : SettingFile → Reject → List (List ℕ) → Type 0
IsRejected (General s) (Audit broken) fields =
    (row : Condition) × (slice_get (conditions_of s) broken.row ≡ Some row)
    × (fields ≡ rejected (codes "1") (name_of s row ∷ text_of broken.left ∷ text_of broken.right ∷ []))
IsRejected (Auction a) (Audit broken) fields = ⊥
IsRejected (Bidders a) (Audit broken) fields = ⊥
IsRejected file (Value right) fields = fields ≡ rejected (codes "2") (text_of right.num ∷ text_of right.den ∷ [])
IsRejected file (Pair row face main) fields = fields ≡ rejected (codes "3") (text_of (pos row) ∷ text_of face ∷ text_of main ∷ [])
IsRejected file (Column column face main) fields = fields ≡ rejected (codes "4") (text_of (pos column) ∷ text_of face ∷ text_of main ∷ [])
IsRejected file (FaceRight sum) fields = fields ≡ rejected (codes "5") (text_of sum ∷ [])
IsRejected file (MainRight bound cost) fields =
    fields ≡ rejected (codes "6") (text_of bound.num ∷ text_of bound.den ∷ text_of cost.num ∷ text_of cost.den ∷ [])
IsRejected file (RayRow row sum) fields = fields ≡ rejected (codes "7") (text_of (pos row) ∷ text_of sum ∷ [])
IsRejected file (RayGain sum) fields = fields ≡ rejected (codes "8") (text_of sum ∷ [])
IsRejected file (Masses kind sum demand) fields = fields ≡ rejected (codes "9") (text_of (pos kind) ∷ text_of sum ∷ text_of demand ∷ [])
IsRejected file (Reduced row left right) fields = fields ≡ rejected (codes "10") (text_of (pos row) ∷ text_of left ∷ text_of right ∷ [])
IsRejected file (Level level) fields = fields ≡ rejected (codes "11") (text_of level ∷ [])
IsRejected file (Unmet unmet) fields = fields ≡ rejected (codes "17") (text_of (pos unmet.condition) ∷ text_of unmet.left ∷ text_of unmet.right ∷ [])

-- an answer is rejected with the record of the first condition that fails
pub record IsRejectedSaying (file : SettingFile) (reject : Reject) (saying : Saying) : Type 0 where
  pub status : saying.status ≡ 20
  pub fields : List (List ℕ)
  pub rejected : IsRejected file reject fields
  pub text : saying.text ≡ record_text fields

abbrev pub TellsVerdict : SettingFile → Verdict → Saying → Type 0
TellsVerdict file Valid saying = (saying.status ≡ 0) × (saying.text ≡ valid_text)
TellsVerdict file Undecided saying = (saying.status ≡ 22) × (saying.text ≡ undecided_text)
TellsVerdict file (Rejected reject) saying = IsRejectedSaying file reject saying

-- the statuses of what is said
abbrev pub IsCheckStatus : ℕ → Type 0
IsCheckStatus status = (status ≡ 0) ⊎ ((status ≡ 20) ⊎ (status ≡ 22))
