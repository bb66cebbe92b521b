-- What is said of the verdict on an answer about the best deterministic mechanism.
use Rattle.std.specs.Prelude.{◌≡◌, ◌∷◌, [], pos, List, ℕ, Some, codes, slice_get}
use Rattle.md_num.specs.WholeText.{text_of}
use Rattle.md_records.specs.Written.{record_text}
use Rattle.md_setting.specs.Setting.{GeneralSetting}
use Rattle.md_mech.specs.Rows.{Condition, conditions_of}
use Rattle.md_mech.specs.RowName.{name_of}
use Rattle.md_tree.specs.declared.verdict.DetReject.{DetReject}
use Rattle.md_tree.specs.declared.verdict.DetReject.TheVariants.{Lottery, Audit, Value, Leaf, Worth, Root}
use Rattle.md_tree.specs.declared.verdict.DetVerdict.{DetVerdict}
use Rattle.md_tree.specs.declared.verdict.DetVerdict.TheVariants.{Valid, Undecided, Rejected}
use Rattle.md_cli_driver.specs.Saying.{Saying, undecided_text}
use Rattle.md_cli_judge.specs.Verdicts.{rejected, valid_text}

-- The record of the first condition that fails. A condition of the setting that is broken is told by the name of its row.
abbrev pub IsRejected : GeneralSetting → DetReject → List (List ℕ) → Type 0
IsRejected s (Lottery rank) fields = fields ≡ rejected (codes "11") (text_of (pos rank) ∷ [])
IsRejected s (Audit broken) fields =
    (row : Condition) × (slice_get (conditions_of s) broken.row ≡ Some row)
    × (fields ≡ rejected (codes "12") (name_of s row ∷ text_of broken.left ∷ text_of broken.right ∷ []))
IsRejected s (Value right) fields = fields ≡ rejected (codes "13") (text_of right.num ∷ text_of right.den ∷ [])
IsRejected s (Leaf node) fields = fields ≡ rejected (codes "14") (text_of (pos node) ∷ [])
IsRejected s (Worth node) fields = fields ≡ rejected (codes "15") (text_of (pos node) ∷ [])
IsRejected s Root fields = fields ≡ rejected (codes "16") []

-- an answer is rejected with the record of the first condition that fails
pub record IsRejectedSaying (s : GeneralSetting) (reject : DetReject) (saying : Saying) : Type 0 where
  pub status : saying.status ≡ 20
  pub fields : List (List ℕ)
  pub rejected : IsRejected s reject fields
  pub text : saying.text ≡ record_text fields

abbrev pub TellsVerdict : GeneralSetting → DetVerdict → Saying → Type 0
TellsVerdict s Valid saying = (saying.status ≡ 0) × (saying.text ≡ valid_text)
TellsVerdict s Undecided saying = (saying.status ≡ 22) × (saying.text ≡ undecided_text)
TellsVerdict s (Rejected reject) saying = IsRejectedSaying s reject saying
