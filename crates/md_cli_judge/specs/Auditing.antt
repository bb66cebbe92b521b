-- What `audit` says of a setting and of the mechanism that an answer file says.
use Rattle.std.specs.Prelude.{◌≡◌, ◌⊎◌, ◌++◌, ◌∷◌, [], ℕ, ℤ, pos, List, Option, None, Some, Result, Ok, Err, codes}
use Rattle.md_num.specs.WholeText.{text_of}
use Rattle.md_setting.specs.Setting.{GeneralSetting}
use Rattle.md_setting.specs.ByKind.{WhereGeneral}
use Rattle.md_setting.specs.declared.file.SettingFile.{SettingFile}
use Rattle.md_setting.specs.declared.file.SettingFile.TheVariants.{General, Auction, Bidders}
use Rattle.md_mech.specs.declared.broken.Broken.{Broken}
use Rattle.md_mech.specs.Admissible.{IsAdmissible}
use Rattle.md_mech.specs.Rows.{IsFirstBroken, conditions_of}
use Rattle.md_mech.specs.RowName.{name_of}
use Rattle.md_parts.specs.declared.refusal.AnswerRefusal.{AnswerRefusal}
use Rattle.md_question.specs.declared.unmet.Unmet.{Unmet}
use Rattle.md_require.specs.Conditions.{IsFirstUnmet, MeetsAll}
use Rattle.md_mechanism_text.specs.MechanismText.{mechanism_text_of}
use Rattle.md_mechanism_text.specs.Proposals.{Proposed}
use Rattle.md_cli_driver.specs.declared.refusal.Refusal.{Refusal}
use Rattle.md_cli_driver.specs.declared.refusal.Refusal.TheVariants as refusal
use Rattle.md_cli_driver.specs.Saying.{Saying}

-- a mechanism that an answer has, with the conditions that it is to meet; an answer without one is refused
abbrev pub proposal_or_no_table : Option Proposed → Result Proposed Refusal
proposal_or_no_table (Some proposed) = Ok proposed
proposal_or_no_table None = Err refusal.NoTable

abbrev pub proposal_or_refusal : Result (Option Proposed) AnswerRefusal → Result Proposed Refusal
proposal_or_refusal (Ok found) = proposal_or_no_table found
proposal_or_refusal (Err e) = Err (refusal.Answer e)

-- the mechanism that the second file says of a general setting
abbrev pub proposal_in : SettingFile → List ℕ → Result Proposed Refusal
proposal_in (General s) bytes = proposal_or_refusal (mechanism_text_of s bytes)
proposal_in (Auction a) bytes = Err refusal.OtherKind
proposal_in (Bidders a) bytes = Err refusal.OtherKind

abbrev pub admissible_text : List ℕ
admissible_text = codes "admissible" ++ 10 ∷ []

-- the record of a condition that is broken: its name and both sides
abbrev pub broken_text : List ℕ → ℤ → ℤ → List ℕ
broken_text name left right =
    codes "broken," ++ (name ++ (44 ∷ (text_of left ++ (44 ∷ (text_of right ++ 10 ∷ [])))))

-- that of a condition of the designer, whose name has its number, from 0
abbrev pub unmet_text : Unmet → List ℕ
unmet_text unmet = broken_text (codes "condition/" ++ text_of (pos unmet.condition)) unmet.left unmet.right

-- the first row of the setting that a mechanism breaks, and what is said of it
pub record IsBrokenSaying (s : GeneralSetting) (proposed : Proposed) (saying : Saying) : Type 0 where
  pub broken : Broken
  pub first : IsFirstBroken s proposed.mechanism (conditions_of s) 0 broken
  pub status : saying.status ≡ 20
  pub text : saying.text ≡ broken_text (name_of s first.row) broken.left broken.right

-- the setting admits it, but it does not meet the conditions of the designer: the first one, and what is said of it
pub record IsUnmetSaying (s : GeneralSetting) (proposed : Proposed) (saying : Saying) : Type 0 where
  pub admissible : IsAdmissible s proposed.mechanism
  pub unmet : Unmet
  pub first : IsFirstUnmet s proposed.conditions proposed.mechanism unmet
  pub status : saying.status ≡ 20
  pub text : saying.text ≡ unmet_text unmet

-- the setting admits it, and it meets the conditions of the designer
pub record IsAdmissibleSaying (s : GeneralSetting) (proposed : Proposed) (saying : Saying) : Type 0 where
  pub admissible : IsAdmissible s proposed.mechanism
  pub meets : MeetsAll s proposed.conditions proposed.mechanism
  pub status : saying.status ≡ 0
  pub text : saying.text ≡ admissible_text

-- what is said of a mechanism that the setting admits
abbrev pub IsAdmissibleVerdict : GeneralSetting → Proposed → Saying → Type 0
IsAdmissibleVerdict s proposed saying = IsAdmissibleSaying s proposed saying ⊎ IsUnmetSaying s proposed saying

-- what is said of a setting and a mechanism
abbrev pub IsVerdict : GeneralSetting → Proposed → Saying → Type 0
IsVerdict s proposed saying = IsAdmissibleVerdict s proposed saying ⊎ IsBrokenSaying s proposed saying

abbrev pub IsAudit : SettingFile → Proposed → Saying → Type 0
IsAudit file proposed saying = WhereGeneral (λ s. IsVerdict s proposed saying) file

-- the statuses of what is answered
abbrev pub IsAuditStatus : ℕ → Type 0
IsAuditStatus status = (status ≡ 0) ⊎ (status ≡ 20)
