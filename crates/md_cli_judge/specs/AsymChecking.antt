-- What `check` says of a sale and of the answer about its best mechanism that a second file says.
use Rattle.std.specs.Prelude.{◌≡◌, ◌⊎◌, ◌↔◌, ℕ, List, Result, Ok, Err}
use Rattle.md_setting.specs.Setting.{GeneralSetting}
use Rattle.md_setting.specs.ByKind.{WhereGeneral}
use Rattle.md_setting.specs.declared.file.SettingFile.{SettingFile}
use Rattle.md_setting.specs.declared.file.SettingFile.TheVariants.{General}
use Rattle.md_parts.specs.declared.refusal.AnswerRefusal.{AnswerRefusal}
use Rattle.md_parts.specs.declared.refusal.AnswerRefusal.TheVariants.{Cell}
use Rattle.md_question_check.specs.declared.verdict.Verdict.{Verdict}
use Rattle.md_question_check.specs.declared.verdict.Verdict.TheVariants.{Valid, Undecided}
use Rattle.md_asym_sale.specs.Sale.{IsSale}
use Rattle.md_asym.specs.SaleText.{sale_answer_of}
use Rattle.md_asym.specs.SaleVerdicts.{ClaimHolds, ClaimsNothing, IsSaleVerdict}
use Rattle.md_asym.specs.declared.sale_answer.SaleAnswer.{SaleAnswer}
use Rattle.md_cli_driver.specs.declared.refusal.Refusal.{Refusal}
use Rattle.md_cli_driver.specs.declared.refusal.Refusal.TheVariants as refusal
use Rattle.md_cli_driver.specs.Refused.{refused}
use Rattle.md_cli_driver.specs.Saying.{Saying}
use Rattle.md_cli_driver.specs.Works.{IsSaidOf}
use Rattle.md_cli_judge.specs.Verdicts.{TellsVerdict}

-- the answer that a text says of a sale
abbrev pub sale_answer_or_refusal : Result SaleAnswer AnswerRefusal → Result SaleAnswer Refusal
sale_answer_or_refusal (Ok answer) = Ok answer
sale_answer_or_refusal (Err e) = Err (refusal.Answer e)

abbrev pub sale_answer_in : GeneralSetting → List ℕ → Result SaleAnswer Refusal
sale_answer_in s bytes = sale_answer_or_refusal (sale_answer_of s bytes)

-- The one verdict on an answer, and what is said of it. Where the answer is valid, what it claims is so, over mechanisms of any
-- denominator, with numbers of any size; it stays undecided exactly where it claims nothing.
pub record IsAsymCheckedOf (s : GeneralSetting) (answer : SaleAnswer) (saying : Saying) : Type 0 where
  pub verdict : Verdict
  pub is_verdict : IsSaleVerdict s answer verdict
  pub only : (other : Verdict) → IsSaleVerdict s answer other → other ≡ verdict
  pub claim : verdict ≡ Valid → ClaimHolds s answer
  pub undecided : (verdict ≡ Undecided) ↔ ClaimsNothing answer
  pub told : TellsVerdict (General s) verdict saying

-- the same of a text that names such an answer: of a setting that is no sale there is none, and it is refused for its kind
abbrev pub IsAsymCheckedText : GeneralSetting → List ℕ → Saying → Type 0
IsAsymCheckedText s bytes saying =
    ((¬ IsSale s) × (saying ≡ refused (refusal.Answer (Cell 1 3)))) ⊎ (IsSale s × IsSaidOf (IsAsymCheckedOf s) (sale_answer_in s bytes) saying)

abbrev pub IsAsymCheck : SettingFile → List ℕ → Saying → Type 0
IsAsymCheck file bytes saying = WhereGeneral (λ s. IsAsymCheckedText s bytes saying) file
