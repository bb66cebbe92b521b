-- The answer about a sale that a second file says, of which something can be told and drawn.
use Rattle.std.specs.Prelude.{◌≡◌, ◌⊎◌, ℕ, List, Result, Ok, Err}
use Rattle.md_setting.specs.Setting.{GeneralSetting}
use Rattle.md_parts.specs.declared.refusal.AnswerRefusal.{AnswerRefusal}
use Rattle.md_parts.specs.declared.refusal.AnswerRefusal.TheVariants.{Cell}
use Rattle.md_asym_sale.specs.Sale.{IsSale}
use Rattle.md_asym.specs.AnswerTo.{IsAnswerTo}
use Rattle.md_asym.specs.SaleText.{sale_answer_of}
use Rattle.md_asym.specs.declared.asym_answer.AsymAnswer.{AsymAnswer}
use Rattle.md_asym.specs.declared.sale_answer.SaleAnswer.{SaleAnswer}
use Rattle.md_asym.specs.declared.sale_answer.SaleAnswer.TheVariants.{Optimal, TooWide}
use Rattle.md_cli_driver.specs.declared.refusal.Refusal.{Refusal}
use Rattle.md_cli_driver.specs.declared.refusal.Refusal.TheVariants as refusal
use Rattle.md_cli_driver.specs.Refused.{refused}
use Rattle.md_cli_driver.specs.Saying.{Saying}

-- ---- what is read

-- an answer about a sale, which must have a mechanism
abbrev pub sale_table : SaleAnswer → Result AsymAnswer Refusal
sale_table (Optimal answer) = Ok answer
sale_table (TooWide cuts first second) = Err refusal.NoTable

abbrev pub sale_table_or_refusal : Result SaleAnswer AnswerRefusal → Result AsymAnswer Refusal
sale_table_or_refusal (Ok answer) = sale_table answer
sale_table_or_refusal (Err e) = Err (refusal.Answer e)

abbrev pub sale_table_in : GeneralSetting → List ℕ → Result AsymAnswer Refusal
sale_table_in s bytes = sale_table_or_refusal (sale_answer_of s bytes)

-- a text names another kind of answer than what is about the setting
abbrev pub another_kind : Refusal
another_kind = refusal.Answer (Cell 1 3)

-- The answer that a text says of a sale, with its sizes, and with numbers in their ranges.
pub record IsSaleTable (s : GeneralSetting) (bytes : List ℕ) (answer : AsymAnswer) : Type 0 where
  pub sale : IsSale s
  pub read : sale_table_in s bytes ≡ Ok answer
  pub fits : IsAnswerTo s answer

-- The reason to refuse a text. Of a setting that is no sale there is no such answer, whatever the text says.
abbrev pub IsSaleRefused : GeneralSetting → List ℕ → Refusal → Type 0
IsSaleRefused s bytes e = ((¬ IsSale s) × (e ≡ another_kind)) ⊎ (IsSale s × (sale_table_in s bytes ≡ Err e))

-- ---- what is said

-- the refusal
pub record IsRefusedSaying (s : GeneralSetting) (bytes : List ℕ) (saying : Saying) : Type 0 where
  pub reason : Refusal
  pub is_reason : IsSaleRefused s bytes reason
  pub said : saying ≡ refused reason

-- what is said of the answer
pub record IsTableSaying (Says : GeneralSetting → AsymAnswer → Saying → Type 0) (s : GeneralSetting) (bytes : List ℕ) (saying : Saying) : Type 0 where
  pub answer : AsymAnswer
  pub is_answer : IsSaleTable s bytes answer
  pub told : Says s answer saying

-- one or the other
abbrev pub IsSaidOfTable : (GeneralSetting → AsymAnswer → Saying → Type 0) → GeneralSetting → List ℕ → Saying → Type 0
IsSaidOfTable Says s bytes saying = IsRefusedSaying s bytes saying ⊎ IsTableSaying Says s bytes saying
