-- The program of a sale: a row for each condition, in their order, and what the pairs add to the designer's objective as its
-- cost, each divided by the greatest common divisor of its numbers.
use Rattle.std.specs.Prelude.{ℕ, ◌*◌, ℤ, ◌≡◌, ◌*ℤ◌, ◌↔◌, List, All, map, slice_get, Some}
use Rattle.md_setting.specs.Setting.{GeneralSetting}
use Rattle.md_lp.specs.declared.row_kind.RowKind.TheVariants.{AtMost}
use Rattle.md_lp.specs.Program.{Program, row_at}
use Rattle.md_lp.specs.Point.{IsPoint, Meets, cost_sum}
use Rattle.md_forms.specs.Forms.{Form, Holds}
use Rattle.md_forms.specs.ProgramOf.{IsRowOf, IsProgramOf}
use Rattle.md_asym_sale.specs.declared.condition.SaleCondition.{SaleCondition}
use Rattle.md_asym_sale.specs.Conditions.{conditions_of}
use Rattle.md_asym_sale.specs.Forms.{left_side, right_side, cost_of}
use Rattle.md_asym_sale.specs.Values.{pairs_of}

-- the columns: for each pair its odds and the two parts of its payment
abbrev pub column_count : GeneralSetting → ℕ
column_count s = 3 * pairs_of s

-- a condition, and some of them, by numbers for the columns
abbrev pub form_of : GeneralSetting → SaleCondition → Form
form_of s condition = record { kind = AtMost; left = left_side s condition; right = right_side s condition }

abbrev pub forms_of : GeneralSetting → List SaleCondition → List Form
forms_of s conditions = map (form_of s) conditions

-- the program of the sale with these cuts
abbrev pub IsSaleProgram : GeneralSetting → List ℕ → Program → Type 0
IsSaleProgram s cuts p = IsProgramOf (column_count s) (forms_of s (conditions_of s cuts)) (cost_of s) p

-- the row of each number is the condition of this number
abbrev pub HasEachRow : GeneralSetting → List ℕ → Program → Type 0
HasEachRow s cuts p =
    (number : ℕ) (condition : SaleCondition) → slice_get (conditions_of s cuts) number ≡ Some condition
    → IsRowOf (column_count s) (form_of s condition) (row_at p number)

-- a point meets the program exactly where its odds and payments keep each condition
abbrev pub MeetsByConditions : GeneralSetting → List ℕ → Program → Type 0
MeetsByConditions s cuts p =
    (den : ℤ) (x : ℕ → ℤ) → IsPoint p den x → Meets p den x ↔ All (λ condition. Holds den x (form_of s condition)) (conditions_of s cuts)

-- the cost of a point, times the cost factor, is what the pairs add to the objective
abbrev pub CostsPoints : GeneralSetting → Program → Type 0
CostsPoints s p = (x : ℕ → ℤ) → cost_of s x ≡ p.factor *ℤ cost_sum p x
