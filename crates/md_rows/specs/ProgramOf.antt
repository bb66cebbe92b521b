-- The linear program of a setting: a row for each condition, in their order, and the designer's objective as its cost,
-- each divided by the greatest common divisor of its numbers.
use Rattle.std.specs.Prelude.{ℕ, ◌≡◌, ℤ, List, map, slice_get, Some}
use Rattle.md_setting.specs.Setting.{GeneralSetting}
use Rattle.md_setting.specs.Rows.{column_count}
use Rattle.md_mech.specs.Rows.{Condition, conditions_of}
use Rattle.md_lp.specs.Program.{Program, row_at}
use Rattle.md_forms.specs.Forms.{Form, unit}
use Rattle.md_forms.specs.ProgramOf.{IsRowOf, IsProgramOf as IsProgramOfForms}
use Rattle.md_rows.specs.Sides.{left_side, right_side, kind_of, cost_in}

-- a condition, and some of them, by numbers for the columns
abbrev pub form_of : GeneralSetting → Condition → Form
form_of s condition = record { kind = kind_of condition; left = left_side s condition; right = right_side s condition }

abbrev pub forms_of : GeneralSetting → List Condition → List Form
forms_of s conditions = map (form_of s) conditions

-- the coefficient of the cost at a column
abbrev pub cost_of : GeneralSetting → ℕ → ℤ
cost_of s j = cost_in s (unit j)

-- the program of the setting
abbrev pub IsProgramOf : GeneralSetting → Program → Type 0
IsProgramOf s p = IsProgramOfForms (column_count s) (forms_of s (conditions_of s)) (cost_in s) p

-- the row of each number is the condition of this number
abbrev pub HasEachRow : GeneralSetting → Program → Type 0
HasEachRow s p =
    (number : ℕ) (condition : Condition) → slice_get (conditions_of s) number ≡ Some condition → IsRowOf (column_count s) (form_of s condition) (row_at p number)
