-- The program of a setting with conditions of the designer: the rows of the setting's program, and then those of the conditions, in
-- their order.
use Rattle.std.specs.Prelude.{ℕ, ℤ, ◌*ℤ◌, neg_ℤ, List, ◌++◌, map, flat_map}
use Rattle.md_math.specs.Sums.{sum_to}
use Rattle.md_setting.specs.Setting.{GeneralSetting}
use Rattle.md_setting.specs.Meaning.{agent_count, outcome_count, utility_of}
use Rattle.md_setting.specs.Rows.{column_count}
use Rattle.md_mech.specs.Rows.{conditions_of}
use Rattle.md_lp.specs.declared.row_kind.RowKind.TheVariants.{AtMost}
use Rattle.md_lp.specs.Program.{Program}
use Rattle.md_forms.specs.Forms.{Form}
use Rattle.md_forms.specs.ProgramOf.{IsProgramOf}
use Rattle.md_rows.specs.Columns.{chance_column, payment_in}
use Rattle.md_rows.specs.ProgramOf.{forms_of}
use Rattle.md_rows.specs.Sides.{cost_in, utility_in}
use Rattle.md_require.specs.declared.condition.Condition.{Condition}
use Rattle.md_require.specs.declared.condition.Side.{Side}
use Rattle.md_require.specs.declared.condition.Side.TheVariants.{Least, Most}
use Rattle.md_require.specs.Amounts.{Amount, revenue, welfare, utility, chance, chance_at, payment_at, amounts_of, weighted, whole_of}

-- an amount, by numbers for the columns
abbrev pub amount_in : GeneralSetting → (ℕ → ℤ) → Amount → ℤ
amount_in s x revenue = weighted s (λ t. sum_to (agent_count s) (λ i. payment_in s x i t))
amount_in s x welfare = weighted s (λ t. sum_to (agent_count s) (λ i. sum_to (outcome_count s) (λ o. utility_of s i t o *ℤ x (chance_column s t o))))
amount_in s x (utility i) = weighted s (λ t. utility_in s x i t t)
amount_in s x (chance o) = weighted s (λ t. x (chance_column s t o))
amount_in s x (chance_at t o) = x (chance_column s t o)
amount_in s x (payment_at i t) = payment_in s x i t

-- a number as a side that is to be at most another one, and its negative where it is to be at least that
abbrev pub at_most_by : Side → ℤ → ℤ
at_most_by Least z = neg_ℤ z
at_most_by Most z = z

-- the row of an amount of a condition
abbrev pub amount_form : GeneralSetting → Condition → Amount → Form
amount_form s c amount = record {
  kind = AtMost;
  left = λ x. at_most_by c.side (c.den *ℤ amount_in s x amount);
  right = at_most_by c.side (c.num *ℤ whole_of s amount);
}

abbrev pub condition_forms : GeneralSetting → Condition → List Form
condition_forms s c = map (amount_form s c) (amounts_of s c.measured)

abbrev pub require_forms : GeneralSetting → List Condition → List Form
require_forms s conditions = forms_of s (conditions_of s) ++ flat_map (condition_forms s) conditions

-- the program has the setting's columns and cost
abbrev pub IsRequireProgram : GeneralSetting → List Condition → Program → Type 0
IsRequireProgram s conditions p = IsProgramOf (column_count s) (require_forms s conditions) (cost_in s) p
