-- The fair program of a setting: the conditions of the setting, and a level that is at most what each agent gets on average.
use Rattle.std.specs.Prelude.{ℕ, ◌+◌, ℤ, pos, ◌-ℤ◌, ◌*ℤ◌, List, ◌++◌}
use Rattle.md_math.specs.Lists.{list_to}
use Rattle.md_math.specs.Sums.{total_by}
use Rattle.md_space.specs.AllProfiles.{profiles_of}
use Rattle.md_setting.specs.Setting.{GeneralSetting}
use Rattle.md_setting.specs.Meaning.{agent_count, sizes_of, weight_of}
use Rattle.md_setting.specs.Rows.{column_count}
use Rattle.md_mech.specs.Rows.{conditions_of}
use Rattle.md_lp.specs.declared.row_kind.RowKind.TheVariants.{AtMost}
use Rattle.md_lp.specs.Program.{Program}
use Rattle.md_forms.specs.Forms.{Form}
use Rattle.md_forms.specs.ProgramOf.{IsProgramOf}
use Rattle.md_rows.specs.ProgramOf.{forms_of}
use Rattle.md_rows.specs.Sides.{utility_in}

-- the level, whose two parts stand behind the columns of the setting's program
abbrev pub level_in : GeneralSetting → (ℕ → ℤ) → ℤ
level_in s x = x (column_count s) -ℤ x (column_count s + 1)

-- what agent i gets on average, by numbers for the columns
abbrev pub mean_in : GeneralSetting → (ℕ → ℤ) → ℕ → ℤ
mean_in s x i = total_by (λ t. weight_of s t *ℤ utility_in s x i t t) (profiles_of (sizes_of s))

-- by how much the level exceeds it, which is to be at most 0
abbrev pub lag_in : GeneralSetting → (ℕ → ℤ) → ℕ → ℤ
lag_in s x i = level_in s x -ℤ mean_in s x i

abbrev pub agent_form : GeneralSetting → ℕ → Form
agent_form s i = record { kind = AtMost; left = λ x. lag_in s x i; right = pos 0 }

abbrev pub agent_forms : GeneralSetting → List Form
agent_forms s = list_to (agent_count s) (agent_form s)

-- the setting's conditions, and then one for each agent
abbrev pub fair_forms : GeneralSetting → List Form
fair_forms s = forms_of s (conditions_of s) ++ agent_forms s

-- the program over the setting's columns and two more, whose cost is the level
abbrev pub IsFairProgram : GeneralSetting → Program → Type 0
IsFairProgram s p = IsProgramOf (column_count s + 2) (fair_forms s) (level_in s) p
