-- The program of a node of the search: the setting's program, and a row for each outcome that the node fixes.
use Rattle.std.specs.Prelude.{ℕ, ◌+◌, ◌*◌, ◌≡◌, pos, List, [], ◌∷◌, ◌++◌, length, Option, None, Some, is_some}
use Rattle.std.specs.List.{count_by}
use Rattle.md_math.specs.Lists.{number_at, up_to}
use Rattle.md_space.specs.Profiles.{profile_count}
use Rattle.md_setting.specs.Setting.{GeneralSetting}
use Rattle.md_setting.specs.Meaning.{outcome_count, sizes_of}
use Rattle.md_setting.specs.Rows.{column_count}
use Rattle.md_mech.specs.declared.mechanism.Mechanism.{Mechanism}
use Rattle.md_mech.specs.Rows.{conditions_of}
use Rattle.md_lp.specs.declared.row_kind.RowKind.TheVariants.{Exact}
use Rattle.md_lp.specs.Program.{Program}
use Rattle.md_forms.specs.Forms.{Form}
use Rattle.md_forms.specs.ProgramOf.{IsProgramOf}
use Rattle.md_rows.specs.ProgramOf.{forms_of}
use Rattle.md_rows.specs.Sides.{cost_in}
use Rattle.md_determ_branching.specs.Fixed.{fixed_at, AreOutcomes}

-- an entry for each profile of the setting, and each outcome that is fixed is one of the setting's
pub record IsNode (s : GeneralSetting) (node : List (Option ℕ)) : Type 0 where
  pub one_each : length node ≡ profile_count (sizes_of s)
  pub outcomes : AreOutcomes (outcome_count s) node

-- the chance of outcome o at the profile of rank r is 1
abbrev pub fixed_form : GeneralSetting → ℕ → ℕ → Form
fixed_form s r o = record { kind = Exact; left = λ x. x (r * outcome_count s + o); right = pos 1 }

-- what an entry says of the profile of rank r
abbrev pub forms_by : GeneralSetting → ℕ → Option ℕ → List Form
forms_by s r None = []
forms_by s r (Some o) = fixed_form s r o ∷ []

abbrev pub forms_at : GeneralSetting → List (Option ℕ) → ℕ → List Form
forms_at s node r = forms_by s r (fixed_at node r)

-- a form for each outcome that is fixed, by rank ascending
abbrev pub fixed_forms : GeneralSetting → List (Option ℕ) → List Form
fixed_forms s node = up_to (length node) (forms_at s node)

-- the setting's conditions, and then what is fixed
abbrev pub node_forms : GeneralSetting → List (Option ℕ) → List Form
node_forms s node = forms_of s (conditions_of s) ++ fixed_forms s node

-- the program with the columns and the cost of the setting's program
abbrev pub IsNodeProgram : GeneralSetting → List (Option ℕ) → Program → Type 0
IsNodeProgram s node p = IsProgramOf (column_count s) (node_forms s node) (cost_in s) p

-- how many outcomes are fixed
abbrev pub fixed_count : List (Option ℕ) → ℕ
fixed_count node = count_by is_some node

-- how many rows the program has
abbrev pub row_count_of : GeneralSetting → List (Option ℕ) → ℕ
row_count_of s node = length (conditions_of s) + fixed_count node

-- each outcome that is fixed has the whole at its profile
pub record HasFixed (s : GeneralSetting) (node : List (Option ℕ)) (m : Mechanism) : Type 0 where
  pub whole : (r o : ℕ) → fixed_at node r ≡ Some o → number_at m.chances (r * outcome_count s + o) ≡ m.den
