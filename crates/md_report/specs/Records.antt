-- The records that tell a report.
use Rattle.std.specs.Prelude.{ℕ, List, [], ◌∷◌, ◌++◌, map, codes, Option, None, Some, slice_get, slice_index}
use Rattle.md_num.specs.WholeText.{text_of}
use Rattle.md_num.specs.declared.frac.Frac.{Frac}
use Rattle.md_records.specs.Written.{text_of_records}
use Rattle.md_space.specs.Profiles.{profile_at}
use Rattle.md_setting.specs.Setting.{GeneralSetting}
use Rattle.md_setting.specs.Meaning.{sizes_of}
use Rattle.md_mech.specs.Rows.{Condition, dominant_row, bayes_row, ex_post_row, interim_row, deficit_row, profile_row, conditions_of}
use Rattle.md_mech.specs.RowName.{agent_name, type_name, profile_name, name_of}
use Rattle.md_mech.specs.Conditions.{named}
use Rattle.md_report.specs.declared.deficit.Deficit.{Deficit}
use Rattle.md_report.specs.declared.report.Report.{Report}
use Rattle.md_report.specs.declared.type_numbers.TypeNumbers.{TypeNumbers}
use Rattle.md_report.specs.declared.worst.Worst.{Worst}

-- the numbers of a fraction
abbrev pub fraction : Frac → List (List ℕ)
fraction value = text_of value.num ∷ text_of value.den ∷ []

abbrev pub number_record : List ℕ → Frac → List (List ℕ)
number_record word value = word ∷ fraction value

-- what a type gets, and what it pays
abbrev pub type_record : GeneralSetting → TypeNumbers → List (List ℕ)
type_record s told =
    codes "type" ∷ agent_name s told.agent ∷ type_name s told.agent told.kind ∷ fraction told.utility ++ fraction told.payment

-- which condition it is; of others nothing is told
abbrev pub worst_head : GeneralSetting → Condition → List (List ℕ)
worst_head s (dominant_row i t b) =
    codes "gain" ∷ agent_name s i ∷ type_name s i (slice_index t i) ∷ type_name s i b ∷ profile_name s t ∷ []
worst_head s (bayes_row i a b) = codes "gain" ∷ agent_name s i ∷ type_name s i a ∷ type_name s i b ∷ []
worst_head s (ex_post_row i t) = codes "loss" ∷ agent_name s i ∷ type_name s i (slice_index t i) ∷ profile_name s t ∷ []
worst_head s (interim_row i a) = codes "loss" ∷ agent_name s i ∷ type_name s i a ∷ []
worst_head s (deficit_row t) = []
worst_head s (profile_row t) = []

abbrev pub worst_record : GeneralSetting → Worst → List (List ℕ)
worst_record s worst = worst_head s (named s worst.condition) ++ fraction worst.shortfall

-- the record of what is told, if something is
abbrev pub told_records : GeneralSetting → Option Worst → List (List (List ℕ))
told_records s None = []
told_records s (Some worst) = worst_record s worst ∷ []

abbrev pub worst_records : GeneralSetting → List (Option Worst) → List (List (List ℕ))
worst_records s [] = []
worst_records s (worst ∷ others) = told_records s worst ++ worst_records s others

-- where least is paid, and how much
abbrev pub deficit_record : GeneralSetting → Deficit → List (List ℕ)
deficit_record s told = codes "deficit" ∷ profile_name s (profile_at (sizes_of s) told.rank) ∷ fraction told.payments

abbrev pub deficit_records : GeneralSetting → Option Deficit → List (List (List ℕ))
deficit_records s None = []
deficit_records s (Some told) = deficit_record s told ∷ []

-- the name of the condition with this number
abbrev pub name_in : GeneralSetting → Option Condition → List ℕ
name_in s None = []
name_in s (Some c) = name_of s c

abbrev pub tight_record : GeneralSetting → ℕ → List (List ℕ)
tight_record s r = codes "tight" ∷ name_in s (slice_get (conditions_of s) r) ∷ []

abbrev pub end_record : List (List ℕ)
end_record = codes "end" ∷ []

-- the value, the revenue and the welfare
abbrev pub head_records : Report → List (List (List ℕ))
head_records report =
    number_record (codes "value") report.value ∷ number_record (codes "revenue") report.revenue ∷ number_record (codes "welfare") report.welfare ∷ []

-- all records, in their order, with some more in front of the end
abbrev pub report_records : GeneralSetting → Report → List (List (List ℕ)) → List (List (List ℕ))
report_records s report more =
    head_records report
    ++ map (type_record s) report.types.items
    ++ worst_records s report.gains.items
    ++ worst_records s report.losses.items
    ++ deficit_records s report.deficit
    ++ map (tight_record s) report.tight.items
    ++ more
    ++ end_record ∷ []

abbrev pub report_text : GeneralSetting → Report → List (List (List ℕ)) → List ℕ
report_text s report more = text_of_records (report_records s report more)
