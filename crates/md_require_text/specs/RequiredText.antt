-- What the bytes of an answer file say of the best mechanism under conditions: an answer, or the first reason to refuse them.
use Rattle.std.specs.Prelude.{ℕ, ◌==◌, ℤ, List, [], ◌∷◌, codes, length, Option, None, Some, Result, if◌then◌else◌}
use Rattle.md_math.specs.Lists.{list_to, number_at}
use Rattle.md_num.specs.declared.frac.Frac.{Frac}
use Rattle.md_setting.specs.Setting.{GeneralSetting}
use Rattle.md_records.specs.Text.{records_of}
use Rattle.md_parts.specs.declared.refusal.AnswerRefusal.{AnswerRefusal}
use Rattle.md_parts.specs.Fields.{Field, any_number, denominator_field, place_field}
use Rattle.md_parts.specs.FirstRecord.{first_of}
use Rattle.md_parts.specs.LastRecord.{read_end}
use Rattle.md_parts.specs.Multipliers.{after_row, bound_of, face_of, record_of}
use Rattle.md_parts.specs.Reading.{Reading, ◌>>=◌, answered, nothing_more}
use Rattle.md_parts.specs.Repeated.{repeated}
use Rattle.md_parts.specs.Table.{mechanism_of, ray_of, value_of}
use Rattle.md_question.specs.declared.finding.Finding.{Finding}
use Rattle.md_question.specs.declared.finding.Finding.TheVariants.{Optimal, Infeasible, Unbounded}
use Rattle.md_require.specs.RequireQuestion.{require_rows}
use Rattle.md_conditions_text.specs.ConditionsText.{conditions_read}
use Rattle.md_require.specs.declared.condition.Condition.{Condition}
use Rattle.md_require_text.specs.Told.{Told, shadow_count}

-- the words of answers about the best mechanism under conditions
abbrev pub answer_words : List (List ℕ)
answer_words = codes "optimal" ∷ codes "infeasible" ∷ codes "unbounded" ∷ []

-- multipliers are by the number of a row of the program of the setting with its conditions, which has so many
abbrev pub optimal_finding : GeneralSetting → ℕ → Reading Finding
optimal_finding s rows = do
  value ← value_of
  mechanism ← mechanism_of s
  bound ← bound_of rows
  nothing_more (Optimal value mechanism bound)

abbrev pub infeasible_finding : ℕ → Reading Finding
infeasible_finding rows = do
  face ← face_of rows
  nothing_more (Infeasible face)

abbrev pub unbounded_finding : GeneralSetting → Reading Finding
unbounded_finding s = do
  mechanism ← mechanism_of s
  ray ← ray_of s
  nothing_more (Unbounded mechanism ray)

-- by the place of the first record's word
abbrev pub finding_by : GeneralSetting → ℕ → ℕ → Reading Finding
finding_by s rows word = if word == 0 then optimal_finding s rows else (if word == 1 then infeasible_finding rows else unbounded_finding s)

-- the fields of a shadow's record after its word: the number of a condition, of `count` many and not below the least, and the fraction
abbrev pub shadow_fields : ℕ → ℕ → List Field
shadow_fields count least = place_field least count ∷ any_number ∷ denominator_field ∷ []

-- the shadow that a record says, where there is one
abbrev pub shadow_in : Option (List ℤ) → Option Frac
shadow_in None = None
shadow_in (Some numbers) = Some record { num = number_at numbers 1; den = number_at numbers 2 }

-- the shadows of so many conditions; that of a condition without a record is not told
abbrev pub shadows_for : ℕ → List (List ℤ) → List (Option Frac)
shadows_for count records = list_to count (λ index. shadow_in (record_of records index))

-- the records of some of so many conditions, whose numbers ascend
abbrev pub shadow_records : ℕ → Reading (List (List ℤ))
shadow_records count = repeated (codes "shadow") (shadow_fields count) after_row 0

abbrev pub shadows_of : ℕ → Reading (List (Option Frac))
shadows_of count = do
  records ← shadow_records count
  nothing_more (shadows_for count records)

-- what stands behind the conditions, by the place of the first record's word; shadows come last
abbrev pub behind_conditions : GeneralSetting → ℕ → List Condition → Reading Told
behind_conditions s word conditions = do
  finding ← finding_by s (require_rows s conditions) word
  shadows ← shadows_of (shadow_count finding (length conditions))
  _ ← read_end
  nothing_more record { conditions = conditions; finding = finding; shadows = shadows }

-- the first record names the best mechanism under conditions, which come next
abbrev pub whole_answer : GeneralSetting → Reading Told
whole_answer s = do
  head ← first_of (codes "required") answer_words
  conditions ← conditions_read s
  behind_conditions s head.word conditions

abbrev pub required_answer_of : GeneralSetting → List ℕ → Result Told AnswerRefusal
required_answer_of s bytes = answered (whole_answer s record { read = 0; left = records_of bytes })
