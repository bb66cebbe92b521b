-- The records that an answer about the best mechanism under conditions is written as.
use Rattle.std.specs.Prelude.{ℕ, pos, List, [], ◌∷◌, ◌++◌, codes, length, Option, None, Some, slice_index_or}
use Rattle.md_math.specs.Lists.{up_to}
use Rattle.md_num.specs.declared.frac.Frac.{Frac}
use Rattle.md_setting.specs.Setting.{GeneralSetting}
use Rattle.md_records.specs.Written.{text_of_records}
use Rattle.md_parts.specs.declared.version.Version.TheVariants.{One}
use Rattle.md_parts.specs.Rows.{bound_rows, end_row, face_rows, first_row, mechanism_rows, number_row, ray_rows, value_row}
use Rattle.md_question.specs.declared.finding.Finding.{Finding}
use Rattle.md_question.specs.declared.finding.Finding.TheVariants.{Optimal, Infeasible, Unbounded}
use Rattle.md_require.specs.RequireQuestion.{require_rows}
use Rattle.md_conditions_text.specs.ConditionRows.{condition_rows}
use Rattle.md_require_text.specs.Told.{Told}

-- the word of each kind of answer
abbrev pub finding_word : Finding → List ℕ
finding_word (Optimal value mechanism bound) = codes "optimal"
finding_word (Infeasible face) = codes "infeasible"
finding_word (Unbounded mechanism ray) = codes "unbounded"

-- what was found, by a program of so many rows
abbrev pub finding_rows : GeneralSetting → ℕ → Finding → List (List (List ℕ))
finding_rows s rows (Optimal value mechanism bound) = value_row value ∷ (mechanism_rows s mechanism ++ bound_rows rows bound)
finding_rows s rows (Infeasible face) = face_rows rows face
finding_rows s rows (Unbounded mechanism ray) = mechanism_rows s mechanism ++ ray_rows s ray

-- the record of a condition's shadow, which is left out where it is not told
abbrev pub shadow_row : ℕ → Option Frac → List (List (List ℕ))
shadow_row index None = []
shadow_row index (Some shadow) = number_row (codes "shadow") (pos index ∷ shadow.num ∷ shadow.den ∷ []) ∷ []

abbrev pub shadow_rows : List (Option Frac) → List (List (List ℕ))
shadow_rows shadows = up_to (length shadows) (λ index. shadow_row index (slice_index_or shadows index None))

-- what stands between the first record and the last
abbrev pub inner_rows : GeneralSetting → Told → List (List (List ℕ))
inner_rows s answer =
    condition_rows s answer.conditions ++ (finding_rows s (require_rows s answer.conditions) answer.finding ++ shadow_rows answer.shadows)

abbrev pub answer_rows : GeneralSetting → Told → List (List (List ℕ))
answer_rows s answer = first_row One (codes "required") (finding_word answer.finding) ∷ (inner_rows s answer ++ end_row ∷ [])

-- the one text of an answer
abbrev pub text_of_required : GeneralSetting → Told → List ℕ
text_of_required s answer = text_of_records (answer_rows s answer)
