-- The records that an answer about the fairest mechanism is written as, and what it must be for that.
use Rattle.std.specs.Prelude.{ℕ, List, [], ◌∷◌, ◌++◌, codes}
use Rattle.md_setting.specs.Setting.{GeneralSetting}
use Rattle.md_records.specs.Written.{text_of_records}
use Rattle.md_parts.specs.declared.version.Version.TheVariants.{One}
use Rattle.md_parts.specs.Fitting.{HasFraction, HasWidePlaces}
use Rattle.md_parts.specs.Rows.{first_row, value_row, mechanism_rows, ray_rows, face_rows, bound_rows, wide_rows, again_row, end_row}
use Rattle.md_question.specs.Shown.{IsFindingTo}
use Rattle.md_question.specs.declared.finding.Finding.TheVariants.{Optimal, Infeasible, Unbounded}
use Rattle.md_fair.specs.declared.answer.FairAnswer.{FairAnswer}
use Rattle.md_fair.specs.declared.answer.FairAnswer.TheVariants.{Found, TooWide}
use Rattle.md_fair.specs.FairQuestion.{fair_question, fair_rows}

-- the answer has the setting's sizes, and its numbers are in their ranges
abbrev pub IsFairAnswer : GeneralSetting → FairAnswer → Type 0
IsFairAnswer s (Found finding) = IsFindingTo (fair_question s) finding
IsFairAnswer s (TooWide first second) = HasFraction first × HasFraction second

-- the places that it names are as its types hold them
abbrev pub HasPlaces : FairAnswer → Type 0
HasPlaces (Found finding) = Unit {0}
HasPlaces (TooWide first second) = HasWidePlaces first × HasWidePlaces second

-- the word of each kind of answer
abbrev pub word_of : FairAnswer → List ℕ
word_of (Found (Optimal value mechanism bound)) = codes "optimal"
word_of (Found (Infeasible face)) = codes "infeasible"
word_of (Found (Unbounded mechanism ray)) = codes "unbounded"
word_of (TooWide first second) = codes "toowide"

-- what stands between the first record and the last
abbrev pub inner_rows : GeneralSetting → FairAnswer → List (List (List ℕ))
inner_rows s (Found (Optimal value mechanism bound)) = value_row value ∷ (mechanism_rows s mechanism ++ bound_rows (fair_rows s) bound)
inner_rows s (Found (Infeasible face)) = face_rows (fair_rows s) face
inner_rows s (Found (Unbounded mechanism ray)) = mechanism_rows s mechanism ++ ray_rows s ray
inner_rows s (TooWide first second) = wide_rows first ++ again_row ∷ wide_rows second

abbrev pub answer_rows : GeneralSetting → FairAnswer → List (List (List ℕ))
answer_rows s answer = first_row One (codes "fair") (word_of answer) ∷ (inner_rows s answer ++ end_row ∷ [])

-- the one text of an answer
abbrev pub text_of_fair : GeneralSetting → FairAnswer → List ℕ
text_of_fair s answer = text_of_records (answer_rows s answer)
