-- What the bytes of an answer file say of the fairest mechanism of a setting: an answer, or the first reason to refuse them.
use Rattle.std.specs.Prelude.{ℕ, ◌==◌, List, [], ◌∷◌, codes, Result, if◌then◌else◌}
use Rattle.md_setting.specs.Setting.{GeneralSetting}
use Rattle.md_records.specs.Text.{records_of}
use Rattle.md_parts.specs.declared.refusal.AnswerRefusal.{AnswerRefusal}
use Rattle.md_parts.specs.Reading.{Reading, ◌>>=◌, nothing_more, answered, read_record}
use Rattle.md_parts.specs.FirstRecord.{first_of}
use Rattle.md_parts.specs.LastRecord.{read_end}
use Rattle.md_parts.specs.Table.{mechanism_of, ray_of, value_of}
use Rattle.md_parts.specs.Multipliers.{bound_of, face_of}
use Rattle.md_parts.specs.Path.{wide_of}
use Rattle.md_question.specs.declared.finding.Finding.TheVariants.{Optimal, Infeasible, Unbounded}
use Rattle.md_fair.specs.declared.answer.FairAnswer.{FairAnswer}
use Rattle.md_fair.specs.declared.answer.FairAnswer.TheVariants.{Found, TooWide}
use Rattle.md_fair.specs.FairQuestion.{fair_rows}

-- the words of answers about the fairest mechanism
abbrev pub answer_words : List (List ℕ)
answer_words = codes "optimal" ∷ codes "infeasible" ∷ codes "unbounded" ∷ codes "toowide" ∷ []

-- what stands between the first record and the last: multipliers are by the number of a row of the fair program
abbrev pub optimal_answer : GeneralSetting → Reading FairAnswer
optimal_answer s = do
  value ← value_of
  mechanism ← mechanism_of s
  bound ← bound_of (fair_rows s)
  nothing_more (Found (Optimal value mechanism bound))

abbrev pub infeasible_answer : GeneralSetting → Reading FairAnswer
infeasible_answer s = do
  face ← face_of (fair_rows s)
  nothing_more (Found (Infeasible face))

abbrev pub unbounded_answer : GeneralSetting → Reading FairAnswer
unbounded_answer s = do
  mechanism ← mechanism_of s
  ray ← ray_of s
  nothing_more (Found (Unbounded mechanism ray))

-- the part about the forward path, and then that about the backward one
abbrev pub too_wide_answer : Reading FairAnswer
too_wide_answer = do
  first ← wide_of
  _ ← read_record (codes "again") []
  second ← wide_of
  nothing_more (TooWide first second)

-- by the place of the first record's word
abbrev pub answer_by : GeneralSetting → ℕ → Reading FairAnswer
answer_by s word =
    if word == 0 then optimal_answer s
    else (if word == 1 then infeasible_answer s
    else (if word == 2 then unbounded_answer s else too_wide_answer))

-- the first record names the fairest mechanism, and not the best one
abbrev pub whole_answer : GeneralSetting → Reading FairAnswer
whole_answer s = do
  head ← first_of (codes "fair") answer_words
  answer ← answer_by s head.word
  _ ← read_end
  nothing_more answer

abbrev pub fair_answer_of : GeneralSetting → List ℕ → Result FairAnswer AnswerRefusal
fair_answer_of s bytes = answered (whole_answer s record { read = 0; left = records_of bytes })
