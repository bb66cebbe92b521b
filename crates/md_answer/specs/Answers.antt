-- What the bytes of an answer file say of a general setting: an answer, or the first reason to refuse them.
use Rattle.std.specs.Prelude.{ℕ, List, [], codes, Result}
use Rattle.md_setting.specs.Setting.{GeneralSetting}
use Rattle.md_setting.specs.Rows.{row_count}
use Rattle.md_records.specs.Text.{records_of}
use Rattle.md_answer.specs.declared.answer.Answer.{Answer}
use Rattle.md_answer.specs.declared.answer.Answer.TheVariants.{Table, Optimal, Infeasible, Unbounded, TooWide}
use Rattle.md_parts.specs.declared.refusal.AnswerRefusal.{AnswerRefusal}
use Rattle.md_parts.specs.declared.version.Version.{Version}
use Rattle.md_answer.specs.declared.kind.Kind.{Kind}
use Rattle.md_answer.specs.declared.kind.Kind.TheVariants as kind
use Rattle.md_answer.specs.Kinds.{answer_words, kind_of}
use Rattle.md_parts.specs.Reading.{Reading, ◌>>=◌, nothing_more, answered}
use Rattle.md_parts.specs.FirstRecord.{first_of}
use Rattle.md_parts.specs.LastRecord.{read_end}
use Rattle.md_parts.specs.Table.{mechanism_of, ray_of, value_of}
use Rattle.md_parts.specs.Multipliers.{bound_of, face_of}
use Rattle.md_parts.specs.Path.{wide_of, second_of}

-- what stands between the first record and the last
abbrev pub table_answer : GeneralSetting → Reading Answer
table_answer s = do
  mechanism ← mechanism_of s
  nothing_more (Table mechanism)

abbrev pub optimal_answer : GeneralSetting → Reading Answer
optimal_answer s = do
  value ← value_of
  mechanism ← mechanism_of s
  bound ← bound_of (row_count s)
  nothing_more (Optimal value mechanism bound)

abbrev pub infeasible_answer : GeneralSetting → Reading Answer
infeasible_answer s = do
  face ← face_of (row_count s)
  nothing_more (Infeasible face)

abbrev pub unbounded_answer : GeneralSetting → Reading Answer
unbounded_answer s = do
  mechanism ← mechanism_of s
  ray ← ray_of s
  nothing_more (Unbounded mechanism ray)

-- the program of a general setting has no rows that were added as cuts
abbrev pub too_wide_answer : Version → Reading Answer
too_wide_answer version = do
  first ← wide_of
  second ← second_of version
  nothing_more (TooWide [] first second)

abbrev pub answer_by : GeneralSetting → Version → Kind → Reading Answer
answer_by s version kind.Table = table_answer s
answer_by s version kind.Optimal = optimal_answer s
answer_by s version kind.Infeasible = infeasible_answer s
answer_by s version kind.Unbounded = unbounded_answer s
answer_by s version kind.TooWide = too_wide_answer version

abbrev pub whole_answer : GeneralSetting → Reading Answer
whole_answer s = do
  head ← first_of (codes "general") answer_words
  answer ← answer_by s head.version (kind_of head.word)
  _ ← read_end
  nothing_more answer

abbrev pub answer_of : GeneralSetting → List ℕ → Result Answer AnswerRefusal
answer_of s bytes = answered (whole_answer s record { read = 0; left = records_of bytes })
