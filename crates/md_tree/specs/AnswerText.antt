-- What the bytes of an answer file say of the deterministic mechanisms of a setting: an answer, or the first reason to refuse them.
use Rattle.std.specs.Prelude.{ℕ, ◌+◌, ℤ, unsigned_abs, List, [], ◌∷◌, map, codes, Result}
use Rattle.md_math.specs.Lists.{number_at}
use Rattle.md_lp.specs.declared.pivot.Pivot.{Pivot}
use Rattle.md_records.specs.Text.{records_of}
use Rattle.md_space.specs.Profiles.{profile_count}
use Rattle.md_setting.specs.Setting.{GeneralSetting}
use Rattle.md_setting.specs.Meaning.{outcome_count, sizes_of}
use Rattle.md_parts.specs.declared.refusal.AnswerRefusal.{AnswerRefusal}
use Rattle.md_parts.specs.Fields.{Field, place_field, word_field}
use Rattle.md_parts.specs.FirstRecord.{word_among}
use Rattle.md_parts.specs.LastRecord.{read_end}
use Rattle.md_parts.specs.Path.{pivot_of, wide_of}
use Rattle.md_parts.specs.Reading.{Reading, ◌>>=◌, answered, nothing_more, read_record}
use Rattle.md_parts.specs.Repeated.{repeated}
use Rattle.md_parts.specs.Table.{mechanism_of, ray_of, value_of}
use Rattle.md_tree.specs.declared.answer.DetAnswer.{DetAnswer}
use Rattle.md_tree.specs.declared.answer.DetAnswer.TheVariants.{Optimal, Infeasible, Unbounded, TooWide}
use Rattle.md_tree.specs.declared.kind.Kind.{Kind}
use Rattle.md_tree.specs.declared.kind.Kind.TheVariants as kind
use Rattle.md_tree.specs.Kinds.{answer_words, kind_of}
use Rattle.md_tree.specs.TreeText.{tree_of}

-- the first record: there is one version of the format, and the word says which answer it is
abbrev pub kind_read : Reading Kind
kind_read = do
  numbers ← read_record (codes "answer") (word_field (codes "1") ∷ word_field (codes "determ") ∷ word_among answer_words ∷ [])
  nothing_more (kind_of (unsigned_abs (number_at numbers 2)))

-- ---- what is fixed

-- the fields of a fixed pair after its word: a rank that is not below the least, and the place of an outcome
abbrev pub fixed_fields : GeneralSetting → ℕ → List Field
fixed_fields s least = place_field least (profile_count (sizes_of s)) ∷ place_field 0 (outcome_count s) ∷ []

-- ranks ascend: the least that may come is one more than the one before it
abbrev pub after_fixed : ℕ → List ℤ → ℕ
after_fixed least numbers = unsigned_abs (number_at numbers 0) + 1

-- a fixed pair is a rank, as the row of a pivot, and an outcome, as its column
abbrev pub fixed_of : GeneralSetting → Reading (List Pivot)
fixed_of s = do
  records ← repeated (codes "fix") (fixed_fields s) after_fixed 0
  nothing_more (map pivot_of records)

-- ---- the answers

-- what stands between the first record and the last
abbrev pub optimal_answer : GeneralSetting → Reading DetAnswer
optimal_answer s = do
  value ← value_of
  mechanism ← mechanism_of s
  tree ← tree_of s
  nothing_more (Optimal value mechanism tree)

abbrev pub infeasible_answer : GeneralSetting → Reading DetAnswer
infeasible_answer s = do
  tree ← tree_of s
  nothing_more (Infeasible tree)

abbrev pub unbounded_answer : GeneralSetting → Reading DetAnswer
unbounded_answer s = do
  mechanism ← mechanism_of s
  ray ← ray_of s
  nothing_more (Unbounded mechanism ray)

abbrev pub too_wide_answer : GeneralSetting → Reading DetAnswer
too_wide_answer s = do
  fixed ← fixed_of s
  first ← wide_of
  _ ← read_record (codes "again") []
  second ← wide_of
  nothing_more (TooWide fixed first second)

abbrev pub answer_by : GeneralSetting → Kind → Reading DetAnswer
answer_by s kind.Optimal = optimal_answer s
answer_by s kind.Infeasible = infeasible_answer s
answer_by s kind.Unbounded = unbounded_answer s
answer_by s kind.TooWide = too_wide_answer s

abbrev pub whole_answer : GeneralSetting → Reading DetAnswer
whole_answer s = do
  kind ← kind_read
  answer ← answer_by s kind
  _ ← read_end
  nothing_more answer

abbrev pub determ_answer_of : GeneralSetting → List ℕ → Result DetAnswer AnswerRefusal
determ_answer_of s bytes = answered (whole_answer s record { read = 0; left = records_of bytes })
