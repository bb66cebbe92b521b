-- What the bytes of a file of conditions say: the conditions, or the first reason to refuse them.
use Rattle.std.specs.Prelude.{ℕ, ◌+◌, List, [], ◌∷◌, ◌++◌, codes, None, Some, Result, Ok, Err, if◌then◌else◌}
use Rattle.md_setting.specs.Setting.{GeneralSetting}
use Rattle.md_records.specs.Text.{records_of}
use Rattle.md_parts.specs.declared.refusal.AnswerRefusal.{AnswerRefusal}
use Rattle.md_parts.specs.declared.refusal.AnswerRefusal.TheVariants.{Line, Cell}
use Rattle.md_parts.specs.Fields.{word_field}
use Rattle.md_parts.specs.Reading.{Rest, Reading, ◌>>=◌, then_read, nothing_more, answered, read_record}
use Rattle.md_parts.specs.LastRecord.{read_end}
use Rattle.md_require.specs.declared.condition.Condition.{Condition}
use Rattle.md_conditions_text.specs.declared.kind.Kind.{Kind}
use Rattle.md_conditions_text.specs.Kinds.{kind_of}
use Rattle.md_conditions_text.specs.ConditionFields.{condition_of}
use Rattle.md_conditions_text.specs.Narrow.{has_narrow_rows, wide_place, are_few}

-- the numbers of its rows are small enough; else the field that makes one too large is refused, in the record that was read last
abbrev pub narrow : GeneralSetting → Kind → Condition → Reading Condition
narrow s kind c rest = if has_narrow_rows s c then Ok (c, rest) else Err (Cell rest.read (wide_place s kind c))

-- it may stand behind those that came before it; else the record that was read last is refused
abbrev pub behind : GeneralSetting → List Condition → Condition → Reading Condition
behind s before c rest = if are_few s (before ++ c ∷ []) then Ok (c, rest) else Err (Line rest.read)

-- the condition of a record of this kind
abbrev pub small_condition : GeneralSetting → Kind → Reading Condition
small_condition s kind = do
  told ← condition_of s kind
  narrow s kind told

-- the same behind those that came before it
abbrev pub next_condition : GeneralSetting → List Condition → Kind → Reading Condition
next_condition s before kind = do
  small ← small_condition s kind
  behind s before small

-- the conditions that were read before, and those whose records come next
abbrev pub conditions_in : GeneralSetting → List Condition → ℕ → List (List (List ℕ)) → Result (List Condition × Rest) AnswerRefusal
conditions_in s before read [] = Ok (before, record { read = read; left = [] })
conditions_in s before read (next ∷ others) = elim (kind_of next) [
  | None ↦ Ok (before, record { read = read; left = next ∷ others })
  | Some kind ↦
      then_read (next_condition s before kind record { read = read; left = next ∷ others })
      (λ c _. conditions_in s (before ++ c ∷ []) (read + 1) others)
]

-- those whose records come next, as many as there are
abbrev pub conditions_read : GeneralSetting → Reading (List Condition)
conditions_read s rest = conditions_in s [] rest.read rest.left

-- the first record has the version of the format
abbrev pub whole_file : GeneralSetting → Reading (List Condition)
whole_file s = do
  _ ← read_record (codes "require") (word_field (codes "1") ∷ [])
  conditions ← conditions_read s
  _ ← read_end
  nothing_more conditions

abbrev pub conditions_of : GeneralSetting → List ℕ → Result (List Condition) AnswerRefusal
conditions_of s bytes = answered (whole_file s record { read = 0; left = records_of bytes })
