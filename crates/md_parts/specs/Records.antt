-- Reading a record in steps: first its word and the number of its fields, then field by field.
use Rattle.std.specs.Prelude.{ℕ, ◌+◌, List, [], ◌∷◌, Ok, Err, if◌then◌else◌}
use Rattle.md_parts.specs.declared.refusal.AnswerRefusal.TheVariants.{Line, End}
use Rattle.md_parts.specs.Left.{Left}
use Rattle.md_parts.specs.Reading.{Reading, is_record, fields_after_word as after_word}

abbrev pub fields_after_word : List (List ℕ) → List (List ℕ)
fields_after_word fields = after_word fields

-- the fields of the next record, which begins with the word and has so many fields after it
abbrev pub record_with : List ℕ → ℕ → Reading Left
record_with word count rest = elim rest.left [
  | [] ↦ Err (End rest.read)
  | next ∷ others ↦
      if is_record word count next
      then Ok (record { number = rest.read + 1; place = 2; texts = after_word next }, record { read = rest.read + 1; left = others })
      else Err (Line (rest.read + 1))
]
