-- Reading an answer record by record.
use Rattle.std.specs.Prelude.{ℕ, ◌+◌, ℤ, Bool, false, ◌&&◌, List, [], ◌∷◌, length, Result, Ok, Err, if◌then◌else◌, ◌==◌}
use Rattle.std.specs.Ordering.{int_eq}
use Rattle.std.specs.Str.{bytes_eq}
use Rattle.md_math.specs.Sums.{total}
use Rattle.md_parts.specs.declared.refusal.AnswerRefusal.{AnswerRefusal}
use Rattle.md_parts.specs.declared.refusal.AnswerRefusal.TheVariants.{Line, Cell, Sum, End}
use Rattle.md_parts.specs.Fields.{Field, numbers_of}

-- the records that are left, and how many were read before them
pub record Rest : Type 0 where
  pub read : ℕ
  pub left : List (List (List ℕ))

-- what is read of some records, with those that are left then, or the first refusal
abbrev pub Reading : Type 0 → Type 0
Reading T = Rest → Result (T × Rest) AnswerRefusal

-- what comes next is read of the records that are left, where this was not refused
abbrev pub then_read : {A B : Type 0} → Result (A × Rest) AnswerRefusal → (A → Reading B) → Result (B × Rest) AnswerRefusal
then_read (Ok read) next = next read.0 read.1
then_read (Err refusal) next = Err refusal

infixl 10 ◌>>=◌
abbrev pub ◌>>=◌ : {A B : Type 0} → Reading A → (A → Reading B) → Reading B
◌>>=◌ first next = λ rest. then_read (first rest) next

-- nothing is read
abbrev pub nothing_more : {T : Type 0} → T → Reading T
nothing_more value = λ rest. Ok (value, rest)

-- a record begins with the word and has so many fields after it
abbrev pub is_record : List ℕ → ℕ → List (List ℕ) → Bool
is_record word count [] = false
is_record word count (first ∷ fields) = bytes_eq first word && (length fields == count)

-- the fields of a record after its word
abbrev pub fields_after_word : List (List ℕ) → List (List ℕ)
fields_after_word [] = []
fields_after_word (first ∷ fields) = fields

-- the numbers in the fields of the record of this number; the word is its field 1
abbrev pub record_numbers : ℕ → List Field → List (List ℕ) → Result (List ℤ) AnswerRefusal
record_numbers number fields record_fields = elim (numbers_of 2 fields (fields_after_word record_fields)) [
  | Ok numbers ↦ Ok numbers
  | Err place ↦ Err (Cell number place)
]

-- the numbers of the next record, which begins with the word and has these fields after it
abbrev pub read_record : List ℕ → List Field → Reading (List ℤ)
read_record word fields rest = elim rest.left [
  | [] ↦ Err (End rest.read)
  | next ∷ others ↦
      if is_record word (length fields) next
      then (elim (record_numbers (rest.read + 1) fields next) [
        | Ok numbers ↦ Ok (numbers, record { read = rest.read + 1; left = others })
        | Err refusal ↦ Err refusal
      ])
      else Err (Line (rest.read + 1))
]

-- numbers of the record that was read last, which add to this
abbrev pub adding_to : ℤ → List ℤ → Reading (List ℤ)
adding_to wanted numbers rest = if int_eq (total numbers) wanted then Ok (numbers, rest) else Err (Sum rest.read)

-- no record is left
abbrev pub nothing_left : Reading (Unit {0})
nothing_left rest = elim rest.left [
  | [] ↦ Ok (tt, rest)
  | next ∷ others ↦ Err (Line (rest.read + 1))
]

-- what was read, alone
abbrev pub answered : {T : Type 0} → Result (T × Rest) AnswerRefusal → Result T AnswerRefusal
answered (Ok read) = Ok read.0
answered (Err refusal) = Err refusal
