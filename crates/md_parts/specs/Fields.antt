-- What stands in the fields of a record after its word.
use Rattle.std.specs.Prelude.{ℕ, ◌+◌, ◌^◌, ℤ, pos, Bool, true, not, ◌&&◌, nat_eq, nat_le, unsigned_abs, List, [], ◌∷◌, Option, None, Some, Result, Ok, Err, int_le, int_lt, if◌then◌else◌}
use Rattle.std.specs.List.{list_any}
use Rattle.std.specs.Str.{bytes_eq}
use Rattle.md_num.specs.WholeText.{whole_of}

-- what a field may hold, as a number; a word or name stands for 0
abbrev pub Field : Type 0
Field = List ℕ → Option ℤ

-- the field is this word or name
abbrev pub word_field : List ℕ → Field
word_field word text = if bytes_eq text word then Some (pos 0) else None

-- the field is a number of at most so many bits that passes a test
abbrev pub number_field : ℕ → (ℤ → Bool) → Field
number_field bits test text = elim (whole_of bits text) [
  | Ok number ↦ if test number then Some number else None
  | Err _ ↦ None
]

-- numbers are of 62 bits: any, those from 0 on, those from 1 on
abbrev pub any_number : Field
any_number = number_field 62 (λ _. true)

abbrev pub chance_field : Field
chance_field = number_field 62 (int_le (pos 0))

abbrev pub denominator_field : Field
denominator_field = number_field 62 (int_le (pos 1))

-- values and entries are of 126 bits
abbrev pub wide_number : Field
wide_number = number_field 126 (λ _. true)

abbrev pub wide_denominator : Field
wide_denominator = number_field 126 (int_le (pos 1))

-- an amount: a number from 0 on and at most another
abbrev pub is_amount : ℕ → ℤ → Bool
is_amount most number = int_le (pos 0) number && nat_le (unsigned_abs number) most

abbrev pub amount_field : ℕ → Field
amount_field most = number_field 126 (is_amount most)

-- a number is one of the places from one on and below another
abbrev pub is_place : ℕ → ℕ → ℤ → Bool
is_place from below number = int_le (pos from) number && int_lt number (pos below)

abbrev pub place_field : ℕ → ℕ → Field
place_field from below = number_field 62 (is_place from below)

-- a number is one of the places from one on and below another, and is none of those that are taken
abbrev pub is_free_place : ℕ → ℕ → List ℕ → ℤ → Bool
is_free_place from below taken number = is_place from below number && not (list_any (nat_eq (unsigned_abs number)) taken)

abbrev pub free_place_field : ℕ → ℕ → List ℕ → Field
free_place_field from below taken = number_field 62 (is_free_place from below taken)

-- the place of a row or column of a table
abbrev pub table_place : Field
table_place = place_field 0 (2 ^ 32)

-- the numbers of the fields, or the place of the first that holds something else, where the first field has this place
abbrev pub numbers_of : ℕ → List Field → List (List ℕ) → Result (List ℤ) ℕ
numbers_of place [] texts = Ok []
numbers_of place (field ∷ fields) [] = Ok []
numbers_of place (field ∷ fields) (text ∷ texts) = elim (field text) [
  | None ↦ Err place
  | Some number ↦ elim (numbers_of (place + 1) fields texts) [
    | Err wrong ↦ Err wrong
    | Ok numbers ↦ Ok (number ∷ numbers)
  ]
]
