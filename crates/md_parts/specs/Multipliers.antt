-- The records of multipliers: one for each row of a program, of which those of zeros are left out.
use Rattle.std.specs.Prelude.{ℕ, ◌+◌, ℤ, pos, unsigned_abs, List, [], ◌∷◌, Option, None, Some, replicate, codes, if◌then◌else◌}
use Rattle.std.specs.Ordering.{int_eq}
use Rattle.md_math.specs.Lists.{number_at, list_to}
use Rattle.md_cert.specs.declared.bound.Bound.{Bound}
use Rattle.md_parts.specs.Fields.{Field, any_number, denominator_field, place_field}
use Rattle.md_parts.specs.Reading.{Reading, ◌>>=◌, nothing_more, read_record}
use Rattle.md_parts.specs.Repeated.{repeated}

-- the fields of a row's record after its word: the number of the row, of `rows` many and not below the least, and then `count` multipliers
abbrev pub row_fields : ℕ → ℕ → ℕ → List Field
row_fields rows count least = place_field least rows ∷ replicate count any_number

-- rows ascend: the least row that may come is one more than the row before it
abbrev pub after_row : ℕ → List ℤ → ℕ
after_row least numbers = unsigned_abs (number_at numbers 0) + 1

-- the record of a row, where there is one
abbrev pub record_of : List (List ℤ) → ℕ → Option (List ℤ)
record_of [] row = None
record_of (numbers ∷ others) row = if int_eq (number_at numbers 0) (pos row) then Some numbers else record_of others row

abbrev pub number_in : ℕ → Option (List ℤ) → ℤ
number_in place None = pos 0
number_in place (Some numbers) = number_at numbers place

-- what the record of a row has at a place, and 0 where the row has no record
abbrev pub number_for : ℕ → List (List ℤ) → ℕ → ℤ
number_for place records row = number_in place (record_of records row)

-- the same of all rows
abbrev pub numbers_for : ℕ → ℕ → List (List ℤ) → List ℤ
numbers_for place rows records = list_to rows (number_for place records)

-- the records of some of so many rows, with so many multipliers each
abbrev pub row_records : ℕ → ℕ → Reading (List (List ℤ))
row_records rows count = repeated (codes "row") (row_fields rows count) after_row 0

-- the face multipliers of so many rows alone
abbrev pub face_of : ℕ → Reading (List ℤ)
face_of rows = do
  records ← row_records rows 1
  nothing_more (numbers_for 1 rows records)

-- the denominator of main multipliers
abbrev pub bound_denominator : Reading ℤ
bound_denominator = do
  numbers ← read_record (codes "bound") (denominator_field ∷ [])
  nothing_more (number_at numbers 0)

-- both kinds of multipliers of so many rows
abbrev pub bound_of : ℕ → Reading Bound
bound_of rows = do
  den ← bound_denominator
  records ← row_records rows 2
  nothing_more record { den = den; main = numbers_for 2 rows records; face = numbers_for 1 rows records }
