-- Records as one text.
use Rattle.std.specs.Prelude.{ℕ, ◌<◌, ◌≢◌, List, [], ◌∷◌, ◌++◌, All, length, slice_index}
use Rattle.csv.specs.Writing.{default_writer, row_text}

-- the text of a record: its fields with commas between them, in quotes where they need them, and a newline
abbrev pub record_text : List (List ℕ) → List ℕ
record_text fields = row_text default_writer fields

-- the texts of records, one after the other
abbrev pub text_of_records : List (List (List ℕ)) → List ℕ
text_of_records [] = []
text_of_records (row ∷ rows) = record_text row ++ text_of_records rows

-- these records have a text that reads as them: each has a field, since one with none is written as an empty one,
-- and the text does not begin with the first byte of a byte order mark
pub record IsReadBack (rows : List (List (List ℕ))) : Type 0 where
  pub fields : All (λ row. 0 < length row) rows
  pub no_mark : slice_index (text_of_records rows) 0 ≢ 239
