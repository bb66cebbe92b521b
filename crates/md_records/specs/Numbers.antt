-- Numbers as fields of a record.
use Rattle.std.specs.Prelude.{ℕ, ℤ, List, Option, Some, None, slice_get}
use Rattle.std.specs.Result.{result_ok}
use Rattle.md_num.specs.WholeText.{whole_of}

-- the number that a field is the text of, if it is that of a whole number of at most so many bits
abbrev pub number_in : ℕ → Option (List ℕ) → Option ℤ
number_in bits None = None
number_in bits (Some text) = result_ok (whole_of bits text)

-- the number at a place of a record
abbrev pub number_at : ℕ → List (List ℕ) → ℕ → Option ℤ
number_at bits record_fields place = number_in bits (slice_get record_fields place)
