-- Rows that are read as a value, whatever comes after them.
use Rattle.std.specs.Prelude.{◌≡◌, ℕ, ◌+◌, ℤ, List, ◌++◌, length, Ok}
use Rattle.md_parts.specs.Fields.{Field, numbers_of}
use Rattle.md_parts.specs.Reading.{Reading}

-- texts that the fields take as these numbers
pub record Holds (fields : List Field) (texts : List (List ℕ)) (numbers : List ℤ) : Type 0 where
  pub long : length texts ≡ length fields
  pub read : (place : ℕ) → numbers_of place fields texts ≡ Ok numbers

-- the rows, before these other ones, are read as the value, and the other ones are left
pub record IsWrittenBefore {A : Type 0} (others : List (List (List ℕ))) (reading : Reading A) (rows : List (List (List ℕ))) (value : A) : Type 0 where
  pub read : (n : ℕ) → reading record { read = n; left = rows ++ others } ≡ Ok (value, record { read = n + length rows; left = others })
