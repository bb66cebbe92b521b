-- The fields of a record that are left.
use Rattle.std.specs.Prelude.{ℕ, List}

-- the number of the record, the place of the next field and the texts of the fields from there on
pub record Left : Type 0 where
  pub number : ℕ
  pub place : ℕ
  pub texts : List (List ℕ)
