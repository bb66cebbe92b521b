-- What the bytes of a basis file say of a program with so many columns and rows: a basis, or the first reason to refuse them.
use Rattle.std.specs.Prelude.{ℕ, suc, zero, List, [], ◌∷◌, ◌++◌, codes, unsigned_abs, Result, if◌then◌else◌}
use Rattle.md_math.specs.Lists.{number_at}
use Rattle.md_records.specs.Text.{records_of}
use Rattle.md_parts.specs.declared.refusal.AnswerRefusal.{AnswerRefusal}
use Rattle.md_parts.specs.Fields.{free_place_field}
use Rattle.md_parts.specs.LastRecord.{read_end}
use Rattle.md_parts.specs.Reading.{Reading, ◌>>=◌, nothing_more, answered, read_record}
use Rattle.md_parts.specs.Repeated.{comes_next}

-- which columns of the program are basic, and of which rows the slack is, or the start column of an exact row
pub record Listed : Type 0 where
  pub columns : List ℕ
  pub slacks : List ℕ

abbrev pub listed_as : List ℕ → List ℕ → Listed
listed_as columns slacks = record { columns = columns; slacks = slacks }

-- a record of a number below so many that was not listed before
abbrev pub one_more : List ℕ → ℕ → List ℕ → Reading (List ℕ)
one_more word below before = do
  numbers ← read_record word (free_place_field 0 below before ∷ [])
  nothing_more (before ++ unsigned_abs (number_at numbers 0) ∷ [])

abbrev pub with_column : ℕ → Listed → Reading Listed
with_column columns listed = do
  numbers ← one_more (codes "column") columns listed.columns
  nothing_more (listed_as numbers listed.slacks)

abbrev pub with_slack : ℕ → Listed → Reading Listed
with_slack rows listed = do
  numbers ← one_more (codes "slack") rows listed.slacks
  nothing_more (listed_as listed.columns numbers)

-- a column of the program, or else the slack of a row
abbrev pub with_next : ℕ → ℕ → Listed → Reading Listed
with_next columns rows listed rest = if comes_next (codes "column") rest.left then with_column columns listed rest else with_slack rows listed rest

-- so many more
abbrev pub with_more : ℕ → ℕ → ℕ → Listed → Reading Listed
with_more columns rows zero listed = nothing_more listed
with_more columns rows (suc count) listed = with_next columns rows listed >>= with_more columns rows count

-- one for each row, and then the end
abbrev pub whole_basis : ℕ → ℕ → Reading Listed
whole_basis columns rows = do
  listed ← with_more columns rows rows (listed_as [] [])
  _ ← read_end
  nothing_more listed

abbrev pub basis_of : ℕ → ℕ → List ℕ → Result Listed AnswerRefusal
basis_of columns rows bytes = answered (whole_basis columns rows record { read = 0; left = records_of bytes })
