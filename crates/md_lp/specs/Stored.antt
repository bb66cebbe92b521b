-- How a row is kept, and what contracts see of it.
use Rattle.std.specs.Prelude.{ℕ, ℤ, ◌%◌, List, map}
use Rattle.std.specs.Int.{w64, cast_signed, int_shr}
use Rattle.md_lp.specs.declared.term.Term.{Term}
use Rattle.md_lp.specs.declared.stored_term.StoredTerm.{StoredTerm}
use Rattle.md_lp.specs.declared.stored_row.StoredRow.{StoredRow}
use Rattle.md_lp.specs.Program.{Row}

-- the column of a term that is kept: its lowest 16 bits
unfoldable pub kept_column : StoredTerm → ℕ
kept_column term = term.packed % 65536

-- the value of a term that is kept: the bits above them, as a signed number
unfoldable pub kept_value : StoredTerm → ℤ
kept_value term = int_shr (cast_signed w64 term.packed) 16

abbrev pub shown_term : StoredTerm → Term
shown_term term = record { column = kept_column term; value = kept_value term }

abbrev pub shown_terms : List StoredTerm → List Term
shown_terms terms = map shown_term terms

abbrev pub shown : StoredRow → Row
shown row = record { kind = row.kind; terms = shown_terms row.terms.items; right = row.right }
