-- A program that grows form by form.
use Rattle.std.specs.Prelude.{ℕ, ℤ, ◌+◌, ◌≤◌, ◌≡◌, List, ◌++◌, length}
use Rattle.md_lp.specs.Program.{Program, Row, row_count}
use Rattle.md_lp.specs.declared.row_kind.RowKind.{RowKind}
use Rattle.md_lp.specs.declared.term.Term.{Term}
use Rattle.md_forms.specs.Forms.{Form}
use Rattle.md_forms.specs.ProgramOf.{AreRowsOf}
use Rattle.md_forms.specs.Terms.{sum_at}

-- the program has room for a row for each of these forms
pub record HasRoom (forms : List Form) (p : Program) : Type 0 where
  pub room : row_count p + length forms ≤ 8192

-- the rows of these forms were added at its end
pub record Extends (forms : List Form) (old new : Program) : Type 0 where
  pub added : List Row
  pub are : AreRowsOf old.columns forms added
  pub appended : new ≡ record old { rows = old.rows ++ added }

-- the kind, the terms and the right side are those of the form
pub record IsWritten (form : Form) (kind : RowKind) (terms : List Term) (right : ℤ) : Type 0 where
  pub kind_is : kind ≡ form.kind
  pub left_is : (x : ℕ → ℤ) → sum_at x terms ≡ form.left x
  pub right_is : right ≡ form.right
