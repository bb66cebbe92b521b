-- Linear conditions on numbers for columns, each a form: what its left side makes of the numbers, and what that is to be of
-- its right side. A form speaks of no row, no term and no divisor.
use Rattle.std.specs.Prelude.{ℕ, zero, suc, ◌==◌, ℤ, pos, ◌*ℤ◌, if◌then◌else◌}
use Rattle.md_lp.specs.declared.row_kind.RowKind.{RowKind}
use Rattle.md_lp.specs.Program.{Keeps}

-- the left side as a function of a number for each column, and the right side, of which it is to be at most or the same
pub record Form : Type 0 where
  pub kind : RowKind
  pub left : (ℕ → ℤ) → ℤ
  pub right : ℤ

-- 1 at one column, and 0 at all others
abbrev pub unit : ℕ → ℕ → ℤ
unit j k = if k == j then pos 1 else pos 0

-- the numbers of a form: its right side, and then its coefficients by column
abbrev pub number_of : Form → ℕ → ℤ
number_of form zero = form.right
number_of form (suc j) = form.left (unit j)

-- the form holds at numbers over a denominator
abbrev pub Holds : ℤ → (ℕ → ℤ) → Form → Type 0
Holds den x form = Keeps form.kind (form.left x) (den *ℤ form.right)
