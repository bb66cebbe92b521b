-- A linear program: a cost over the columns that is to be as great as can be, and rows that bound sums over them.
-- A row is a sparse list of terms. Nothing here has a width.
use Rattle.std.specs.Prelude.{ℕ, ℤ, pos, ◌+ℤ◌, ◌*ℤ◌, ◌≤ℤ◌, ◌≡◌, List, [], ◌∷◌, ◌++◌, length, slice_index_or, if◌then◌else◌, ◌==◌}
use Rattle.md_lp.specs.declared.row_kind.RowKind.{RowKind}
use Rattle.md_lp.specs.declared.row_kind.RowKind.TheVariants.{AtMost, Exact}
use Rattle.md_lp.specs.declared.term.Term.{Term}
use Rattle.md_math.specs.Lists.{number_at}
use Rattle.md_math.specs.Sums.{dot}

pub record Row : Type 0 where
  pub kind : RowKind
  pub terms : List Term
  pub right : ℤ

-- `factor` is the number by which the cost was divided
pub record Program : Type 0 where
  pub columns : ℕ
  pub cost : List ℤ
  pub factor : ℤ
  pub rows : List Row

-- the coefficient that terms give to a column: the values that stand at it, added up
abbrev pub value_of : List Term → ℕ → ℤ
value_of [] column = pos 0
value_of (term ∷ terms) column = (if term.column == column then term.value else pos 0) +ℤ value_of terms column

-- what a row gives at numbers for its first n columns
abbrev pub left_of : ℕ → Row → (ℕ → ℤ) → ℤ
left_of n row x = dot n (value_of row.terms) x

-- whether a left side keeps to a right side
abbrev pub Keeps : RowKind → ℤ → ℤ → Type 0
Keeps AtMost left right = left ≤ℤ right
Keeps Exact left right = left ≡ right

-- whether a row holds at numbers over a denominator
abbrev pub HoldsAtPoint : ℕ → Row → ℤ → (ℕ → ℤ) → Type 0
HoldsAtPoint n row den x = Keeps row.kind (left_of n row x) (den *ℤ row.right)

-- ---- a program by its places

abbrev pub row_count : Program → ℕ
row_count p = length p.rows

-- the row at a place; past the end, the row that always holds
abbrev pub row_at : Program → ℕ → Row
row_at p r = slice_index_or p.rows r (record { kind = AtMost; terms = []; right = pos 0 })

abbrev pub kind_at : Program → ℕ → RowKind
kind_at p r = (row_at p r).kind

abbrev pub right_at : Program → ℕ → ℤ
right_at p r = (row_at p r).right

abbrev pub coefficient_at : Program → ℕ → ℕ → ℤ
coefficient_at p r j = value_of (row_at p r).terms j

abbrev pub cost_at : Program → ℕ → ℤ
cost_at p j = number_at p.cost j

-- the program with one more row at its end
abbrev pub with_row : Program → Row → Program
with_row p row = record { columns = p.columns; cost = p.cost; factor = p.factor; rows = p.rows ++ row ∷ [] }
