-- The linear program of some forms: a row for each, in their order, and a cost, each divided by the greatest common divisor
-- of its numbers.
use Rattle.std.specs.Prelude.{ℕ, suc, ◌≡◌, ℤ, ◌*ℤ◌, List, [], ◌∷◌, slice_get, Some}
use Rattle.md_lp.specs.Program.{Program, Row, row_at, left_of}
use Rattle.md_lp.specs.Point.{cost_sum}
use Rattle.md_lp.specs.Divided.{IsDivisorFor}
use Rattle.md_forms.specs.Forms.{Form, unit, number_of}

-- the row over n columns is the form, divided by the greatest common divisor of its numbers
pub record IsRowOf (n : ℕ) (form : Form) (row : Row) : Type 0 where
  pub by : ℤ
  pub divisor : IsDivisorFor (suc n) (number_of form) by
  pub kind : row.kind ≡ form.kind
  pub right : form.right ≡ by *ℤ row.right
  pub left : (x : ℕ → ℤ) → form.left x ≡ by *ℤ left_of n row x

-- the rows are the forms, one by one
abbrev pub AreRowsOf : ℕ → List Form → List Row → Type 0
AreRowsOf n [] [] = Unit {0}
AreRowsOf n [] (row ∷ rows) = ⊥
AreRowsOf n (form ∷ forms) [] = ⊥
AreRowsOf n (form ∷ forms) (row ∷ rows) = IsRowOf n form row × AreRowsOf n forms rows

-- the cost is this function of the numbers for n columns, divided by the greatest common divisor of its coefficients
pub record HasCostOf (n : ℕ) (cost : (ℕ → ℤ) → ℤ) (p : Program) : Type 0 where
  pub factor : IsDivisorFor n (λ j. cost (unit j)) p.factor
  pub cost_is : (x : ℕ → ℤ) → cost x ≡ p.factor *ℤ cost_sum p x

-- the program of these forms and this cost over n columns
pub record IsProgramOf (n : ℕ) (forms : List Form) (cost : (ℕ → ℤ) → ℤ) (p : Program) : Type 0 where
  pub columns : p.columns ≡ n
  pub has_cost : HasCostOf n cost p
  pub rows : AreRowsOf n forms p.rows

-- the row of each number is the form of this number
abbrev pub HasEachRow : ℕ → List Form → Program → Type 0
HasEachRow n forms p = (number : ℕ) (form : Form) → slice_get forms number ≡ Some form → IsRowOf n form (row_at p number)
