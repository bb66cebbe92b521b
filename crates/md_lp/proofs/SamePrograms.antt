-- Programs with the same numbers at the same places, however their terms are written down.
use Rattle.std.proofs.Common.{◌≡◌, ℕ, ◌<◌, ℤ, refl, sym, ap, ◌∙◌, subst}
use Rattle.md_math.specs.Sums.{dot}
use Rattle.md_math.proofs.SumLaws.{dot-same}
use Rattle.md_lp.specs.Program.{Program, row_count, kind_at, right_at, coefficient_at, cost_at}
use Rattle.md_lp.specs.Point.{row_sum, cost_sum, column_sum, right_sum}

pub record IsSameProgram (p q : Program) : Type 0 where
  pub columns : p.columns ≡ q.columns
  pub rows : row_count p ≡ row_count q
  pub kinds : (r : ℕ) → kind_at p r ≡ kind_at q r
  pub rights : (r : ℕ) → right_at p r ≡ right_at q r
  pub coefficients : (r j : ℕ) → j < p.columns → coefficient_at p r j ≡ coefficient_at q r j
  pub costs : (j : ℕ) → j < p.columns → cost_at p j ≡ cost_at q j

pub IsSameProgram-sym : (p q : Program) → IsSameProgram p q → IsSameProgram q p
IsSameProgram-sym p q h = record {
  columns = sym h.columns;
  rows = sym h.rows;
  kinds = λ r. sym (h.kinds r);
  rights = λ r. sym (h.rights r);
  coefficients = λ r j l. sym (h.coefficients r j (subst (λ n. j < n) (sym h.columns) l));
  costs = λ j l. sym (h.costs j (subst (λ n. j < n) (sym h.columns) l));
}

-- their sums are the same
module _ (p q : Program) (h : IsSameProgram p q) where
  pub row_sum-same : (x : ℕ → ℤ) (r : ℕ) → row_sum p x r ≡ row_sum q x r
  row_sum-same x r = dot-same p.columns (coefficient_at p r) (coefficient_at q r) x x (λ j l. h.coefficients r j l) (λ j l. refl) ∙ ap (λ n. dot n (coefficient_at q r) x) h.columns

  pub cost_sum-same : (x : ℕ → ℤ) → cost_sum p x ≡ cost_sum q x
  cost_sum-same x = dot-same p.columns (cost_at p) (cost_at q) x x h.costs (λ j l. refl) ∙ ap (λ n. dot n (cost_at q) x) h.columns

  pub column_sum-same : (w : ℕ → ℤ) (j : ℕ) → j < p.columns → column_sum p w j ≡ column_sum q w j
  column_sum-same w j l =
      dot-same (row_count p) (λ r. coefficient_at p r j) (λ r. coefficient_at q r j) w w (λ r b. h.coefficients r j l) (λ r b. refl) ∙ ap (λ n. dot n (λ r. coefficient_at q r j) w) h.rows

  pub right_sum-same : (w : ℕ → ℤ) → right_sum p w ≡ right_sum q w
  right_sum-same w = dot-same (row_count p) (right_at p) (right_at q) w w (λ r b. h.rights r) (λ r b. refl) ∙ ap (λ n. dot n (right_at q) w) h.rows
