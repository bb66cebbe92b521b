-- Forms and a cost have one program: two that are written down differently have the same numbers at the same places.
use Rattle.std.proofs.Common.{◌≡◌, ℕ, zero, suc, ◌<◌, ℤ, pos, ◌*ℤ◌, ◌<ℤ◌, List, [], ◌∷◌, get_or, refl, sym, ◌∙◌, subst}
use Rattle.std.proofs.lemmas.Bool.{ne_eqb, eq-eqb}
use Rattle.md_math.specs.Sums.{dot}
use Rattle.md_math.proofs.Ring.{*ℤ-zero, *ℤ-one}
use Rattle.md_math.proofs.SumLaws.{sum_to-single}
use Rattle.md_lp.specs.declared.row_kind.RowKind.TheVariants.{AtMost}
use Rattle.md_lp.specs.Program.{Program, Row, row_at, cost_at, value_of, left_of}
use Rattle.md_lp.specs.Point.{cost_sum}
use Rattle.md_lp.proofs.Dividing.{IsDivisorFor-positive, IsDivisorFor-same, same_quotient}
use Rattle.md_lp.proofs.SamePrograms.{IsSameProgram}
use Rattle.md_forms.specs.Forms.{Form, unit, number_of}
use Rattle.md_forms.specs.ProgramOf.{IsRowOf, AreRowsOf, IsProgramOf}
use Rattle.md_forms.proofs.BuiltLaws.{rows-length}

-- ---- one row

pub record IsSameRow (n : ℕ) (row other : Row) : Type 0 where
  pub kind : row.kind ≡ other.kind
  pub right : row.right ≡ other.right
  pub value : (j : ℕ) → j < n → value_of row.terms j ≡ value_of other.terms j

-- a sum of products with the numbers of one column is the factor at this column
pub unit-dot : (n j : ℕ) (f : ℕ → ℤ) → j < n → dot n f (unit j) ≡ f j
unit-dot n j f h =
    sum_to-single n j (λ k. f k *ℤ unit j k) h (λ k b d. rw (ne_eqb k j d) (*ℤ-zero (f k)))
    ∙ rw (eq-eqb j j refl) (*ℤ-one (f j))

row-same : (n : ℕ) (c : Form) (row other : Row) → IsRowOf n c row → IsRowOf n c other → IsSameRow n row other
row-same n c row other a b = record {
  kind = a.kind ∙ sym b.kind;
  right = same_quotient a.by b.by row.right other.right c.right above by a.right b.right;
  value = λ j l.
      sym (unit-dot n j (value_of row.terms) l)
      ∙ same_quotient a.by b.by (left_of n row (unit j)) (left_of n other (unit j)) (c.left (unit j)) above by (a.left (unit j)) (b.left (unit j))
      ∙ unit-dot n j (value_of other.terms) l;
}
  where
    by : a.by ≡ b.by
    by = IsDivisorFor-same (suc n) (number_of c) a.by b.by a.divisor b.divisor

    above : pos 0 <ℤ a.by
    above = IsDivisorFor-positive (suc n) (number_of c) a.by a.divisor

rows-same : (n : ℕ) (cs : List Form) (ps qs : List Row) (r : ℕ) (d : Row) → AreRowsOf n cs ps → AreRowsOf n cs qs → IsSameRow n (get_or ps r d) (get_or qs r d)
rows-same n [] [] [] r d a b = record { kind = refl; right = refl; value = λ j l. refl }
rows-same n [] (p ∷ ps) qs r d a b = absurd a
rows-same n [] [] (q ∷ qs) r d a b = absurd b
rows-same n (c ∷ cs) [] qs r d a b = absurd a
rows-same n (c ∷ cs) (p ∷ ps) [] r d a b = absurd b
rows-same n (c ∷ cs) (p ∷ ps) (q ∷ qs) zero d a b = row-same n c p q a.0 b.0
rows-same n (c ∷ cs) (p ∷ ps) (q ∷ qs) (suc r) d a b = rows-same n cs ps qs r d a.1 b.1

-- ---- one program

cost-unit : (n : ℕ) (p : Program) (j : ℕ) → p.columns ≡ n → j < n → cost_sum p (unit j) ≡ cost_at p j
cost-unit n p j columns l = unit-dot p.columns j (cost_at p) (subst (λ k. j < k) (sym columns) l)

pub same_program : (n : ℕ) (forms : List Form) (cost : (ℕ → ℤ) → ℤ) (p q : Program) → IsProgramOf n forms cost p → IsProgramOf n forms cost q → IsSameProgram p q
same_program n forms cost p q a b = record {
  columns = a.columns ∙ sym b.columns;
  rows = rows-length n forms p.rows a.rows ∙ sym (rows-length n forms q.rows b.rows);
  kinds = λ r. (row r).kind;
  rights = λ r. (row r).right;
  coefficients = λ r j l. (row r).value j (subst (λ k. j < k) a.columns l);
  costs = λ j l.
      let inside : j < n = subst (λ k. j < k) a.columns l in
      sym (cost-unit n p j a.columns inside)
      ∙ same_quotient p.factor q.factor (cost_sum p (unit j)) (cost_sum q (unit j)) (cost (unit j))
      (IsDivisorFor-positive n (λ k. cost (unit k)) p.factor a.has_cost.factor)
      (IsDivisorFor-same n (λ k. cost (unit k)) p.factor q.factor a.has_cost.factor b.has_cost.factor)
      (a.has_cost.cost_is (unit j)) (b.has_cost.cost_is (unit j))
      ∙ cost-unit n q j b.columns inside;
}
  where
    row : (r : ℕ) → IsSameRow n (row_at p r) (row_at q r)
    row r = rows-same n forms p.rows q.rows r (record { kind = AtMost; terms = []; right = pos 0 }) a.rows b.rows
