-- There is a reduced program of each auction for any number of units with the cuts of pools: its conditions and its cost are linear.
use Rattle.std.proofs.Common.{◌≡◌, ◌⊎◌, ℕ, zero, suc, ◌+◌, ◌*◌, ◌<◌, ◌≤◌, ◌==◌, Bool, true, false, if◌then◌else◌, ℤ, pos, ◌+ℤ◌, ◌-ℤ◌, ◌*ℤ◌, neg_ℤ, List, [], ◌∷◌, map, All, inl, inr, refl, sym, ap, ap₂, subst, ◌∙◌, arith, ne_eqb, eq-eqb}
use Rattle.std.specs.Prelude.{slice_index}
use Rattle.std.proofs.lemmas.Bool.{cases_lt}
use Rattle.std.proofs.lemmas.List.Elements.{All-head, All-tail, All-map}
use Rattle.md_math.specs.Divisors.{IsGcdOf}
use Rattle.md_math.specs.Lists.{number_at, list_to}
use Rattle.md_math.specs.Sets.{member}
use Rattle.md_math.specs.Sums.{sum_to, dot, total_by}
use Rattle.md_math.proofs.Builders.{get_or-list_to}
use Rattle.md_math.proofs.Division.{quotient}
use Rattle.md_math.proofs.Gcds.{family_gcd}
use Rattle.md_math.proofs.Order.{lt_or_le}
use Rattle.md_math.proofs.Ring.{linear, ring, zero-*ℤ, one-*ℤ}
use Rattle.md_math.proofs.SumLaws.{sum_to-zero, sum_to-single, sum_to-at, dot-same, +ℤ-dot, *ℤ-dot}
use Rattle.md_math.proofs.TotalLaws.{total_by-list_to}
use Rattle.md_setting.specs.Auction.{SymmetricAuction, value_count}
use Rattle.md_lp.specs.declared.term.Term.{Term}
use Rattle.md_lp.specs.Divided.{IsDivisorFor}
use Rattle.md_lp.specs.Program.{Program, Row, value_of}
use Rattle.md_lp.proofs.Dividing.{IsDivisorFor-zero}
use Rattle.md_forms.specs.Forms.{Form, unit, number_of}
use Rattle.md_forms.specs.ProgramOf.{IsRowOf, AreRowsOf, IsProgramOf}
use Rattle.md_border.specs.Odds.{weight_given}
use Rattle.md_border.specs.Worth.{surplus_of}
use Rattle.md_reduced.specs.ProgramOf.{column_count, IsReducedProgram}
use Rattle.md_reduced.specs.Sides.{utility_in, pay_in, cost_of}
use Rattle.md_iron_values.specs.Pools.{Pools}
use Rattle.md_iron_values.specs.Cuts.{set_from, cuts_of}
use Rattle.md_iron_laws.specs.Rows.{ProgramRow, truth_row, rational_row, cut_row, rows_of, row_left, row_form}
use Rattle.md_iron_laws.specs.RowsIn.{IsRowIn}
use Rattle.md_iron_laws.proofs.ProgramForms.{same-forms, rows-in}

-- ---- linear functions of numbers for n columns

-- a function is the sum of what it makes of a unit in each column, times the number there
pub record IsLinear (n : ℕ) (f : (ℕ → ℤ) → ℤ) : Type 0 where
  pub is : (x : ℕ → ℤ) → f x ≡ dot n (λ j. f (unit j)) x

linear-same : (n : ℕ) (f g : (ℕ → ℤ) → ℤ) → ((x : ℕ → ℤ) → f x ≡ g x) → IsLinear n f → IsLinear n g
linear-same n f g h l = record { is = λ x. sym (h x) ∙ l.is x ∙ dot-same n _ _ x x (λ j b. h (unit j)) (λ j b. refl) }

linear-at : (n k : ℕ) → k < n → IsLinear n (λ x. x k)
linear-at n k b = record {
  is = λ x. sym
      (sum_to-single n k (λ j. unit j k *ℤ x j) b (λ j c d. ap (λ t. (if t then pos 1 else pos 0) *ℤ x j) (ne_eqb k j (λ e. d (sym e))) ∙ zero-*ℤ (x j))
      ∙ ap (λ t. (if t then pos 1 else pos 0) *ℤ x k) (eq-eqb k k refl) ∙ one-*ℤ (x k));
}

linear-zero : (n : ℕ) → IsLinear n (λ x. pos 0)
linear-zero n = record { is = λ x. sym (sum_to-zero n (λ j. pos 0 *ℤ x j) (λ j b. zero-*ℤ (x j))) }

linear-add : (n : ℕ) (f g : (ℕ → ℤ) → ℤ) → IsLinear n f → IsLinear n g → IsLinear n (λ x. f x +ℤ g x)
linear-add n f g l m = record { is = λ x. ap₂ (λ y z. y +ℤ z) (l.is x) (m.is x) ∙ sym (+ℤ-dot n (λ j. f (unit j)) (λ j. g (unit j)) x) }

linear-times : (n : ℕ) (c : ℤ) (f : (ℕ → ℤ) → ℤ) → IsLinear n f → IsLinear n (λ x. c *ℤ f x)
linear-times n c f l = record { is = λ x. ap (λ z. c *ℤ z) (l.is x) ∙ sym (*ℤ-dot n c (λ j. f (unit j)) x) }

linear-neg : (n : ℕ) (f : (ℕ → ℤ) → ℤ) → IsLinear n f → IsLinear n (λ x. neg_ℤ (f x))
linear-neg n f l = linear-same n _ _ (λ x. minus (f x)) (linear-times n (neg_ℤ (pos 1)) f l)
  where
    minus : (z : ℤ) → neg_ℤ (pos 1) *ℤ z ≡ neg_ℤ z
    minus z = simp ring (omega (arith, linear))

linear-sub : (n : ℕ) (f g : (ℕ → ℤ) → ℤ) → IsLinear n f → IsLinear n g → IsLinear n (λ x. f x -ℤ g x)
linear-sub n f g l m = linear-add n f (λ x. neg_ℤ (g x)) l (linear-neg n g m)

linear-chosen : (n : ℕ) (t : Bool) (f : (ℕ → ℤ) → ℤ) → IsLinear n f → IsLinear n (λ x. if t then f x else pos 0)
linear-chosen n true f l = l
linear-chosen n false f l = linear-zero n

linear-sum : (n m : ℕ) (f : ℕ → (ℕ → ℤ) → ℤ) → ((k : ℕ) → k < m → IsLinear n (f k)) → IsLinear n (λ x. sum_to m (λ k. f k x))
linear-sum n zero f h = linear-zero n
linear-sum n (suc m) f h = linear-add n (λ x. sum_to m (λ k. f k x)) (f m) (linear-sum n m f (λ k b. h k (omega (arith, b)))) (h m (omega arith))

-- ---- numbers divided by their greatest common divisor

record AreDivided (n : ℕ) (f : ℕ → ℤ) : Type 0 where
  by : ℤ
  divisor : IsDivisorFor n f by
  part : ℕ → ℤ
  is : (k : ℕ) → k < n → f k ≡ by *ℤ part k

divided : (n : ℕ) (f : ℕ → ℤ) → AreDivided n f
divided n f = (let (g, q) = family_gcd n f in elim (lt_or_le (pos 0) g) [
  | inl above ↦ record {
    by = g;
    divisor = inl (q.is_gcd, above);
    part = λ k. part g q.is_gcd k (cases_lt k n);
    is = λ k b. is g q.is_gcd k b (cases_lt k n);
  }
  | inr none ↦ (let least = q.is_gcd.nonneg in record {
    by = pos 1;
    divisor = IsDivisorFor-zero n f g q.is_gcd (omega (arith, linear, none, least));
    part = f;
    is = λ k b. sym (one-*ℤ (f k));
  })
])
  where
    part : (g : ℤ) → IsGcdOf n f g → (k : ℕ) → (k < n) ⊎ (n ≤ k) → ℤ
    part g q k (inl b) = (quotient g (f k) (q.common.at k b)).0
    part g q k (inr b) = pos 0

    is : (g : ℤ) (q : IsGcdOf n f g) (k : ℕ) → k < n → (c : (k < n) ⊎ (n ≤ k)) → f k ≡ g *ℤ part g q k c
    is g q k b (inl c) = (quotient g (f k) (q.common.at k c)).1
    is g q k b (inr c) = absurd (omega (arith, b, c))

-- ---- a row for a form

-- a term for each column
abbrev terms_by : ℕ → (ℕ → ℤ) → List Term
terms_by n part = list_to n (λ j. record { column = j; value = part j })

value-total : (terms : List Term) (column : ℕ) → value_of terms column ≡ total_by (λ term. if term.column == column then term.value else pos 0) terms
value-total [] column = refl
value-total (term ∷ terms) column = ap (λ z. (if term.column == column then term.value else pos 0) +ℤ z) (value-total terms column)

value-by : (n : ℕ) (part : ℕ → ℤ) (column : ℕ) → column < n → value_of (terms_by n part) column ≡ part column
value-by n part column b =
    value-total (terms_by n part) column
    ∙ total_by-list_to (λ (term : Term). if term.column == column then term.value else pos 0) n (λ j. record { column = j; value = part j })
    ∙ sum_to-at n column part b

scaled : (n : ℕ) (f : (ℕ → ℤ) → ℤ) (by : ℤ) (part : ℕ → ℤ) → IsLinear n f → ((j : ℕ) → j < n → f (unit j) ≡ by *ℤ part j) → (x : ℕ → ℤ) → f x ≡ by *ℤ dot n part x
scaled n f by part l h x = l.is x ∙ dot-same n _ (λ j. by *ℤ part j) x x h (λ j b. refl) ∙ *ℤ-dot n by part x

has-row : (n : ℕ) (form : Form) → IsLinear n form.left → (row : Row) × IsRowOf n form row
has-row n form l =
    let d = divided (suc n) (number_of form) in
    let part = λ (j : ℕ). d.part (suc j) in (
      record { kind = form.kind; terms = terms_by n part; right = d.part 0 },
      record {
        by = d.by;
        divisor = d.divisor;
        kind = refl;
        right = d.is 0 (omega arith);
        left = λ x. scaled n form.left d.by part l (λ j b. d.is (suc j) (omega (arith, b))) x ∙ ap (λ z. d.by *ℤ z) (dot-same n _ _ x x (λ j b. sym (value-by n part j b)) (λ j b. refl));
      },
    )

has-rows : (n : ℕ) (forms : List Form) → All (λ form. IsLinear n form.left) forms → (rows : List Row) × AreRowsOf n forms rows
has-rows n [] h = ([], tt)
has-rows n (form ∷ forms) h =
    let (row, is) = has-row n form (All-head (λ (f : Form). IsLinear n f.left) form forms h) in
    let (rows, are) = has-rows n forms (All-tail (λ (f : Form). IsLinear n f.left) form forms h) in
    (row ∷ rows, (is, are))

has-program : (n : ℕ) (forms : List Form) (cost : (ℕ → ℤ) → ℤ) → All (λ form. IsLinear n form.left) forms → IsLinear n cost → (p : Program) × IsProgramOf n forms cost p
has-program n forms cost h l =
    let (rows, are) = has-rows n forms h in
    let d = divided n (λ j. cost (unit j)) in (
      record { columns = n; cost = list_to n d.part; factor = d.by; rows = rows },
      record {
        columns = refl;
        has_cost = record {
          factor = d.divisor;
          cost_is = λ x. scaled n cost d.by d.part l d.is x ∙ ap (λ z. d.by *ℤ z) (dot-same n _ _ x x (λ j b. sym (get_or-list_to n d.part j (pos 0) b)) (λ j b. refl));
        };
        rows = are;
      },
    )

-- ---- the reduced program

linear-pay : (a : SymmetricAuction) (w : ℕ) → w < value_count a → IsLinear (column_count a) (λ x. pay_in a x w)
linear-pay a w b = linear-sub (column_count a) (λ x. x (value_count a + w)) (λ x. x (2 * value_count a + w)) (linear-at (column_count a) (value_count a + w) (omega (arith, b))) (linear-at (column_count a) (2 * value_count a + w) (omega (arith, b)))

linear-utility : (a : SymmetricAuction) (v w : ℕ) → w < value_count a → IsLinear (column_count a) (λ x. utility_in a x v w)
linear-utility a v w b =
    linear-sub (column_count a) (λ x. number_at a.values v *ℤ x w) (λ x. pay_in a x w) (linear-times (column_count a) (number_at a.values v) (λ x. x w) (linear-at (column_count a) w (omega (arith, b)))) (linear-pay a w b)

linear-row : (a : SymmetricAuction) (pools : Pools) (row : ProgramRow) → IsRowIn (value_count a) pools row → IsLinear (column_count a) (row_left a row)
linear-row a pools (truth_row v w) h =
    let (b, l, d) = h in
    linear-sub (column_count a) (λ x. utility_in a x v w) (λ x. utility_in a x v v) (linear-utility a v w l) (linear-utility a v v b)
linear-row a pools (rational_row v) b = linear-neg (column_count a) (λ x. utility_in a x v v) (linear-utility a v v b)
linear-row a pools (cut_row s) h =
    linear-sum (column_count a) (value_count a) (λ v x. if member (set_from (value_count a) s) v then pos (a.bidders * weight_given a v) *ℤ x v else pos 0)
    (λ v b. linear-chosen (column_count a) (member (set_from (value_count a) s) v) (λ x. pos (a.bidders * weight_given a v) *ℤ x v) (linear-times (column_count a) (pos (a.bidders * weight_given a v)) (λ x. x v) (linear-at (column_count a) v (omega (arith, b)))))

linear-cost : (a : SymmetricAuction) → IsLinear (column_count a) (cost_of a)
linear-cost a =
    let n = column_count a in
    linear-sum (column_count a) (value_count a) (λ v x. pos (slice_index a.weights v) *ℤ (surplus_of a v *ℤ x v +ℤ a.revenue *ℤ pay_in a x v))
    (λ v b. linear-times n (pos (slice_index a.weights v)) (λ x. surplus_of a v *ℤ x v +ℤ a.revenue *ℤ pay_in a x v)
    (linear-add n (λ x. surplus_of a v *ℤ x v) (λ x. a.revenue *ℤ pay_in a x v) (linear-times n (surplus_of a v) (λ x. x v) (linear-at n v (omega (arith, b)))) (linear-times n a.revenue (λ x. pay_in a x v) (linear-pay a v b))))

pub pools-program : (a : SymmetricAuction) (units : ℕ) (pools : Pools) → (p : Program) × IsReducedProgram a units (cuts_of (value_count a) pools) p
pools-program a units pools =
    let rows = rows_of (value_count a) pools in
    let all : All (λ (row : ProgramRow). IsLinear (column_count a) (row_left a row)) (rows_of (value_count a) pools) = λ k d b. linear-row a pools _ (rows-in (value_count a) pools k d b) in
    let (p, is) = has-program (column_count a) (map (row_form a units) rows) (cost_of a) (All-map (λ (form : Form). IsLinear (column_count a) form.left) (row_form a units) rows all) (linear-cost a) in
    (p, subst (λ forms. IsProgramOf (column_count a) forms (cost_of a) p) (sym (same-forms a units pools)) is)
