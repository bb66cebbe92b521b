-- The entries that a pivot makes, before they are divided, are a scaled dictionary of the new basis.
use Rattle.std.proofs.Common.{◌≡◌, ◌≢◌, ℕ, ◌+◌, ◌<◌, ◌⊎◌, ◌==◌, ◌&&◌, nat_le, Bool, true, false, if◌then◌else◌, ℤ, pos, ◌+ℤ◌, ◌-ℤ◌, ◌*ℤ◌, neg_ℤ, ◌<ℤ◌, refl, sym, ap, ap₂, ◌∙◌, subst, inl, inr, arith, ne_eqb, eq-eqb, eqb-true}
use Rattle.std.proofs.lemmas.Bool.{cases_eq, lt-leb}
use lib.IntN.{*ℤ_comm}
use Rattle.md_math.specs.Sizes.{IsWithin}
use Rattle.md_math.specs.Sums.{sum_to}
use Rattle.md_math.proofs.Ring.{linear, ring, *ℤ-zero, *ℤ_assoc, *ℤ-neg_ℤ}
use Rattle.md_math.proofs.Order.{positive-*ℤ}
use Rattle.md_math.proofs.SumLaws.{sum_to-same, sum_to-*ℤ, sum_to-sub, sum_to-+ℤ, sum_to-at}
use Rattle.md_math.proofs.SizeLaws.{IsWithin-neg_ℤ, IsWithin-zero}
use Rattle.md_dict.specs.Dictionary.{basic_value, IsScaledDictionary}
use Rattle.md_dict.specs.Pivot.{with_column, raw_entry}

-- what a basic column holds grows with the denominator
pub scaled_basic : (m n i column r : ℕ) (g den : ℤ) → basic_value m n (g *ℤ den) i column r ≡ g *ℤ basic_value m n den i column r
scaled_basic m n i column r g den = by_tests (r == i) ((r == m) && nat_le n column)
  where
    by_tests : (own face : Bool) → (if own then g *ℤ den else (if face then neg_ℤ (g *ℤ den) else pos 0)) ≡ g *ℤ (if own then den else (if face then neg_ℤ den else pos 0))
    by_tests true face = refl
    by_tests false true = sym (*ℤ-neg_ℤ g den)
    by_tests false false = sym (*ℤ-zero g)

-- a column that is no start column holds 0 outside its row
pub basic_other : (m n i column r : ℕ) (den : ℤ) → r ≢ i → (r ≢ m) ⊎ (column < n) → basic_value m n den i column r ≡ pos 0
basic_other m n i column r den o (inl f) = rw (ne_eqb r i o, ne_eqb r m f) refl
basic_other m n i column r den o (inr l) = rw (ne_eqb r i o, lt-leb n column l) (no_face (r == m))
  where
    no_face : (t : Bool) → (if t && false then neg_ℤ den else pos 0) ≡ pos 0
    no_face true = refl
    no_face false = refl

pub basic_own : (m n i column : ℕ) (den : ℤ) → basic_value m n den i column i ≡ den
basic_own m n i column den = rw (eq-eqb i i refl) refl

-- the sum of a combination of two lists
combined : (m : ℕ) (u v : ℤ) (x y z : ℕ → ℤ) → sum_to m (λ k. (u *ℤ x k -ℤ v *ℤ y k) *ℤ z k) ≡ u *ℤ sum_to m (λ k. x k *ℤ z k) -ℤ v *ℤ sum_to m (λ k. y k *ℤ z k)
combined m u v x y z =
    sum_to-same m _ (λ k. u *ℤ (x k *ℤ z k) -ℤ v *ℤ (y k *ℤ z k)) (λ k b. simp ring (omega (arith, linear)))
    ∙ sum_to-sub m (λ k. u *ℤ (x k *ℤ z k)) (λ k. v *ℤ (y k *ℤ z k))
    ∙ ap₂ (λ a b. a -ℤ b) (sum_to-*ℤ m u (λ k. x k *ℤ z k)) (sum_to-*ℤ m v (λ k. y k *ℤ z k))

-- the same with the combination on the right
combined_right : (m : ℕ) (u w : ℤ) (x y z : ℕ → ℤ) → sum_to m (λ k. z k *ℤ (u *ℤ x k -ℤ y k *ℤ w)) ≡ u *ℤ sum_to m (λ k. z k *ℤ x k) -ℤ w *ℤ sum_to m (λ k. z k *ℤ y k)
combined_right m u w x y z =
    sum_to-same m _ (λ k. u *ℤ (z k *ℤ x k) -ℤ w *ℤ (z k *ℤ y k)) (λ k b. simp ring (omega (arith, linear)))
    ∙ sum_to-sub m (λ k. u *ℤ (z k *ℤ x k)) (λ k. w *ℤ (z k *ℤ y k))
    ∙ ap₂ (λ a b. a -ℤ b) (sum_to-*ℤ m u (λ k. z k *ℤ x k)) (sum_to-*ℤ m w (λ k. z k *ℤ y k))

-- the raw entries of the pivot row, and of another row
pub raw_own : (row column : ℕ) (den : ℤ) (e : ℕ → ℕ → ℤ) (j : ℕ) → raw_entry row column den e row j ≡ den *ℤ e row j
raw_own row column den e j = rw (eq-eqb row row refl) refl

pub raw_other : (row column : ℕ) (den : ℤ) (e : ℕ → ℕ → ℤ) (i j : ℕ) → i ≢ row → raw_entry row column den e i j ≡ e row column *ℤ e i j -ℤ e i column *ℤ e row j
raw_other row column den e i j o = rw (ne_eqb i row o) refl

pub record IsPivot (m n : ℕ) (t : ℕ → ℕ → ℤ) (basis : ℕ → ℕ) (den : ℤ) (e : ℕ → ℕ → ℤ) (row column : ℕ) : Type 0 where
  pub scaled : IsScaledDictionary m n t basis den e
  pub row_in : row < m
  pub column_in : column < n
  pub positive : pos 0 <ℤ e row column

raw_basic_own : (m n : ℕ) (t : ℕ → ℕ → ℤ) (basis : ℕ → ℕ) (den : ℤ) (e : ℕ → ℕ → ℤ) (row column : ℕ) → IsPivot m n t basis den e row column → (r : ℕ) → r < m + 2 → raw_entry row column den e r column ≡ basic_value m n (den *ℤ e row column) row column r
raw_basic_own m n t basis den e row column p r b =
    elim (cases_eq r row) [
      | inl s ↦ subst (λ i. raw_entry row column den e i column ≡ basic_value m n (den *ℤ e row column) row column i) (sym s) (raw_own row column den e column ∙ sym (basic_own m n row column (den *ℤ e row column)))
      | inr o ↦
          raw_other row column den e r column o
          ∙ (let z : e row column *ℤ e r column -ℤ e r column *ℤ e row column ≡ pos 0 = omega (arith, linear, *ℤ_comm (e row column) (e r column)) in z)
          ∙ sym (basic_other m n row column r (den *ℤ e row column) o (inr p.column_in))
    ]

raw_basic_other : (m n : ℕ) (t : ℕ → ℕ → ℤ) (basis : ℕ → ℕ) (den : ℤ) (e : ℕ → ℕ → ℤ) (row column : ℕ) → IsPivot m n t basis den e row column → (i r : ℕ) → i ≢ row → i < m → r < m + 2 → raw_entry row column den e r (basis i) ≡ basic_value m n (den *ℤ e row column) i (basis i) r
raw_basic_other m n t basis den e row column p i r o a b =
    let inside : row < m = p.row_in in
    let none : e row (basis i) ≡ pos 0 = p.scaled.basic i row a (omega arith) ∙ basic_other m n i (basis i) row den (λ s. o (sym s)) (inl (λ s. omega arith)) in
    elim (cases_eq r row) [
      | inl s ↦
          subst (λ k. raw_entry row column den e k (basis i) ≡ basic_value m n (den *ℤ e row column) i (basis i) k) (sym s)
          (raw_own row column den e (basis i) ∙ ap (λ z. den *ℤ z) none ∙ *ℤ-zero den
          ∙ sym (basic_other m n i (basis i) row (den *ℤ e row column) (λ t. o (sym t)) (inl (λ t. omega arith))))
      | inr d ↦
          raw_other row column den e r (basis i) d
          ∙ ap₂ (λ x y. e row column *ℤ x -ℤ e r column *ℤ y) (p.scaled.basic i r a b) none
          ∙ (let z : e row column *ℤ basic_value m n den i (basis i) r -ℤ e r column *ℤ pos 0 ≡ e row column *ℤ basic_value m n den i (basis i) r = omega (arith, linear, *ℤ-zero (e r column)) in z)
          ∙ sym (scaled_basic m n i (basis i) r (e row column) den)
          ∙ ap (λ z. basic_value m n z i (basis i) r) (*ℤ_comm (e row column) den)
    ]

raw_rows : (m n : ℕ) (t : ℕ → ℕ → ℤ) (basis : ℕ → ℕ) (den : ℤ) (e : ℕ → ℕ → ℤ) (row column : ℕ) → IsPivot m n t basis den e row column → (r j : ℕ) → r < m + 1 → j < n + m + 1 → raw_entry row column den e r j ≡ sum_to m (λ k. raw_entry row column den e r (n + k) *ℤ t k j)
raw_rows m n t basis den e row column p r j a b =
    let inside : row < m = p.row_in in
    elim (cases_eq r row) [
      | inl s ↦
          subst (λ i. raw_entry row column den e i j ≡ sum_to m (λ k. raw_entry row column den e i (n + k) *ℤ t k j)) (sym s)
          (raw_own row column den e j ∙ ap (λ z. den *ℤ z) (p.scaled.rows row j (omega arith) b)
          ∙ sym (sum_to-*ℤ m den (λ k. e row (n + k) *ℤ t k j))
          ∙ sum_to-same m _ _ (λ k c. sym (*ℤ_assoc den (e row (n + k)) (t k j)) ∙ ap (λ z. z *ℤ t k j) (sym (raw_own row column den e (n + k)))))
      | inr o ↦
          raw_other row column den e r j o
          ∙ ap₂ (λ x y. e row column *ℤ x -ℤ e r column *ℤ y) (p.scaled.rows r j a b) (p.scaled.rows row j (omega arith) b)
          ∙ sym (combined m (e row column) (e r column) (λ k. e r (n + k)) (λ k. e row (n + k)) (λ k. t k j))
          ∙ sum_to-same m _ _ (λ k c. ap (λ z. z *ℤ t k j) (sym (raw_other row column den e r (n + k) o)))
    ]

raw_main : (m n : ℕ) (t : ℕ → ℕ → ℤ) (basis : ℕ → ℕ) (den : ℤ) (e : ℕ → ℕ → ℤ) (row column : ℕ) → IsPivot m n t basis den e row column → (j : ℕ) → j < n + m + 1 → raw_entry row column den e (m + 1) j ≡ (den *ℤ e row column) *ℤ t (m + 1) j +ℤ sum_to m (λ k. raw_entry row column den e (m + 1) (n + k) *ℤ t k j)
raw_main m n t basis den e row column p j b =
    let inside : row < m = p.row_in in
    let o : m + 1 ≢ row = (λ s. omega arith) in
    let sums : sum_to m (λ k. raw_entry row column den e (m + 1) (n + k) *ℤ t k j) ≡ e row column *ℤ sum_to m (λ k. e (m + 1) (n + k) *ℤ t k j) -ℤ e (m + 1) column *ℤ sum_to m (λ k. e row (n + k) *ℤ t k j) =
    sum_to-same m _ _ (λ k c. ap (λ z. z *ℤ t k j) (raw_other row column den e (m + 1) (n + k) o))
    ∙ combined m (e row column) (e (m + 1) column) (λ k. e (m + 1) (n + k)) (λ k. e row (n + k)) (λ k. t k j) in
    raw_other row column den e (m + 1) j o
    ∙ ap₂ (λ x y. e row column *ℤ x -ℤ e (m + 1) column *ℤ y) (p.scaled.main j b) (p.scaled.rows row j (omega arith) b)
    ∙ regroup (e row column) den (t (m + 1) j) (sum_to m (λ k. e (m + 1) (n + k) *ℤ t k j)) (e (m + 1) column *ℤ sum_to m (λ k. e row (n + k) *ℤ t k j))
    ∙ ap (λ z. (den *ℤ e row column) *ℤ t (m + 1) j +ℤ z) (sym sums)
  where
    regroup : (u d x s y : ℤ) → u *ℤ (d *ℤ x +ℤ s) -ℤ y ≡ (d *ℤ u) *ℤ x +ℤ (u *ℤ s -ℤ y)
    regroup u d x s y = simp ring (omega (arith, linear))

raw_first : (m n : ℕ) (t : ℕ → ℕ → ℤ) (basis : ℕ → ℕ) (den : ℤ) (e : ℕ → ℕ → ℤ) (row column : ℕ) → IsPivot m n t basis den e row column → (k j : ℕ) → k < m → j < n + m + 1 → (den *ℤ e row column) *ℤ t k j ≡ sum_to m (λ r. t k (with_column basis row column r) *ℤ raw_entry row column den e r j)
raw_first m n t basis den e row column p k j a b =
    let inside : row < m = p.row_in in
    let column_in : column < n = p.column_in in
    sym
    (sum_to-same m _ (λ r. t k (basis r) *ℤ (e row column *ℤ e r j -ℤ e r column *ℤ e row j) +ℤ (if r == row then t k column *ℤ (den *ℤ e row j) else pos 0)) (λ r c. term r (r == row) refl)
    ∙ sum_to-+ℤ m (λ r. t k (basis r) *ℤ (e row column *ℤ e r j -ℤ e r column *ℤ e row j)) (λ r. if r == row then t k column *ℤ (den *ℤ e row j) else pos 0)
    ∙ ap₂ (λ x y. x +ℤ y)
    (combined_right m (e row column) (e row j) (λ r. e r j) (λ r. e r column) (λ r. t k (basis r))
    ∙ ap₂ (λ x y. e row column *ℤ x -ℤ e row j *ℤ y) (sym (p.scaled.first k j a b)) (sym (p.scaled.first k column a (omega arith))))
    (sum_to-at m row (λ r. t k column *ℤ (den *ℤ e row j)) inside)
    ∙ regroup (e row column) den (t k j) (e row j) (t k column))
  where
    term : (r : ℕ) (own : Bool) → (r == row) ≡ own → t k (with_column basis row column r) *ℤ raw_entry row column den e r j ≡ t k (basis r) *ℤ (e row column *ℤ e r j -ℤ e r column *ℤ e row j) +ℤ (if r == row then t k column *ℤ (den *ℤ e row j) else pos 0)
    term r true s = rw s (own (eqb-true r row s))
      where
        vanish : (x y z : ℤ) → z ≡ x *ℤ (y -ℤ y) +ℤ z
        vanish x y z = simp ring (omega (arith, linear))

        own : r ≡ row → t k column *ℤ (den *ℤ e row j) ≡ t k (basis r) *ℤ (e row column *ℤ e r j -ℤ e r column *ℤ e row j) +ℤ t k column *ℤ (den *ℤ e row j)
        own same = subst (λ i. t k column *ℤ (den *ℤ e row j) ≡ t k (basis r) *ℤ (e row column *ℤ e i j -ℤ e i column *ℤ e row j) +ℤ t k column *ℤ (den *ℤ e row j)) (sym same) (vanish (t k (basis r)) (e row column *ℤ e row j) (t k column *ℤ (den *ℤ e row j)))
    term r false s = rw s (add_zero (t k (basis r) *ℤ (e row column *ℤ e r j -ℤ e r column *ℤ e row j)))
      where
        add_zero : (x : ℤ) → x ≡ x +ℤ pos 0
        add_zero x = omega (arith, linear)

    regroup : (u d x y z : ℤ) → (u *ℤ (d *ℤ x) -ℤ y *ℤ (d *ℤ z)) +ℤ z *ℤ (d *ℤ y) ≡ (d *ℤ u) *ℤ x
    regroup u d x y z = simp ring (omega (arith, linear))

-- the raw entries are a scaled dictionary of the new basis
pub raw_pivot : (m n : ℕ) (t : ℕ → ℕ → ℤ) (basis : ℕ → ℕ) (den : ℤ) (e : ℕ → ℕ → ℤ) (row column : ℕ) → IsPivot m n t basis den e row column → IsScaledDictionary m n t (with_column basis row column) (den *ℤ e row column) (raw_entry row column den e)
raw_pivot m n t basis den e row column p = record {
  positive = positive-*ℤ den (e row column) p.scaled.positive p.positive;
  columns = λ i a. column_in i a (i == row);
  basic = λ i r a b. basic i r a b (cases_eq i row);
  rows = raw_rows m n t basis den e row column p;
  main = raw_main m n t basis den e row column p;
  first = raw_first m n t basis den e row column p;
}
  where
    column_in : (i : ℕ) → i < m → (own : Bool) → (if own then column else basis i) < n + m
    column_in i a true = let c : column < n = p.column_in in omega arith
    column_in i a false = p.scaled.columns i a

    basic : (i r : ℕ) → i < m → r < m + 2 → (i ≡ row) ⊎ (i ≢ row) → raw_entry row column den e r (with_column basis row column i) ≡ basic_value m n (den *ℤ e row column) i (with_column basis row column i) r
    basic i r a b (inl s) =
        let new : with_column basis row column i ≡ column = rw (eq-eqb i row s) refl in
        rw new (subst (λ k. raw_entry row column den e r column ≡ basic_value m n (den *ℤ e row column) k column r) (sym s) (raw_basic_own m n t basis den e row column p r b))
    basic i r a b (inr o) =
        let old : with_column basis row column i ≡ basis i = rw (ne_eqb i row o) refl in
        rw old (raw_basic_other m n t basis den e row column p i r o a b)

-- what a basic column holds is no larger than the denominator
pub basic_within : (limit m n i column r : ℕ) (den : ℤ) → IsWithin limit den → IsWithin limit (basic_value m n den i column r)
basic_within limit m n i column r den w = by_tests (r == i) ((r == m) && nat_le n column)
  where
    by_tests : (own face : Bool) → IsWithin limit (if own then den else (if face then neg_ℤ den else pos 0))
    by_tests true face = w
    by_tests false true = IsWithin-neg_ℤ limit den w
    by_tests false false = IsWithin-zero limit
