-- Along the path the list of each program row stays lexicographically positive.
use Rattle.std.proofs.Common.{◌≡◌, ◌≢◌, ℕ, zero, suc, ◌+◌, ◌<◌, ℤ, pos, ◌+ℤ◌, ◌-ℤ◌, ◌*ℤ◌, neg_ℤ, ◌≤ℤ◌, ◌<ℤ◌, inl, inr, sym, ap, ◌∙◌, subst, arith}
use Rattle.std.proofs.lemmas.Bool.{cases_eq}
use Rattle.md_math.specs.LexOrder.{IsLexPositive, IsLexNonNegative}
use Rattle.md_math.specs.Sums.{sum_to}
use Rattle.md_math.proofs.Ring.{linear, ring, *ℤ-zero, zero-*ℤ}
use Rattle.md_math.proofs.Order.{positive-*ℤ, lt_or_le}
use Rattle.md_math.proofs.LexLaws.{lex_cases, IsLexPositive-+ℤ, IsLexPositive-*ℤ, IsLexPositive-from_*ℤ, IsLexPositive-same, IsLexNonNegative-from_positive, IsLexNonNegative-*ℤ}
use Rattle.md_math.proofs.SumLaws.{sum_to-same, sum_to-zero, sum_to-sub, sum_to-*ℤ}
use Rattle.md_dict.specs.Dictionary.{IsScaledDictionary}
use Rattle.md_dict.proofs.RawPivot.{basic_own, basic_other}
use Rattle.md_simplex.specs.Rules.{key, gap, IsLeaving}
use Rattle.md_simplex.proofs.Pivoted.{IsPivoted, factor_positive, new_row, new_other}

-- the list of each program row is lexicographically positive
pub record HasPositiveRows (m n : ℕ) (e : ℕ → ℕ → ℤ) : Type 0 where
  pub rows : (i : ℕ) → i < m → IsLexPositive (m + 1) (λ k. e i (key m n k))

-- a key is a column
pub key_in : (m n k : ℕ) → k < m + 1 → key m n k < n + m + 1
key_in m n zero b = omega arith
key_in m n (suc k) b = omega arith

-- ---- two rows are never proportional

module _ (m n : ℕ) (t : ℕ → ℕ → ℤ) (basis : ℕ → ℕ) (d : ℤ) (e : ℕ → ℕ → ℤ) (s : IsScaledDictionary m n t basis d e) (i r : ℕ) (a : i < m) (b : r < m) (x y : ℤ) where
  mix : ℕ → ℤ
  mix j = x *ℤ e i j -ℤ y *ℤ e r j

  -- a mix of two rows is a sum of first rows
  mix-rows : (j : ℕ) → j < n + m + 1 → mix j ≡ sum_to m (λ k. mix (n + k) *ℤ t k j)
  unfolding mix
  mix-rows j l =
      let first : e i j ≡ sum_to m (λ k. e i (n + k) *ℤ t k j) = s.rows i j (omega arith) l in
      let second : e r j ≡ sum_to m (λ k. e r (n + k) *ℤ t k j) = s.rows r j (omega arith) l in
      let left : sum_to m (λ k. x *ℤ (e i (n + k) *ℤ t k j)) ≡ x *ℤ sum_to m (λ k. e i (n + k) *ℤ t k j) = sum_to-*ℤ m x (λ k. e i (n + k) *ℤ t k j) in
      let right : sum_to m (λ k. y *ℤ (e r (n + k) *ℤ t k j)) ≡ y *ℤ sum_to m (λ k. e r (n + k) *ℤ t k j) = sum_to-*ℤ m y (λ k. e r (n + k) *ℤ t k j) in
      let split : sum_to m (λ k. (x *ℤ e i (n + k) -ℤ y *ℤ e r (n + k)) *ℤ t k j) ≡ sum_to m (λ k. x *ℤ (e i (n + k) *ℤ t k j)) -ℤ sum_to m (λ k. y *ℤ (e r (n + k) *ℤ t k j)) =
      sum_to-same m _ (λ k. x *ℤ (e i (n + k) *ℤ t k j) -ℤ y *ℤ (e r (n + k) *ℤ t k j)) (λ k c. apart x y (e i (n + k)) (e r (n + k)) (t k j))
      ∙ sum_to-sub m (λ k. x *ℤ (e i (n + k) *ℤ t k j)) (λ k. y *ℤ (e r (n + k) *ℤ t k j)) in
      let u : x *ℤ e i j ≡ x *ℤ sum_to m (λ k. e i (n + k) *ℤ t k j) = ap (λ z. x *ℤ z) first in
      let v : y *ℤ e r j ≡ y *ℤ sum_to m (λ k. e r (n + k) *ℤ t k j) = ap (λ z. y *ℤ z) second in
      omega (arith, linear)
    where
      apart : (x y p q z : ℤ) → (x *ℤ p -ℤ y *ℤ q) *ℤ z ≡ x *ℤ (p *ℤ z) -ℤ y *ℤ (q *ℤ z)
      apart x y p q z = simp ring (omega (arith, linear))

  -- so one that is 0 in its list is 0 everywhere, and not at the basic column of the first row
  pub mix-not_zero : i ≢ r → pos 0 <ℤ x → ((k : ℕ) → k < m + 1 → x *ℤ e i (key m n k) -ℤ y *ℤ e r (key m n k) ≡ pos 0) → ⊥
  unfolding mix
  mix-not_zero o p zeros =
      let inside : basis i < n + m + 1 = (let c : basis i < n + m = s.columns i a in omega arith) in
      let none : mix (basis i) ≡ pos 0 = mix-rows (basis i) inside ∙ sum_to-zero m _ (λ k c. ap (λ z. z *ℤ t k (basis i)) (zeros (suc k) (omega arith)) ∙ zero-*ℤ (t k (basis i))) in
      let own : e i (basis i) ≡ d = s.basic i i a (omega arith) ∙ basic_own m n i (basis i) d in
      let other : e r (basis i) ≡ pos 0 = s.basic i r a (omega arith) ∙ basic_other m n i (basis i) r d (λ f. o (sym f)) (inl (λ f. omega arith)) in
      let above : pos 0 <ℤ (x *ℤ d) = positive-*ℤ x d p s.positive in
      let u : x *ℤ e i (basis i) ≡ x *ℤ d = ap (λ z. x *ℤ z) own in
      let v : y *ℤ e r (basis i) ≡ pos 0 = ap (λ z. y *ℤ z) other ∙ *ℤ-zero y in
      omega (arith, linear)

-- a list that is not negative and not all 0 is positive
IsLexPositive-from_nonzero : (n : ℕ) (f : ℕ → ℤ) → IsLexNonNegative n f → (((k : ℕ) → k < n → f k ≡ pos 0) → ⊥) → IsLexPositive n f
IsLexPositive-from_nonzero n f h z = elim (lex_cases n f) [
  | inl zeros ↦ absurd (z zeros)
  | inr (inl p) ↦ p
  | inr (inr p) ↦
      let below : pos 0 <ℤ neg_ℤ (f p.place) = p.positive in
      let least : pos 0 ≤ℤ f p.place = h.at p.place p.inside (λ j b. (let e : neg_ℤ (f j) ≡ pos 0 = p.before j b in omega (arith, linear))) in
      absurd (omega (arith, linear))
]

-- ---- a pivot

module _ (m n : ℕ) (t : ℕ → ℕ → ℤ) (basis : ℕ → ℕ) (d : ℤ) (e : ℕ → ℕ → ℤ) (h : ℤ) (f : ℕ → ℕ → ℤ) (row column : ℕ) (p : IsPivoted m n t basis d e h f row column) where
  -- what is positive before the division is positive after it
  divided : (i : ℕ) (g : ℕ → ℤ) → ((k : ℕ) → k < m + 1 → h *ℤ g k ≡ (d *ℤ e row column) *ℤ f i (key m n k)) → IsLexPositive (m + 1) g → IsLexPositive (m + 1) (λ k. f i (key m n k))
  divided i g same positive =
      IsLexPositive-from_*ℤ (m + 1) (d *ℤ e row column) (λ k. f i (key m n k)) (factor_positive m n t basis d e h f row column p)
      (IsLexPositive-same (m + 1) (λ k. h *ℤ g k) (λ k. (d *ℤ e row column) *ℤ f i (key m n k)) same (IsLexPositive-*ℤ (m + 1) h g p.new.scaled.positive positive))

  -- the other rows, by the sign of their entries in the column
  other_positive : (i : ℕ) → i < m → i ≢ row → HasPositiveRows m n e → IsLeaving m n e column row → IsLexPositive (m + 1) (gap m n e column i row)
  other_positive i a o positive leaving = elim (lt_or_le (pos 0) (e i column)) [
    | inl above ↦ IsLexPositive-from_nonzero (m + 1) (gap m n e column i row) (leaving.least i a above)
        (λ zeros. mix-not_zero m n t basis d e p.old.scaled i row a p.row_in (e row column) (e i column) o p.positive zeros)
    | inr below ↦
        IsLexPositive-same (m + 1) (λ k. e row column *ℤ e i (key m n k) +ℤ neg_ℤ (e i column) *ℤ e row (key m n k)) (gap m n e column i row)
        (λ k _. turned (e row column) (e i column) (e i (key m n k)) (e row (key m n k)))
        (IsLexPositive-+ℤ (m + 1) (λ k. e row column *ℤ e i (key m n k)) (λ k. neg_ℤ (e i column) *ℤ e row (key m n k))
        (IsLexPositive-*ℤ (m + 1) (e row column) (λ k. e i (key m n k)) p.positive (positive.rows i a))
        (nonneg_times (neg_ℤ (e i column)) (omega (arith, linear))))
  ]
    where
      turned : (x y u v : ℤ) → x *ℤ u +ℤ neg_ℤ y *ℤ v ≡ x *ℤ u -ℤ y *ℤ v
      turned x y u v = simp ring (omega (arith, linear))

      nonneg_times : (c : ℤ) → pos 0 ≤ℤ c → IsLexNonNegative (m + 1) (λ k. c *ℤ e row (key m n k))
      nonneg_times c l = elim (lt_or_le (pos 0) c) [
        | inl above ↦ IsLexNonNegative-*ℤ (m + 1) c (λ k. e row (key m n k)) above (IsLexNonNegative-from_positive (m + 1) (λ k. e row (key m n k)) (positive.rows row p.row_in))
        | inr below ↦ record { at = λ k _ _. (let zero : c ≡ pos 0 = omega (arith, linear) in let z : c *ℤ e row (key m n k) ≡ pos 0 = ap (λ x. x *ℤ e row (key m n k)) zero ∙ zero-*ℤ (e row (key m n k)) in omega (arith, linear)) }
      ]

  pub HasPositiveRows-pivoted : HasPositiveRows m n e → IsLeaving m n e column row → HasPositiveRows m n f
  HasPositiveRows-pivoted positive leaving = record {
    rows = λ i a. elim (cases_eq i row) [
      | inl same ↦ divided i (λ k. d *ℤ e i (key m n k))
          (λ k b. subst (λ r. h *ℤ (d *ℤ e r (key m n k)) ≡ (d *ℤ e row column) *ℤ f r (key m n k)) (sym same) (new_row m n t basis d e h f row column p (key m n k) (let c : row < m = p.row_in in omega arith) (key_in m n k b)))
          (IsLexPositive-*ℤ (m + 1) d (λ k. e i (key m n k)) p.old.scaled.positive (positive.rows i a))
      | inr o ↦ divided i (gap m n e column i row) (λ k b. new_other m n t basis d e h f row column p i (key m n k) o (omega arith) (key_in m n k b)) (other_positive i a o positive leaving)
    ];
  }
