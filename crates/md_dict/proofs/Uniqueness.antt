-- A basis has at most one dictionary: two scaled ones are proportional, and two in least terms are equal.
use Rattle.std.proofs.Common.{◌≡◌, ◌≢◌, ℕ, ◌+◌, ◌<◌, nat_le, Bool, true, false, if◌then◌else◌, ℤ, pos, ◌+ℤ◌, ◌-ℤ◌, ◌*ℤ◌, neg_ℤ, refl, sym, ap, ap₂, ◌∙◌, subst, inl, inr, arith, ne_eqb, eq-eqb}
use Rattle.std.proofs.lemmas.Bool.{cases_lt, cases_eq}
use Rattle.md_math.specs.Sums.{sum_to}
use Rattle.md_math.proofs.Ring.{linear, ring, zero-*ℤ, *ℤ-zero, *ℤ_assoc, *ℤ_left_comm, neg_ℤ-*ℤ, *ℤ-neg_ℤ, *ℤ-+ℤ}
use Rattle.md_math.proofs.Order.{*ℤ_cancel}
use Rattle.md_math.proofs.SumLaws.{sum_to-same, sum_to-*ℤ, sum_to-single, sum_to-neg_ℤ, dot-swap}
use Rattle.md_math.proofs.Fractions.{same_table_denominators}
use Rattle.md_dict.specs.Dictionary.{basic_value, IsScaledDictionary, IsDictionary}

-- a sum of first rows, through the basis of a dictionary
pub through_basis : (m n : ℕ) (t : ℕ → ℕ → ℤ) (basis : ℕ → ℕ) (den : ℤ) (f : ℕ → ℕ → ℤ) → IsScaledDictionary m n t basis den f → (x : ℕ → ℤ) (j : ℕ) → j < n + m + 1 → den *ℤ sum_to m (λ k. x k *ℤ t k j) ≡ sum_to m (λ i. sum_to m (λ k. x k *ℤ t k (basis i)) *ℤ f i j)
through_basis m n t basis den f h x j b =
    sym (sum_to-*ℤ m den (λ k. x k *ℤ t k j))
    ∙ sum_to-same m _ (λ k. x k *ℤ sum_to m (λ i. t k (basis i) *ℤ f i j)) (λ k c. *ℤ_left_comm den (x k) (t k j) ∙ ap (λ z. x k *ℤ z) (h.first k j c b))
    ∙ dot-swap m m x (λ i. f i j) (λ k i. t k (basis i))

-- a program row or the face row of one dictionary, by the rows of another of the same basis
row_by_rows : (m n : ℕ) (t : ℕ → ℕ → ℤ) (basis : ℕ → ℕ) (d e : ℤ) (f g : ℕ → ℕ → ℤ) → IsScaledDictionary m n t basis d f → IsScaledDictionary m n t basis e g → (r j : ℕ) → r < m + 1 → j < n + m + 1 → e *ℤ f r j ≡ sum_to m (λ i. f r (basis i) *ℤ g i j)
row_by_rows m n t basis d e f g p q r j a b =
    ap (λ z. e *ℤ z) (p.rows r j a b)
    ∙ through_basis m n t basis e g q (λ k. f r (n + k)) j b
    ∙ sum_to-same m _ _ (λ i c. ap (λ z. z *ℤ g i j) (sym (p.rows r (basis i) a (let s : basis i < n + m = p.columns i c in omega arith))))

-- a program row
proportional_row : (m n : ℕ) (t : ℕ → ℕ → ℤ) (basis : ℕ → ℕ) (d e : ℤ) (f g : ℕ → ℕ → ℤ) → IsScaledDictionary m n t basis d f → IsScaledDictionary m n t basis e g → (r j : ℕ) → r < m → j < n + m + 1 → e *ℤ f r j ≡ d *ℤ g r j
proportional_row m n t basis d e f g p q r j a b =
    row_by_rows m n t basis d e f g p q r j (omega arith) b
    ∙ sum_to-single m r _ a (λ i c other. ap (λ z. z *ℤ g i j) (p.basic i r c (omega arith) ∙ off i other) ∙ zero-*ℤ (g i j))
    ∙ ap (λ z. z *ℤ g r j) (p.basic r r a (omega arith) ∙ on)
  where
    on : basic_value m n d r (basis r) r ≡ d
    on = rw (eq-eqb r r refl) refl

    off : (i : ℕ) → i ≢ r → basic_value m n d i (basis i) r ≡ pos 0
    off i other = rw (ne_eqb r i (λ s. other (sym s)), ne_eqb r m (λ s. omega arith)) refl

-- the face row: what it holds in the basic columns grows with the denominator
face_basic : (m n i column : ℕ) (d e : ℤ) → i < m → e *ℤ basic_value m n d i column m ≡ d *ℤ basic_value m n e i column m
face_basic m n i column d e a = rw (ne_eqb m i (λ s. omega arith), eq-eqb m m refl) (by_start (nat_le n column))
  where
    by_start : (start : Bool) → e *ℤ (if start then neg_ℤ d else pos 0) ≡ d *ℤ (if start then neg_ℤ e else pos 0)
    by_start true = simp ring
    by_start false = *ℤ-zero e ∙ sym (*ℤ-zero d)

proportional_face : (m n : ℕ) (t : ℕ → ℕ → ℤ) (basis : ℕ → ℕ) (d e : ℤ) (f g : ℕ → ℕ → ℤ) → IsScaledDictionary m n t basis d f → IsScaledDictionary m n t basis e g → (j : ℕ) → j < n + m + 1 → e *ℤ f m j ≡ d *ℤ g m j
proportional_face m n t basis d e f g p q j b =
    *ℤ_cancel e (e *ℤ f m j) (d *ℤ g m j) q.positive
    (ap (λ z. e *ℤ z) (row_by_rows m n t basis d e f g p q m j (omega arith) b)
    ∙ sym (sum_to-*ℤ m e (λ i. f m (basis i) *ℤ g i j))
    ∙ sum_to-same m _ (λ i. d *ℤ (g m (basis i) *ℤ g i j)) (λ i c. sym (*ℤ_assoc e (f m (basis i)) (g i j)) ∙ ap (λ z. z *ℤ g i j) (same i c) ∙ *ℤ_assoc d (g m (basis i)) (g i j))
    ∙ sum_to-*ℤ m d (λ i. g m (basis i) *ℤ g i j)
    ∙ ap (λ z. d *ℤ z) (sym (row_by_rows m n t basis e e g g q q m j (omega arith) b))
    ∙ *ℤ_left_comm d e (g m j))
  where
    same : (i : ℕ) → i < m → e *ℤ f m (basis i) ≡ d *ℤ g m (basis i)
    same i c = ap (λ z. e *ℤ z) (p.basic i m c (omega arith)) ∙ face_basic m n i (basis i) d e c ∙ ap (λ z. d *ℤ z) (sym (q.basic i m c (omega arith)))

-- the main row of one dictionary, by the rows of another of the same basis
main_by_rows : (m n : ℕ) (t : ℕ → ℕ → ℤ) (basis : ℕ → ℕ) (d e : ℤ) (f g : ℕ → ℕ → ℤ) → IsScaledDictionary m n t basis d f → IsScaledDictionary m n t basis e g → (j : ℕ) → j < n + m + 1 → e *ℤ f (m + 1) j ≡ d *ℤ (e *ℤ t (m + 1) j -ℤ sum_to m (λ i. t (m + 1) (basis i) *ℤ g i j))
main_by_rows m n t basis d e f g p q j b =
    let sums : e *ℤ sum_to m (λ k. f (m + 1) (n + k) *ℤ t k j) ≡ neg_ℤ (d *ℤ sum_to m (λ i. t (m + 1) (basis i) *ℤ g i j)) =
    through_basis m n t basis e g q (λ k. f (m + 1) (n + k)) j b
    ∙ sum_to-same m _ (λ i. neg_ℤ (d *ℤ (t (m + 1) (basis i) *ℤ g i j))) (λ i c. ap (λ z. z *ℤ g i j) (column i c) ∙ neg_ℤ-*ℤ (d *ℤ t (m + 1) (basis i)) (g i j) ∙ ap neg_ℤ (*ℤ_assoc d (t (m + 1) (basis i)) (g i j)))
    ∙ sum_to-neg_ℤ m (λ i. d *ℤ (t (m + 1) (basis i) *ℤ g i j))
    ∙ ap neg_ℤ (sum_to-*ℤ m d (λ i. t (m + 1) (basis i) *ℤ g i j)) in
    ap (λ z. e *ℤ z) (p.main j b)
    ∙ *ℤ-+ℤ e (d *ℤ t (m + 1) j) (sum_to m (λ k. f (m + 1) (n + k) *ℤ t k j))
    ∙ ap₂ (λ y z. y +ℤ z) (*ℤ_left_comm e d (t (m + 1) j)) (sums ∙ sym (*ℤ-neg_ℤ d (sum_to m (λ i. t (m + 1) (basis i) *ℤ g i j))))
    ∙ sym (*ℤ-+ℤ d (e *ℤ t (m + 1) j) (neg_ℤ (sum_to m (λ i. t (m + 1) (basis i) *ℤ g i j))))
  where
    column : (i : ℕ) → i < m → sum_to m (λ k. f (m + 1) (n + k) *ℤ t k (basis i)) ≡ neg_ℤ (d *ℤ t (m + 1) (basis i))
    column i c =
        let whole : f (m + 1) (basis i) ≡ d *ℤ t (m + 1) (basis i) +ℤ sum_to m (λ k. f (m + 1) (n + k) *ℤ t k (basis i)) =
        p.main (basis i) (let s : basis i < n + m = p.columns i c in omega arith) in
        let none : f (m + 1) (basis i) ≡ pos 0 = p.basic i (m + 1) c (omega arith) ∙ (rw (ne_eqb (m + 1) i (λ s. omega arith), ne_eqb (m + 1) m (λ s. omega arith)) refl) in
        omega (arith, linear)

proportional_main : (m n : ℕ) (t : ℕ → ℕ → ℤ) (basis : ℕ → ℕ) (d e : ℤ) (f g : ℕ → ℕ → ℤ) → IsScaledDictionary m n t basis d f → IsScaledDictionary m n t basis e g → (j : ℕ) → j < n + m + 1 → e *ℤ f (m + 1) j ≡ d *ℤ g (m + 1) j
proportional_main m n t basis d e f g p q j b =
    main_by_rows m n t basis d e f g p q j b
    ∙ ap (λ z. d *ℤ z) (sym (*ℤ_cancel e (g (m + 1) j) (e *ℤ t (m + 1) j -ℤ sum_to m (λ i. t (m + 1) (basis i) *ℤ g i j)) q.positive (main_by_rows m n t basis e e g g q q j b)))

-- two scaled dictionaries of one basis are proportional
pub proportional : (m n : ℕ) (t : ℕ → ℕ → ℤ) (basis : ℕ → ℕ) (d e : ℤ) (f g : ℕ → ℕ → ℤ) → IsScaledDictionary m n t basis d f → IsScaledDictionary m n t basis e g → (r j : ℕ) → r < m + 2 → j < n + m + 1 → e *ℤ f r j ≡ d *ℤ g r j
proportional m n t basis d e f g p q r j a b =
    elim (cases_lt r m) [
      | inl l ↦ proportional_row m n t basis d e f g p q r j l b
      | inr l ↦
          elim (cases_eq r m) [
            | inl s ↦ subst (λ i. e *ℤ f i j ≡ d *ℤ g i j) (sym s) (proportional_face m n t basis d e f g p q j b)
            | inr o ↦ subst (λ i. e *ℤ f i j ≡ d *ℤ g i j) (let s : m + 1 ≡ r = omega arith in s) (proportional_main m n t basis d e f g p q j b)
          ]
    ]

-- a basis has at most one dictionary
pub same_dens : (m n : ℕ) (t : ℕ → ℕ → ℤ) (basis : ℕ → ℕ) (d e : ℤ) (f g : ℕ → ℕ → ℤ) → IsDictionary m n t basis d f → IsDictionary m n t basis e g → d ≡ e
same_dens m n t basis d e f g p q =
    same_table_denominators (m + 2) (n + m + 1) f g d e p.scaled.positive q.scaled.positive p.reduced.only_one q.reduced.only_one
    (proportional m n t basis d e f g p.scaled q.scaled)

pub same_entries : (m n : ℕ) (t : ℕ → ℕ → ℤ) (basis : ℕ → ℕ) (d e : ℤ) (f g : ℕ → ℕ → ℤ) → IsDictionary m n t basis d f → IsDictionary m n t basis e g → (r j : ℕ) → r < m + 2 → j < n + m + 1 → f r j ≡ g r j
same_entries m n t basis d e f g p q r j a b =
    *ℤ_cancel d (f r j) (g r j) p.scaled.positive
    (ap (λ z. z *ℤ f r j) (same_dens m n t basis d e f g p q) ∙ proportional m n t basis d e f g p.scaled q.scaled r j a b)
