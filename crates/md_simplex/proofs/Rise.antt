-- Each pivot by the rules makes the cost rows rise, and so no basis stands twice.
use Rattle.std.proofs.Common.{◌≡◌, ◌≢◌, ◌⊎◌, ℕ, ◌+◌, ◌<◌, ◌≤◌, ℤ, pos, ◌+ℤ◌, ◌-ℤ◌, ◌*ℤ◌, neg_ℤ, ◌<ℤ◌, inl, inr, sym, ap, ◌∙◌, arith}
use Rattle.md_math.specs.LexOrder.{IsLexPositive, IsLexNonNegative}
use Rattle.md_math.proofs.Ring.{linear, ring, *ℤ-zero, zero-*ℤ}
use Rattle.md_math.proofs.Order.{positive-*ℤ, zero_from_*ℤ}
use Rattle.md_math.proofs.LexLaws.{IsLexPositive-+ℤ, IsLexPositive-*ℤ, IsLexPositive-from_*ℤ, IsLexPositive-same, IsLexNonNegative-from_positive, IsLexNonNegative-*ℤ}
use Rattle.md_simplex.specs.declared.order.Order.{Order}
use Rattle.md_simplex.specs.Rules.{key, IsEntering}
use Rattle.md_simplex.proofs.Pivoted.{IsPivoted, factor_positive, new_other}
use Rattle.md_simplex.proofs.PositiveRows.{HasPositiveRows, key_in}

-- how far a row of the second dictionary, f over h, lies above that of the first, e over d
abbrev pub rise : ℕ → ℕ → ℤ → (ℕ → ℕ → ℤ) → ℤ → (ℕ → ℕ → ℤ) → ℕ → ℕ → ℤ
rise m n d e h f i k = d *ℤ f i (key m n k) -ℤ h *ℤ e i (key m n k)

-- the face row rises, or it stays and the main row rises
pub record FaceStays (m n : ℕ) (d : ℤ) (e : ℕ → ℕ → ℤ) (h : ℤ) (f : ℕ → ℕ → ℤ) : Type 0 where
  pub face : (k : ℕ) → k < m + 1 → rise m n d e h f m k ≡ pos 0
  pub main : IsLexPositive (m + 1) (rise m n d e h f (m + 1))

abbrev pub Rises : (m n : ℕ) → ℤ → (ℕ → ℕ → ℤ) → ℤ → (ℕ → ℕ → ℤ) → Type 0
Rises m n d e h f = IsLexPositive (m + 1) (rise m n d e h f m) ⊎ FaceStays m n d e h f

-- ---- one pivot

module _ (m n : ℕ) (t : ℕ → ℕ → ℤ) (basis : ℕ → ℕ) (d : ℤ) (e : ℕ → ℕ → ℤ) (h : ℤ) (f : ℕ → ℕ → ℤ) (row column : ℕ) (p : IsPivoted m n t basis d e h f row column) where
  -- the rise is the pivot row, times minus the entry of the cost row
  rise-times : (i k : ℕ) → m ≤ i → i < m + 2 → k < m + 1 → (d *ℤ e row column) *ℤ rise m n d e h f i k ≡ (d *ℤ h) *ℤ (neg_ℤ (e i column) *ℤ e row (key m n k))
  rise-times i k a b c =
      let o : i ≢ row = λ s. (let l : row < m = p.row_in in omega arith) in
      let new : h *ℤ (e row column *ℤ e i (key m n k) -ℤ e i column *ℤ e row (key m n k)) ≡ (d *ℤ e row column) *ℤ f i (key m n k) = new_other m n t basis d e h f row column p i (key m n k) o b (key_in m n k c) in
      spread d (e row column) (f i (key m n k)) h (e i (key m n k))
      ∙ ap (λ z. d *ℤ z -ℤ (d *ℤ e row column) *ℤ (h *ℤ e i (key m n k))) (sym new)
      ∙ gather d h (e row column) (e i (key m n k)) (e i column) (e row (key m n k))
    where
      spread : (d x u h v : ℤ) → (d *ℤ x) *ℤ (d *ℤ u -ℤ h *ℤ v) ≡ d *ℤ ((d *ℤ x) *ℤ u) -ℤ (d *ℤ x) *ℤ (h *ℤ v)
      spread d x u h v = simp ring (omega (arith, linear))

      gather : (d h x v y w : ℤ) → d *ℤ (h *ℤ (x *ℤ v -ℤ y *ℤ w)) -ℤ (d *ℤ x) *ℤ (h *ℤ v) ≡ (d *ℤ h) *ℤ (neg_ℤ y *ℤ w)
      gather d h x v y w = simp ring (omega (arith, linear))

  -- a negative entry makes its row rise
  rise-positive : (i : ℕ) → m ≤ i → i < m + 2 → e i column <ℤ pos 0 → HasPositiveRows m n e → IsLexPositive (m + 1) (rise m n d e h f i)
  rise-positive i a b below positive =
      IsLexPositive-from_*ℤ (m + 1) (d *ℤ e row column) (rise m n d e h f i) (factor_positive m n t basis d e h f row column p)
      (IsLexPositive-same (m + 1) (λ k. (d *ℤ h) *ℤ (neg_ℤ (e i column) *ℤ e row (key m n k))) (λ k. (d *ℤ e row column) *ℤ rise m n d e h f i k) (λ k c. sym (rise-times i k a b c))
      (IsLexPositive-*ℤ (m + 1) (d *ℤ h) (λ k. neg_ℤ (e i column) *ℤ e row (key m n k)) (positive-*ℤ d h p.old.scaled.positive p.new.scaled.positive)
      (IsLexPositive-*ℤ (m + 1) (neg_ℤ (e i column)) (λ k. e row (key m n k)) (omega (arith, linear)) (positive.rows row p.row_in))))

  -- a row with 0 stays
  rise-zero : (i k : ℕ) → m ≤ i → i < m + 2 → k < m + 1 → e i column ≡ pos 0 → rise m n d e h f i k ≡ pos 0
  rise-zero i k a b c none =
      zero_from_*ℤ (d *ℤ e row column) (rise m n d e h f i k) (factor_positive m n t basis d e h f row column p)
      (rise-times i k a b c ∙ ap (λ z. (d *ℤ h) *ℤ (neg_ℤ z *ℤ e row (key m n k))) none ∙ ap (λ z. (d *ℤ h) *ℤ z) (zero-*ℤ (e row (key m n k))) ∙ *ℤ-zero (d *ℤ h))

  pub Rises-pivoted : (order : Order) → IsEntering order m n e column → HasPositiveRows m n e → Rises m n d e h f
  Rises-pivoted order (inl first) positive = inl (rise-positive m (omega arith) (omega arith) first.holds positive)
  Rises-pivoted order (inr rest) positive = inr (record {
    face = λ k c. rise-zero m k (omega arith) (omega arith) c rest.1.holds.0;
    main = rise-positive (m + 1) (omega arith) (omega arith) rest.1.holds.1 positive;
  })

-- ---- one after the other

module _ (m n : ℕ) (d : ℤ) (e : ℕ → ℕ → ℤ) (h : ℤ) (f : ℕ → ℕ → ℤ) (g : ℤ) (w : ℕ → ℕ → ℤ) (over_d : pos 0 <ℤ d) (over_h : pos 0 <ℤ h) (over_g : pos 0 <ℤ g) where
  rise-sum : (i k : ℕ) → g *ℤ rise m n d e h f i k +ℤ d *ℤ rise m n h f g w i k ≡ h *ℤ rise m n d e g w i k
  rise-sum i k = turn d h g (e i (key m n k)) (f i (key m n k)) (w i (key m n k))
    where
      turn : (d h g x y z : ℤ) → g *ℤ (d *ℤ y -ℤ h *ℤ x) +ℤ d *ℤ (h *ℤ z -ℤ g *ℤ y) ≡ h *ℤ (d *ℤ z -ℤ g *ℤ x)
      turn d h g x y z = simp ring (omega (arith, linear))

  -- a row that rises and then does not fall
  first_rises : (i : ℕ) → IsLexPositive (m + 1) (rise m n d e h f i) → IsLexNonNegative (m + 1) (rise m n h f g w i) → IsLexPositive (m + 1) (rise m n d e g w i)
  first_rises i a b =
      IsLexPositive-from_*ℤ (m + 1) h (rise m n d e g w i) over_h
      (IsLexPositive-same (m + 1) (λ k. g *ℤ rise m n d e h f i k +ℤ d *ℤ rise m n h f g w i k) (λ k. h *ℤ rise m n d e g w i k) (λ k _. rise-sum i k)
      (IsLexPositive-+ℤ (m + 1) (λ k. g *ℤ rise m n d e h f i k) (λ k. d *ℤ rise m n h f g w i k) (IsLexPositive-*ℤ (m + 1) g (rise m n d e h f i) over_g a) (IsLexNonNegative-*ℤ (m + 1) d (rise m n h f g w i) over_d b)))

  -- a row that stays and then rises
  second_rises : (i : ℕ) → ((k : ℕ) → k < m + 1 → rise m n d e h f i k ≡ pos 0) → IsLexPositive (m + 1) (rise m n h f g w i) → IsLexPositive (m + 1) (rise m n d e g w i)
  second_rises i zeros b =
      IsLexPositive-from_*ℤ (m + 1) h (rise m n d e g w i) over_h
      (IsLexPositive-same (m + 1) (λ k. d *ℤ rise m n h f g w i k) (λ k. h *ℤ rise m n d e g w i k)
      (λ k c. (let z : g *ℤ rise m n d e h f i k ≡ pos 0 = ap (λ x. g *ℤ x) (zeros k c) ∙ *ℤ-zero g in let s = rise-sum i k in omega (arith, linear)))
      (IsLexPositive-*ℤ (m + 1) d (rise m n h f g w i) over_d b))

  zero_then_zero : (i : ℕ) → ((k : ℕ) → k < m + 1 → rise m n d e h f i k ≡ pos 0) → ((k : ℕ) → k < m + 1 → rise m n h f g w i k ≡ pos 0) → (k : ℕ) → k < m + 1 → rise m n d e g w i k ≡ pos 0
  zero_then_zero i a b k c =
      zero_from_*ℤ h (rise m n d e g w i k) over_h
      (let z : g *ℤ rise m n d e h f i k ≡ pos 0 = ap (λ x. g *ℤ x) (a k c) ∙ *ℤ-zero g in
      let y : d *ℤ rise m n h f g w i k ≡ pos 0 = ap (λ x. d *ℤ x) (b k c) ∙ *ℤ-zero d in
      let s = rise-sum i k in omega (arith, linear))

  nonneg_zero : (i : ℕ) → ((k : ℕ) → k < m + 1 → rise m n h f g w i k ≡ pos 0) → IsLexNonNegative (m + 1) (rise m n h f g w i)
  nonneg_zero i zeros = record { at = λ k b _. (let z : rise m n h f g w i k ≡ pos 0 = zeros k b in omega (arith, linear)) }

  pub Rises_trans : Rises m n d e h f → Rises m n h f g w → Rises m n d e g w
  Rises_trans (inl a) (inl b) = inl (first_rises m a (IsLexNonNegative-from_positive (m + 1) (rise m n h f g w m) b))
  Rises_trans (inl a) (inr b) = inl (first_rises m a (nonneg_zero m b.face))
  Rises_trans (inr a) (inl b) = inl (second_rises m a.face b)
  Rises_trans (inr a) (inr b) = inr (record {
    face = zero_then_zero m a.face b.face;
    main = first_rises (m + 1) a.main (IsLexNonNegative-from_positive (m + 1) (rise m n h f g w (m + 1)) b.main);
  })

-- no dictionary rises above itself
pub Rises-never : (m n : ℕ) (d : ℤ) (e : ℕ → ℕ → ℤ) → Rises m n d e d e → ⊥
Rises-never m n d e (inl a) = (let p : pos 0 <ℤ rise m n d e d e m a.place = a.positive in omega (arith, linear))
Rises-never m n d e (inr a) = (let p : pos 0 <ℤ rise m n d e d e (m + 1) a.main.place = a.main.positive in omega (arith, linear))
