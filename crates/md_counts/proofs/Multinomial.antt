-- The weight of counts by a multinomial number and powers.
use Rattle.std.proofs.Common.{◌≡◌, ℕ, zero, suc, ◌-◌, ◌*◌, ◌^◌, ◌<◌, ℤ, pos, ◌*ℤ◌, ◌≤ℤ◌, true, [], refl, sym, ap, ap₂, ◌∙◌, arith, inl, inr}
use Rattle.std.proofs.lemmas.Bool.{cases_lt}
use Rattle.std.proofs.lemmas.Int.{ints}
use Rattle.std.proofs.Math.IntN.{pos-*ℤ-pos}
use Rattle.std.proofs.Math.Nat.{pow-zero, pow-suc}
use Rattle.md_math.specs.Products.{product_to, factorial}
use Rattle.md_math.specs.Sums.{sum_to}
use Rattle.md_math.proofs.Ring.{linear, ring, *ℤ-zero, *ℤ_assoc}
use Rattle.md_math.proofs.Order.{*ℤ_cancel, positive_pos}
use Rattle.md_math.proofs.ProductLaws.{product_to-one, product_to-positive, factorial-positive}
use Rattle.md_math.proofs.SumLaws.{sum_to-same, sum_to-all_zero, sum_to-*ℤ}
use Rattle.md_counts.proofs.Agreement.{agrees, less, weight_with, weight_behind, less-here, less-elsewhere, behind-some, behind-none, weight_with-more, less-sum}
use Rattle.md_math.proofs.ProductLaws.{product_to-times}

-- the product of the factorials of the counts, and that of the weights, each as often as its count
abbrev pub factorials_to : ℕ → (ℕ → ℕ) → ℕ
factorials_to kinds c = product_to kinds (λ v. factorial (c v))

abbrev pub powers_to : ℕ → (ℕ → ℕ) → (ℕ → ℕ) → ℕ
powers_to kinds f c = product_to kinds (λ v. f v ^ c v)

pub factorials_to-positive : (kinds : ℕ) (c : ℕ → ℕ) → 0 < factorials_to kinds c
factorials_to-positive kinds c = product_to-positive kinds (λ v. factorial (c v)) (λ v b. factorial-positive (c v))

-- one of v taken away
pub factorials-less : (kinds : ℕ) (c : ℕ → ℕ) (v : ℕ) → v < kinds → 0 < c v → factorials_to kinds c ≡ c v * factorials_to kinds (less c v)
factorials-less kinds c v b p =
    product_to-times kinds v (c v) (λ u. factorial (c u)) (λ u. factorial (less c v u)) b
    (one (c v) p ∙ ap (λ n. c v * factorial n) (sym (less-here c v)))
    (λ u l d. ap factorial (sym (less-elsewhere c v u d)))
  where
    one : (n : ℕ) → 0 < n → factorial n ≡ n * factorial (n - 1)
    one zero p = absurd (omega arith)
    one (suc n) p = let e : suc n - 1 ≡ n = omega arith in rw e refl

powers-less : (kinds : ℕ) (f c : ℕ → ℕ) (v : ℕ) → v < kinds → 0 < c v → powers_to kinds f c ≡ f v * powers_to kinds f (less c v)
powers-less kinds f c v b p =
    product_to-times kinds v (f v) (λ u. f u ^ c u) (λ u. f u ^ less c v u) b
    (one (f v) (c v) p ∙ ap (λ n. f v * f v ^ n) (sym (less-here c v)))
    (λ u l d. ap (λ n. f u ^ n) (sym (less-elsewhere c v u d)))
  where
    one : (a n : ℕ) → 0 < n → a ^ n ≡ a * a ^ (n - 1)
    one a zero p = absurd (omega arith)
    one a (suc n) p = let e : suc n - 1 ≡ n = omega arith in rw e (pow-suc a n ∙ omega arith)

-- ---- no bidder

-- no bidder has a value
pub none-zero : (kinds : ℕ) (c : ℕ → ℕ) (v : ℕ) → sum_to kinds (λ u. pos (c u)) ≡ pos 0 → v < kinds → c v ≡ 0
none-zero kinds c v e b =
    let z : pos (c v) ≡ pos 0 = sum_to-all_zero kinds v (λ u. pos (c u)) b (λ u l. nonneg (c u)) (omega (arith, linear)) in
    omega (arith, ints)
  where
    nonneg : (n : ℕ) → pos 0 ≤ℤ pos n
    nonneg n = omega (arith, ints)

agrees-nil : (kinds : ℕ) (c : ℕ → ℕ) → ((v : ℕ) → v < kinds → c v ≡ 0) → agrees kinds c [] ≡ true
agrees-nil zero c h = refl
agrees-nil (suc kinds) c h = rw (agrees-nil kinds c (λ v b. h v (omega arith)), h kinds (omega arith)) refl

-- ---- the law, for functions

-- the lists that begin with v, times the factorials, are as the count of v
pub behind-law : (kinds : ℕ) (f : ℕ → ℕ) (n : ℕ) (c : ℕ → ℕ) (v : ℕ) → v < kinds
    → (0 < c v → pos (factorials_to kinds (less c v)) *ℤ weight_with kinds f n (less c v) ≡ pos (factorial n * powers_to kinds f (less c v)))
    → pos (factorials_to kinds c) *ℤ weight_behind kinds f n c v ≡ pos (factorial n * powers_to kinds f c) *ℤ pos (c v)
behind-law kinds f n c v b h =
    elim (cases_lt 0 (c v)) [
      | inl p ↦
          let d = less c v in
          ap₂ (λ x y. pos x *ℤ y) (factorials-less kinds c v b p) (behind-some kinds f n c v p)
          ∙ term (c v) (f v) (factorials_to kinds d) (factorial n * powers_to kinds f d) (weight_with kinds f n d) (h p)
          ∙ ap (λ x. pos x *ℤ pos (c v)) (again (factorial n) (f v) (powers_to kinds f d) ∙ ap (λ x. factorial n * x) (sym (powers-less kinds f c v b p)))
      | inr z ↦
          let e : c v ≡ 0 = omega arith in
          ap (λ y. pos (factorials_to kinds c) *ℤ y) (behind-none kinds f n c v b e) ∙ *ℤ-zero (pos (factorials_to kinds c))
          ∙ sym (ap (λ m. pos (factorial n * powers_to kinds f c) *ℤ pos m) e ∙ *ℤ-zero (pos (factorial n * powers_to kinds f c)))
    ]
  where
    product : (a p b w r : ℤ) → p *ℤ w ≡ r → (a *ℤ p) *ℤ (b *ℤ w) ≡ (r *ℤ b) *ℤ a
    product a p b w r e = rw (sym e) (simp ring)

    term : (a b p r : ℕ) (w : ℤ) → pos p *ℤ w ≡ pos r → pos (a * p) *ℤ (pos b *ℤ w) ≡ pos (r * b) *ℤ pos a
    term a b p r w e =
        ap (λ x. x *ℤ (pos b *ℤ w)) (sym (pos-*ℤ-pos a p)) ∙ product (pos a) (pos p) (pos b) w (pos r) e ∙ ap (λ x. x *ℤ pos a) (pos-*ℤ-pos r b)

    again : (a b q : ℕ) → a * q * b ≡ a * (b * q)
    again a b q = omega arith

pub multinomial : (n kinds : ℕ) (f c : ℕ → ℕ) → sum_to kinds (λ v. pos (c v)) ≡ pos n → pos (factorials_to kinds c) *ℤ weight_with kinds f n c ≡ pos (factorial n * powers_to kinds f c)
multinomial zero kinds f c e =
    let none : (v : ℕ) → v < kinds → c v ≡ 0 = λ v b. none-zero kinds c v e b in
    let ones : factorials_to kinds c ≡ 1 = product_to-one kinds (λ v. factorial (c v)) (λ v b. ap factorial (none v b)) in
    let units : powers_to kinds f c ≡ 1 = product_to-one kinds (λ v. f v ^ c v) (λ v b. ap (λ m. f v ^ m) (none v b) ∙ pow-zero (f v)) in
    let weight : weight_with kinds f zero c ≡ pos 1 = rw (agrees-nil kinds c none) refl in
    rw (ones, units, weight) refl
multinomial (suc n) kinds f c e =
    let p = pos (factorials_to kinds c) in
    let r = pos (factorial n * powers_to kinds f c) in
    ap (λ w. p *ℤ w) (weight_with-more kinds f n c)
    ∙ sym (sum_to-*ℤ kinds p (λ v. weight_behind kinds f n c v))
    ∙ sum_to-same kinds _ (λ v. r *ℤ pos (c v)) (λ v b. behind-law kinds f n c v b (λ q. multinomial n kinds f (less c v) (less-sum kinds n c v b q e)))
    ∙ sum_to-*ℤ kinds r (λ v. pos (c v))
    ∙ ap (λ z. r *ℤ z) e
    ∙ pos-*ℤ-pos (factorial n * powers_to kinds f c) (suc n)
    ∙ ap pos (again (factorial n) n (powers_to kinds f c))
  where
    again : (a n q : ℕ) → a * q * suc n ≡ suc n * a * q
    again a n q = omega arith

-- the number of bidders times the weight behind v is the weight of all by the count of v
pub behind-share : (kinds : ℕ) (f : ℕ → ℕ) (n : ℕ) (c : ℕ → ℕ) (v : ℕ) → v < kinds → sum_to kinds (λ u. pos (c u)) ≡ pos (suc n)
    → pos (suc n) *ℤ weight_behind kinds f n c v ≡ weight_with kinds f (suc n) c *ℤ pos (c v)
behind-share kinds f n c v b e =
    *ℤ_cancel (pos (factorials_to kinds c)) _ _ (positive_pos (factorials_to kinds c) (factorials_to-positive kinds c))
    (shares (pos (factorials_to kinds c)) _ _ (pos (suc n)) (pos (c v)) (pos (factorial n * powers_to kinds f c))
    (behind-law kinds f n c v b (λ q. multinomial n kinds f (less c v) (less-sum kinds n c v b q e)))
    (multinomial (suc n) kinds f c e ∙ ap pos (again (factorial n) n (powers_to kinds f c)) ∙ sym (pos-*ℤ-pos (factorial n * powers_to kinds f c) (suc n))))
  where
    again : (a n q : ℕ) → suc n * a * q ≡ a * q * suc n
    again a n q = omega arith

    shares : (p t w m a r : ℤ) → p *ℤ t ≡ r *ℤ a → p *ℤ w ≡ r *ℤ m → p *ℤ (m *ℤ t) ≡ p *ℤ (w *ℤ a)
    shares p t w m a r d e = left p t m ∙ ap (λ z. m *ℤ z) d ∙ mid m r a ∙ ap (λ z. z *ℤ a) (sym e) ∙ *ℤ_assoc p w a
      where
        left : (p t m : ℤ) → p *ℤ (m *ℤ t) ≡ m *ℤ (p *ℤ t)
        left p t m = simp ring

        mid : (m r a : ℤ) → m *ℤ (r *ℤ a) ≡ (r *ℤ m) *ℤ a
        mid m r a = simp ring
