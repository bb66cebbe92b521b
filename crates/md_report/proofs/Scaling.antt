-- Numbers that are others times a factor, and fractions of them: d times the one is e times the other.
use Rattle.std.proofs.Common.{◌≡◌, ℤ, pos, ◌-ℤ◌, ◌*ℤ◌, ◌≤ℤ◌, ◌<ℤ◌, ◌==◌, sym, ap, ap₂, ◌∙◌, subst, arith, unsigned_abs}
use Rattle.std.specs.Prelude.{IsTrue}
use Rattle.std.proofs.lemmas.Bool.{eq-eqb, eqb-true}
use Rattle.std.proofs.lemmas.Int.{ints}
use Rattle.md_math.proofs.Order.{*ℤ_cancel, *ℤ-le, *ℤ-lt, le_from_*ℤ, lt_from_*ℤ, le_from_lt, positive-*ℤ, zero_from_*ℤ}
use Rattle.md_math.proofs.Ring.{ring, linear, *ℤ-zero}
use Rattle.md_num.specs.declared.frac.Frac.{Frac}
use Rattle.md_report.specs.Ratio.{IsRatio}
use Rattle.md_report.proofs.TightLaws.{tests_zero}

-- the one and the other, by what both are times a factor
pub alike : (d e x y q : ℤ) → pos 0 <ℤ d → d *ℤ x ≡ e *ℤ q → d *ℤ y ≡ d *ℤ q → d *ℤ x ≡ e *ℤ y
alike d e x y q p h k = h ∙ ap (λ z. e *ℤ z) (sym (*ℤ_cancel d y q p k))

-- a fraction of the one over a whole is that of the other over its whole
pub ratio-scaled : (d e x y whole other : ℤ) (f : Frac) → pos 0 <ℤ d → d *ℤ x ≡ e *ℤ y → d *ℤ whole ≡ e *ℤ other → IsRatio y other f → IsRatio x whole f
ratio-scaled d e x y whole other f p h k is = record {
  is_ratio = *ℤ_cancel d (f.num *ℤ whole) (x *ℤ f.den) p
      (turned d f.num whole ∙ ap (λ z. f.num *ℤ z) k ∙ turned f.num e other ∙ ap (λ z. e *ℤ z) is.is_ratio ∙ sym (joined e y f.den) ∙ ap (λ z. z *ℤ f.den) (sym h) ∙ joined d x f.den);
  least = is.least;
}
  where
    turned : (a b c : ℤ) → a *ℤ (b *ℤ c) ≡ b *ℤ (a *ℤ c)
    turned a b c = simp ring

    joined : (a b c : ℤ) → (a *ℤ b) *ℤ c ≡ a *ℤ (b *ℤ c)
    joined a b c = simp ring

squared : (d e x y w v : ℤ) → d *ℤ x ≡ e *ℤ y → d *ℤ w ≡ e *ℤ v → (d *ℤ d) *ℤ (x *ℤ w) ≡ (e *ℤ e) *ℤ (y *ℤ v)
squared d e x y w v h k = paired d x w ∙ ap₂ (λ a b. a *ℤ b) h k ∙ sym (paired e y v)
  where
    paired : (a b c : ℤ) → (a *ℤ a) *ℤ (b *ℤ c) ≡ (a *ℤ b) *ℤ (a *ℤ c)
    paired a b c = simp ring

-- comparisons of two fractions
pub le-scaled : (d e x y w v a b u c : ℤ) → pos 0 <ℤ d → pos 0 <ℤ e → d *ℤ x ≡ e *ℤ y → d *ℤ w ≡ e *ℤ v → d *ℤ a ≡ e *ℤ b → d *ℤ u ≡ e *ℤ c → (y *ℤ v) ≤ℤ (b *ℤ c) → (x *ℤ w) ≤ℤ (a *ℤ u)
le-scaled d e x y w v a b u c p q h k l m less =
    le_from_*ℤ (d *ℤ d) (x *ℤ w) (a *ℤ u) (positive-*ℤ d d p p)
    (subst (λ z. z ≤ℤ ((d *ℤ d) *ℤ (a *ℤ u))) (sym (squared d e x y w v h k))
    (subst (λ z. ((e *ℤ e) *ℤ (y *ℤ v)) ≤ℤ z) (sym (squared d e a b u c l m))
    (*ℤ-le (e *ℤ e) (y *ℤ v) (b *ℤ c) (le_from_lt (pos 0) (e *ℤ e) (positive-*ℤ e e q q)) less)))

pub lt-scaled : (d e x y w v a b u c : ℤ) → pos 0 <ℤ d → pos 0 <ℤ e → d *ℤ x ≡ e *ℤ y → d *ℤ w ≡ e *ℤ v → d *ℤ a ≡ e *ℤ b → d *ℤ u ≡ e *ℤ c → (y *ℤ v) <ℤ (b *ℤ c) → (x *ℤ w) <ℤ (a *ℤ u)
lt-scaled d e x y w v a b u c p q h k l m less =
    lt_from_*ℤ (d *ℤ d) (x *ℤ w) (a *ℤ u) (positive-*ℤ d d p p)
    (subst (λ z. z <ℤ ((d *ℤ d) *ℤ (a *ℤ u))) (sym (squared d e x y w v h k))
    (subst (λ z. ((e *ℤ e) *ℤ (y *ℤ v)) <ℤ z) (sym (squared d e a b u c l m))
    (*ℤ-lt (e *ℤ e) (y *ℤ v) (b *ℤ c) (positive-*ℤ e e q q) less)))

zero-over : (d e x y : ℤ) → pos 0 <ℤ d → d *ℤ x ≡ e *ℤ y → y ≡ pos 0 → x ≡ pos 0
zero-over d e x y p h z = zero_from_*ℤ d x p (h ∙ ap (λ k. e *ℤ k) z ∙ *ℤ-zero e)

-- the one is 0 where the other is
pub test-scaled : (d e x y : ℤ) → pos 0 <ℤ d → pos 0 <ℤ e → d *ℤ x ≡ e *ℤ y → (unsigned_abs y == 0) ≡ (unsigned_abs x == 0)
test-scaled d e x y p q h = tests_zero (unsigned_abs y == 0) x (to, from)
  where
    none : (z : ℤ) → unsigned_abs z ≡ 0 → z ≡ pos 0
    none z k = omega (arith, ints, k)

    to : IsTrue (unsigned_abs y == 0) → x ≡ pos 0
    to t = zero-over d e x y p h (none y (eqb-true (unsigned_abs y) 0 t))

    from : x ≡ pos 0 → IsTrue (unsigned_abs y == 0)
    from z = eq-eqb (unsigned_abs y) 0 (ap unsigned_abs (zero-over e d y x q (sym h) z))

-- ---- differences and products

pub less-scaled : (d e x y a b : ℤ) → d *ℤ x ≡ e *ℤ y → d *ℤ a ≡ e *ℤ b → d *ℤ (x -ℤ a) ≡ e *ℤ (y -ℤ b)
less-scaled d e x y a b h k = spread d x a ∙ ap₂ (λ p q. p -ℤ q) h k ∙ sym (spread e y b)
  where
    spread : (d x y : ℤ) → d *ℤ (x -ℤ y) ≡ d *ℤ x -ℤ d *ℤ y
    spread d x y = simp ring (omega (arith, linear))

pub weighed : (d e x y w : ℤ) → d *ℤ x ≡ e *ℤ y → d *ℤ (x *ℤ w) ≡ e *ℤ (y *ℤ w)
weighed d e x y w h = sym (joined d x w) ∙ ap (λ z. z *ℤ w) h ∙ joined e y w
  where
    joined : (a b c : ℤ) → (a *ℤ b) *ℤ c ≡ a *ℤ (b *ℤ c)
    joined a b c = simp ring

-- a lack is one side less the other
pub lacks : (d e x y a b l k : ℤ) → l ≡ x -ℤ a → k ≡ y -ℤ b → d *ℤ (x -ℤ a) ≡ e *ℤ (y -ℤ b) → d *ℤ l ≡ e *ℤ k
lacks d e x y a b l k f g h = ap (λ z. d *ℤ z) f ∙ h ∙ sym (ap (λ z. e *ℤ z) g)
