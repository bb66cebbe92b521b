-- Fractions in least terms are the same exactly where their cross products are.
use Rattle.std.proofs.Common.{◌≡◌, ℤ, pos, ◌*ℤ◌, ◌<ℤ◌, Bool, true, false, ◌&&◌, not, refl, sym, ap, ◌∙◌}
use mathlib.Core.Bool.{false≢true}
use Rattle.std.specs.Ordering.{int_eq}
use Rattle.std.proofs.lemmas.Bool.Decides.{Decides-int_eq}
use lib.IntN.{*ℤ_comm}
use Rattle.md_math.proofs.Ring.{ring, *ℤ_left_comm}
use Rattle.md_math.proofs.Order.{*ℤ_cancel, positive-*ℤ}
use Rattle.md_math.proofs.Fractions.{same_from_IsLeastTerms}
use Rattle.md_num.specs.declared.frac.Frac.{Frac}
use Rattle.md_cert.specs.Fault.{IsFraction}

-- c * (a * m) by the value of the fraction p over q of m over o
scaled : (a m o p q : ℤ) → p *ℤ o ≡ m *ℤ q → q *ℤ (a *ℤ m) ≡ a *ℤ (p *ℤ o)
scaled a m o p q e = *ℤ_left_comm q a m ∙ ap (λ z. a *ℤ z) (*ℤ_comm q m ∙ sym e)

pub same_products : (m over c den : ℤ) (b f : Frac) → IsFraction m over b → IsFraction c den f → (b.num ≡ f.num) × (b.den ≡ f.den) → den *ℤ m ≡ over *ℤ c
same_products m over c den b f h k e =
    let left : b.den *ℤ (den *ℤ m) ≡ den *ℤ (b.num *ℤ over) = scaled den m over b.num b.den h.value in
    let right : f.den *ℤ (over *ℤ c) ≡ over *ℤ (f.num *ℤ den) = scaled over c den f.num f.den k.value in
    let same : den *ℤ (b.num *ℤ over) ≡ over *ℤ (f.num *ℤ den) = ap (λ z. den *ℤ (z *ℤ over)) e.0 ∙ turn den f.num over in
    *ℤ_cancel b.den (den *ℤ m) (over *ℤ c) h.least.positive (left ∙ same ∙ sym right ∙ ap (λ z. z *ℤ (over *ℤ c)) (sym e.1))
  where
    turn : (d n o : ℤ) → d *ℤ (n *ℤ o) ≡ o *ℤ (n *ℤ d)
    turn d n o = simp ring

pub same_fraction : (m over c den : ℤ) (b f : Frac) → pos 0 <ℤ over → pos 0 <ℤ den → IsFraction m over b → IsFraction c den f → den *ℤ m ≡ over *ℤ c → (b.num ≡ f.num) × (b.den ≡ f.den)
same_fraction m over c den b f p q h k e = same_from_IsLeastTerms b.num b.den f.num f.den h.least k.least cross
  where
    left : (over *ℤ den) *ℤ (b.num *ℤ f.den) ≡ (b.den *ℤ f.den) *ℤ (den *ℤ m)
    left = apart over den b.num f.den ∙ ap (λ z. z *ℤ (den *ℤ f.den)) h.value ∙ join m b.den den f.den
      where
        apart : (o d n g : ℤ) → (o *ℤ d) *ℤ (n *ℤ g) ≡ (n *ℤ o) *ℤ (d *ℤ g)
        apart o d n g = simp ring

        join : (m g d h : ℤ) → (m *ℤ g) *ℤ (d *ℤ h) ≡ (g *ℤ h) *ℤ (d *ℤ m)
        join m g d h = simp ring

    right : (over *ℤ den) *ℤ (f.num *ℤ b.den) ≡ (b.den *ℤ f.den) *ℤ (over *ℤ c)
    right = apart over den f.num b.den ∙ ap (λ z. z *ℤ (over *ℤ b.den)) k.value ∙ join c f.den over b.den
      where
        apart : (o d n g : ℤ) → (o *ℤ d) *ℤ (n *ℤ g) ≡ (n *ℤ d) *ℤ (o *ℤ g)
        apart o d n g = simp ring

        join : (c g o h : ℤ) → (c *ℤ g) *ℤ (o *ℤ h) ≡ (h *ℤ g) *ℤ (o *ℤ c)
        join c g o h = simp ring

    cross : b.num *ℤ f.den ≡ f.num *ℤ b.den
    cross = *ℤ_cancel (over *ℤ den) (b.num *ℤ f.den) (f.num *ℤ b.den) (positive-*ℤ over den p q) (left ∙ ap (λ z. (b.den *ℤ f.den) *ℤ z) e ∙ sym right)

-- ---- the test

both : (a b : Bool) → (a && b) ≡ true → (a ≡ true) × (b ≡ true)
both true true e = (refl, refl)
both true false e = absurd (false≢true e)
both false b e = absurd (false≢true e)

-- fractions are the same exactly where their numbers are
pub same-numbers : (b f : Frac) → (int_eq b.num f.num && int_eq b.den f.den) ≡ true → (b.num ≡ f.num) × (b.den ≡ f.den)
same-numbers b f e =
    let h = both (int_eq b.num f.num) (int_eq b.den f.den) e in
    ((Decides-int_eq b.num f.num).0 h.0, (Decides-int_eq b.den f.den).0 h.1)

pub numbers-same : (b f : Frac) → (b.num ≡ f.num) × (b.den ≡ f.den) → (int_eq b.num f.num && int_eq b.den f.den) ≡ true
numbers-same b f e = rw ((Decides-int_eq b.num f.num).1 e.0, (Decides-int_eq b.den f.den).1 e.1) refl

pub not-other : (b : Bool) → not b ≡ false → b ≡ true
not-other true e = refl
not-other false e = absurd (false≢true (sym e))
