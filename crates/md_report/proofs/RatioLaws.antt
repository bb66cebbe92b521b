-- Fractions in least terms, by what they are of.
use Rattle.std.proofs.Common.{◌≡◌, ◌↔◌, ℤ, pos, ◌*ℤ◌, ◌≤ℤ◌, ◌<ℤ◌, sym, ap, ◌∙◌, arith}
use lib.IntN.{*ℤ_comm}
use Rattle.md_math.proofs.Order.{positive-*ℤ, le_from_*ℤ, lt_from_*ℤ, *ℤ-le, *ℤ-lt, le_from_lt, zero_from_*ℤ}
use Rattle.md_math.proofs.Ring.{ring, linear, *ℤ-zero}
use Rattle.md_num.specs.declared.frac.Frac.{Frac}
use Rattle.md_report.specs.Ratio.{IsRatio}

-- ---- two fractions, compared by what they are of

cross : (x a d e whole other : ℤ) → a *ℤ whole ≡ x *ℤ d → (d *ℤ e) *ℤ (x *ℤ other) ≡ (whole *ℤ other) *ℤ (a *ℤ e)
cross x a d e whole other h =
    let first : (d *ℤ e) *ℤ (x *ℤ other) ≡ (x *ℤ d) *ℤ (e *ℤ other) = simp ring in
    let last : (a *ℤ whole) *ℤ (e *ℤ other) ≡ (whole *ℤ other) *ℤ (a *ℤ e) = simp ring in
    first ∙ ap (λ z. z *ℤ (e *ℤ other)) (sym h) ∙ last

crossed : (y b d e whole other : ℤ) → b *ℤ other ≡ y *ℤ e → (d *ℤ e) *ℤ (y *ℤ whole) ≡ (whole *ℤ other) *ℤ (b *ℤ d)
crossed y b d e whole other h =
    let first : (d *ℤ e) *ℤ (y *ℤ whole) ≡ (y *ℤ e) *ℤ (d *ℤ whole) = simp ring in
    let last : (b *ℤ other) *ℤ (d *ℤ whole) ≡ (whole *ℤ other) *ℤ (b *ℤ d) = simp ring in
    first ∙ ap (λ z. z *ℤ (d *ℤ whole)) (sym h) ∙ last

pub at_most-of : (x whole y other : ℤ) (f g : Frac) → pos 0 <ℤ whole → pos 0 <ℤ other → IsRatio x whole f → IsRatio y other g
    → (f.num *ℤ g.den) ≤ℤ (g.num *ℤ f.den) → (x *ℤ other) ≤ℤ (y *ℤ whole)
at_most-of x whole y other f g p q h k l =
    let dens : pos 0 <ℤ (f.den *ℤ g.den) = positive-*ℤ f.den g.den h.least.positive k.least.positive in
    let wholes : pos 0 <ℤ (whole *ℤ other) = positive-*ℤ whole other p q in
    let both = *ℤ-le (whole *ℤ other) (f.num *ℤ g.den) (g.num *ℤ f.den) (le_from_lt (pos 0) (whole *ℤ other) wholes) l in
    le_from_*ℤ (f.den *ℤ g.den) (x *ℤ other) (y *ℤ whole) dens
    (rw (cross x f.num f.den g.den whole other h.is_ratio, crossed y g.num f.den g.den whole other k.is_ratio) both)

pub less-of : (x whole y other : ℤ) (f g : Frac) → pos 0 <ℤ whole → pos 0 <ℤ other → IsRatio x whole f → IsRatio y other g
    → (f.num *ℤ g.den) <ℤ (g.num *ℤ f.den) → (x *ℤ other) <ℤ (y *ℤ whole)
less-of x whole y other f g p q h k l =
    let dens : pos 0 <ℤ (f.den *ℤ g.den) = positive-*ℤ f.den g.den h.least.positive k.least.positive in
    let wholes : pos 0 <ℤ (whole *ℤ other) = positive-*ℤ whole other p q in
    let both = *ℤ-lt (whole *ℤ other) (f.num *ℤ g.den) (g.num *ℤ f.den) wholes l in
    lt_from_*ℤ (f.den *ℤ g.den) (x *ℤ other) (y *ℤ whole) dens
    (rw (cross x f.num f.den g.den whole other h.is_ratio, crossed y g.num f.den g.den whole other k.is_ratio) both)

-- ---- three, of which each is compared with the next

pub at_most-next : (x y z a b c : ℤ) → pos 0 <ℤ a → pos 0 <ℤ b → pos 0 <ℤ c → (x *ℤ b) ≤ℤ (y *ℤ a) → (y *ℤ c) <ℤ (z *ℤ b) → (x *ℤ c) <ℤ (z *ℤ a)
at_most-next x y z a b c p q r h k =
    let first : (c *ℤ (x *ℤ b)) ≤ℤ (c *ℤ (y *ℤ a)) = *ℤ-le c (x *ℤ b) (y *ℤ a) (le_from_lt (pos 0) c r) h in
    let second : (a *ℤ (y *ℤ c)) <ℤ (a *ℤ (z *ℤ b)) = *ℤ-lt a (y *ℤ c) (z *ℤ b) p k in
    let left : b *ℤ (x *ℤ c) ≡ c *ℤ (x *ℤ b) = simp ring in
    let mid : c *ℤ (y *ℤ a) ≡ a *ℤ (y *ℤ c) = simp ring in
    let right : a *ℤ (z *ℤ b) ≡ b *ℤ (z *ℤ a) = simp ring in
    lt_from_*ℤ b (x *ℤ c) (z *ℤ a) q (omega (arith, linear, first, second, left, mid, right))

-- ---- the sign of a fraction

pub not_positive : (x whole : ℤ) (f : Frac) → pos 0 <ℤ whole → IsRatio x whole f → (f.num ≤ℤ pos 0) ↔ (x ≤ℤ pos 0)
not_positive x whole f p h = (to, from)
  where
    to : f.num ≤ℤ pos 0 → x ≤ℤ pos 0
    to l =
        let part = *ℤ-le whole f.num (pos 0) (le_from_lt (pos 0) whole p) l in
        le_from_*ℤ f.den x (pos 0) h.least.positive (omega (arith, linear, part, h.is_ratio, *ℤ_comm f.den x, *ℤ_comm f.num whole, *ℤ-zero whole, *ℤ-zero f.den))

    from : x ≤ℤ pos 0 → f.num ≤ℤ pos 0
    from l =
        let part = *ℤ-le f.den x (pos 0) (le_from_lt (pos 0) f.den h.least.positive) l in
        le_from_*ℤ whole f.num (pos 0) p (omega (arith, linear, part, h.is_ratio, *ℤ_comm f.den x, *ℤ_comm f.num whole, *ℤ-zero whole, *ℤ-zero f.den))

pub not_negative : (x whole : ℤ) (f : Frac) → pos 0 <ℤ whole → IsRatio x whole f → (pos 0 ≤ℤ f.num) ↔ (pos 0 ≤ℤ x)
not_negative x whole f p h = (to, from)
  where
    to : pos 0 ≤ℤ f.num → pos 0 ≤ℤ x
    to l =
        let part = *ℤ-le whole (pos 0) f.num (le_from_lt (pos 0) whole p) l in
        le_from_*ℤ f.den (pos 0) x h.least.positive (omega (arith, linear, part, h.is_ratio, *ℤ_comm f.den x, *ℤ_comm f.num whole, *ℤ-zero whole, *ℤ-zero f.den))

    from : pos 0 ≤ℤ x → pos 0 ≤ℤ f.num
    from l =
        let part = *ℤ-le f.den (pos 0) x (le_from_lt (pos 0) f.den h.least.positive) l in
        le_from_*ℤ whole (pos 0) f.num p (omega (arith, linear, part, h.is_ratio, *ℤ_comm f.den x, *ℤ_comm f.num whole, *ℤ-zero whole, *ℤ-zero f.den))

pub is_zero : (x whole : ℤ) (f : Frac) → pos 0 <ℤ whole → IsRatio x whole f → (f.num ≡ pos 0) ↔ (x ≡ pos 0)
is_zero x whole f p h = (to, from)
  where
    to : f.num ≡ pos 0 → x ≡ pos 0
    to e = zero_from_*ℤ f.den x h.least.positive (*ℤ_comm f.den x ∙ sym h.is_ratio ∙ ap (λ z. z *ℤ whole) e ∙ *ℤ_comm (pos 0) whole ∙ *ℤ-zero whole)

    from : x ≡ pos 0 → f.num ≡ pos 0
    from e = zero_from_*ℤ whole f.num p (*ℤ_comm whole f.num ∙ h.is_ratio ∙ ap (λ z. z *ℤ f.den) e ∙ *ℤ_comm (pos 0) f.den ∙ *ℤ-zero f.den)
