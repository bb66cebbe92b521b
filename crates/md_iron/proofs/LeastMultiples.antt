-- The least common multiple of two numbers, and whether it has at most 62 bits.
use Rattle.std.proofs.Common.{◌≡◌, ℕ, ◌-◌, ◌*◌, ◌^◌, ◌<◌, ◌≤◌, ℤ, pos, ◌*ℤ◌, ◌<ℤ◌, unsigned_abs, Option, Some, None, MatchOption, sym, ap, ◌∙◌, subst, arith}
use Rattle.std.proofs.lemmas.Int.{ints, unsigned_abs-mul}
use Rattle.std.proofs.Math.Nat as NatL
use lib.IntN.{*ℤ_comm}
use Rattle.md_math.specs.Sizes.{IsWithin}
use Rattle.md_math.specs.Divisors.{Divides, IsGcdOfTwo}
use Rattle.md_math.proofs.Division.{Divides_cancel, Divides-*ℤ, *ℤ-Divides, positive_divisor}
use Rattle.md_math.proofs.Gcds.{gcd_of_two, same_from_IsGcdOfTwo}
use Rattle.md_math.proofs.Order.{positive-*ℤ, positive_from_*ℤ}
use Rattle.md_math.proofs.Ring.{*ℤ_left_comm}
use Rattle.md_iron.specs.Multiples.{HasShortMultiple, IsMultipleOfTwo}

-- the second number without the greatest common divisor, times the first
pub IsMultipleOfTwo-gcd : (a b g q : ℤ) → pos 0 <ℤ a → pos 0 <ℤ b → IsGcdOfTwo a b g → g *ℤ q ≡ b → IsMultipleOfTwo a b (a *ℤ q)
IsMultipleOfTwo-gcd a b g q above_a above_b h e =
    let above_g : pos 0 <ℤ g = positive_divisor a g above_a h.left h.nonneg in
    let above_q : pos 0 <ℤ q = positive_from_*ℤ g q above_g (subst (λ z. pos 0 <ℤ z) (sym e) above_b) in
    record {
      positive = positive-*ℤ a q above_a above_q;
      left = Divides-*ℤ a q;
      right = subst (λ z. Divides z (a *ℤ q)) (*ℤ_comm q g ∙ e) (subst (Divides (q *ℤ g)) (*ℤ_comm q a) (*ℤ-Divides q g a h.left));
      least = λ x k m. Divides_cancel g (a *ℤ q) x above_g (subst (λ z. Divides z (g *ℤ x)) (sym (*ℤ_left_comm g a q ∙ ap (λ z. a *ℤ z) e)) (grown a b g x h k m));
    }
  where
    grown : (a b g x : ℤ) → IsGcdOfTwo a b g → Divides a x → Divides b x → Divides (a *ℤ b) (g *ℤ x)
    grown a b g x h k m =
        let (r, p) = gcd_of_two a b in
        let same : r ≡ g = same_from_IsGcdOfTwo a b r g p.is_gcd h in
        let left : Divides (a *ℤ b) (x *ℤ a) = subst (Divides (a *ℤ b)) (*ℤ_comm a x) (*ℤ-Divides a b x m) in
        let right : Divides (a *ℤ b) (x *ℤ b) = subst (λ z. Divides z (x *ℤ b)) (*ℤ_comm b a) (subst (Divides (b *ℤ a)) (*ℤ_comm b x) (*ℤ-Divides b a x k)) in
        subst (Divides (a *ℤ b)) (ap (λ z. x *ℤ z) same ∙ *ℤ_comm x g) (p.factor (a *ℤ b) x left right)

-- what divides a positive number is at most as large
pub IsWithin-divisor : (limit : ℕ) (d x : ℤ) → pos 0 <ℤ x → IsWithin limit x → Divides d x → IsWithin limit d
IsWithin-divisor limit d x p l h =
    let above : 0 < unsigned_abs x = omega (arith, ints) in
    let most : unsigned_abs d ≤ unsigned_abs x = NatL.le_of_dvd above h.divides in
    record { within = omega (arith, l.within, most) }

-- a factor of a number that is not 0 is at most as large
pub IsWithin-factor : (limit : ℕ) (a q : ℤ) → pos 0 <ℤ a → IsWithin limit (a *ℤ q) → IsWithin limit q
IsWithin-factor limit a q p l =
    let above : 1 ≤ unsigned_abs a = omega (arith, ints) in
    let more : 1 * unsigned_abs q ≤ unsigned_abs a * unsigned_abs q = NatL.mul-le-mul_right (unsigned_abs q) above in
    record { within = omega (arith, more, l.within, unsigned_abs-mul a q) }

-- the least common multiple is no larger than another one
pub least-short : (a b d : ℤ) → IsMultipleOfTwo a b d → HasShortMultiple a b → IsWithin (2 ^ 62 - 1) d
least-short a b d m h = IsWithin-divisor (2 ^ 62 - 1) d h.multiple h.positive h.short (m.least h.multiple h.left h.right)

-- a product of 62 bits, or none
pub matched : (a b f : ℤ) (r : Option ℤ) → IsMultipleOfTwo a b (a *ℤ f) → MatchOption r (¬ IsWithin (2 ^ 62 - 1) (a *ℤ f)) (λ x. (x ≡ a *ℤ f) × IsWithin (2 ^ 62 - 1) x)
    → MatchOption r (¬ HasShortMultiple a b) (λ x. IsMultipleOfTwo a b x × IsWithin (2 ^ 62 - 1) x)
matched a b f None m h = λ s. h (least-short a b (a *ℤ f) m s)
matched a b f (Some x) m h = (subst (IsMultipleOfTwo a b) (sym h.0) m, h.1)
