-- Fractions in least terms, and products of them.
use Rattle.std.proofs.Common.{◌≡◌, ◌*◌, ◌-◌, ◌^◌, ◌<◌, ℕ, ℤ, Option, Some, None, MatchOption, to_z, of_z, lit<, pos, ◌*ℤ◌, ◌<ℤ◌, unsigned_abs, sym, ap, ◌∙◌, subst, arith}
use lib.IntN.{*ℤ_comm}
use mir.Syntax.{w128}
use Rattle.md_math.specs.Divisors.{Divides}
use Rattle.md_math.specs.Sizes.{IsWithin}
use Rattle.md_math.proofs.Bits.{read_within}
use Rattle.md_math.proofs.Division.{Divides_trans, Divides-from_product}
use Rattle.md_math.proofs.Fractions.{same_from_IsLeastTerms}
use Rattle.md_math.proofs.Gcds.{Divides-from_coprime}
use Rattle.md_math.proofs.Order.{*ℤ_cancel}
use Rattle.md_math.proofs.Ring.{ring}
use Rattle.md_math.proofs.SizeLaws.{IsWithin-*ℤ}
use Rattle.md_num.specs.declared.frac.Frac.{Frac}
use Rattle.md_mech.specs.Accepted.{number_limit}
use Rattle.md_require.specs.Prices.{IsLeastOf, IsLongOf, IsShortOf}
use Rattle.md_require.specs.Shadows.{IsShort}

-- two fractions of one value in least terms are the same
pub least-same : (num den : ℤ) (a b : Frac) → pos 0 <ℤ den → IsLeastOf num den a → IsLeastOf num den b → (a.num ≡ b.num) × (a.den ≡ b.den)
least-same num den a b above h k =
    let cross : a.num *ℤ b.den ≡ b.num *ℤ a.den =
    *ℤ_cancel den (a.num *ℤ b.den) (b.num *ℤ a.den) above
    (turn den a.num b.den ∙ ap (λ z. z *ℤ b.den) h.value ∙ swap num a.den b.den ∙ ap (λ z. z *ℤ a.den) (sym k.value) ∙ sym (turn den b.num a.den)) in
    same_from_IsLeastTerms a.num a.den b.num b.den h.least k.least cross
  where
    turn : (d a b : ℤ) → d *ℤ (a *ℤ b) ≡ (a *ℤ d) *ℤ b
    turn d a b = simp ring

    swap : (a b c : ℤ) → (a *ℤ b) *ℤ c ≡ (a *ℤ c) *ℤ b
    swap a b c = simp ring

pub short-same : (num den : ℤ) (a b : Frac) → pos 0 <ℤ den → IsLeastOf num den a → IsLeastOf num den b → IsShort a → IsShort b
short-same num den a b above h k short =
    let same = least-same num den a b above h k in
    record { num_size = subst (IsWithin number_limit) same.0 short.num_size; den_size = subst (IsWithin number_limit) same.1 short.den_size }

-- what divides a product, and has only 1 as a divisor in common with one factor, divides the other one
divides-other : (d a c : ℤ) → ((x : ℤ) → Divides x c → Divides x d → unsigned_abs x ≡ 1) → Divides d (a *ℤ c) → Divides d a
divides-other d a c only h = Divides-from_coprime 1 (λ _. c) d a (λ x p q. only x (q.at 0 (omega arith)) p) (λ k b. h)

-- the product of two fractions, the second one over the denominator of the first one
pub product-least : (left right den : ℤ) (a b : Frac) → IsLeastOf left den a → IsLeastOf right a.den b → IsLeastOf (left *ℤ right) den (record { num = a.num *ℤ b.num; den = b.den })
product-least left right den a b h k = record {
  least = record { positive = k.least.positive; only_one = only };
  value = first a.num b.num den ∙ ap (λ z. z *ℤ b.num) h.value ∙ second left a.den b.num ∙ ap (λ z. left *ℤ z) k.value ∙ third left right b.den;
}
  where
    first : (a b d : ℤ) → (a *ℤ b) *ℤ d ≡ (a *ℤ d) *ℤ b
    first a b d = simp ring

    second : (l d b : ℤ) → (l *ℤ d) *ℤ b ≡ l *ℤ (b *ℤ d)
    second l d b = simp ring

    third : (l r d : ℤ) → l *ℤ (r *ℤ d) ≡ (l *ℤ r) *ℤ d
    third l r d = simp ring

    -- the denominator divides that of the first one
    inner : Divides b.den a.den
    inner = divides-other b.den a.den b.num (λ x p q. k.least.only_one x p q) (Divides-from_product b.den right (a.den *ℤ b.num) (*ℤ_comm a.den b.num ∙ k.value ∙ *ℤ_comm right b.den))

    only : (x : ℤ) → Divides x (a.num *ℤ b.num) → Divides x b.den → unsigned_abs x ≡ 1
    only x p q =
        let here : Divides x a.num = divides-other x a.num b.num (λ y e f. k.least.only_one y e (Divides_trans y x b.den f q)) p in
        h.least.only_one x here (Divides_trans x b.den a.den q inner)

-- it is short, or else the fraction is long
pub short-or-long : (left right den : ℤ) (a b : Frac) (o : Option Frac) → IsLeastOf left den a → IsLeastOf right a.den b
    → MatchOption o (¬ IsShort (record { num = a.num *ℤ b.num; den = b.den })) (λ f. (f ≡ record { num = a.num *ℤ b.num; den = b.den }) × IsShort f)
    → MatchOption o (IsLongOf (left *ℤ right) den) (IsShortOf (left *ℤ right) den)
short-or-long left right den a b None h k o = record { fraction = record { num = a.num *ℤ b.num; den = b.den }; is = product-least left right den a b h k; long = o }
short-or-long left right den a b (Some f) h k o = record { is = subst (IsLeastOf (left *ℤ right) den) (sym o.0) (product-least left right den a b h k); short = o.1 }

-- numbers of fewer than 127 bits are read as they are
pub read-wide : (z : ℤ) → unsigned_abs z < 2 ^ 126 → to_z w128 (of_z w128 z) ≡ z
read-wide z small = read_within (2 ^ 126 - 1) z (record { within = omega (arith, small) }) (lit< tt)

-- what the product of numbers with limits is within
pub within-product : (m n : ℕ) (x y z : ℤ) → z ≡ x *ℤ y → IsWithin m x → IsWithin n y → IsWithin (m * n) z
within-product m n x y z e a b = subst (IsWithin (m * n)) (sym e) (IsWithin-*ℤ m n x y a b)
