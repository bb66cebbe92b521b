-- A fraction divided by the greatest common divisor of its two numbers.
use Rattle.std.proofs.Common.{◌≡◌, ◌<◌, ℤ, pos, ◌*ℤ◌, ◌≤ℤ◌, ◌<ℤ◌, unsigned_abs, sym, ap, ◌∙◌, subst, arith}
use Rattle.std.proofs.lemmas.Int.{ints}
use Rattle.std.proofs.Math.Nat as NatL
use Rattle.md_math.specs.Divisors.{Divides, IsGcdOfTwo, IsLeastTerms}
use Rattle.md_math.proofs.Ring.{ring, *ℤ-one}
use Rattle.md_math.proofs.Order.{positive_from_*ℤ, *ℤ_cancel}
use Rattle.md_math.proofs.Division.{*ℤ-Divides, Divides_cancel}
use Rattle.md_math.proofs.Fractions.{same_from_IsLeastTerms}

-- the gcd with a positive number is positive, and at most it
pub positive_gcd : (a b g : ℤ) → pos 0 <ℤ b → IsGcdOfTwo a b g → pos 0 <ℤ g
positive_gcd a b g p h =
    let n : pos 0 ≤ℤ g = h.nonneg in
    let above : 0 < unsigned_abs b = omega (arith, ints) in
    let size : 0 < unsigned_abs g = NatL.pos_of_dvd_of_pos h.right.divides above in
    omega (arith, ints)

-- num and den divided by their gcd are p and q
pub record IsReduction (num den g p q : ℤ) : Type 0 where
  pub is_gcd : IsGcdOfTwo num den g
  pub num_is : g *ℤ p ≡ num
  pub den_is : g *ℤ q ≡ den
  pub positive : pos 0 <ℤ den

pub value_of_reduction : (num den g p q : ℤ) → IsReduction num den g p q → p *ℤ den ≡ num *ℤ q
value_of_reduction num den g p q h = rw (← h.num_is, ← h.den_is) (simp ring)

pub IsLeastTerms-from_reduction : (num den g p q : ℤ) → IsReduction num den g p q → IsLeastTerms p q
IsLeastTerms-from_reduction num den g p q h = record {
  positive = positive_from_*ℤ g q above (subst (λ z. pos 0 <ℤ z) (sym h.den_is) h.positive);
  only_one = λ d a b. one d (subst (Divides (g *ℤ d)) h.num_is (*ℤ-Divides g d p a)) (subst (Divides (g *ℤ d)) h.den_is (*ℤ-Divides g d q b));
}
  where
    above : pos 0 <ℤ g
    above = positive_gcd num den g h.positive h.is_gcd

    one : (d : ℤ) → Divides (g *ℤ d) num → Divides (g *ℤ d) den → unsigned_abs d ≡ 1
    one d a b =
        let whole : Divides (g *ℤ d) (g *ℤ pos 1) = subst (Divides (g *ℤ d)) (sym (*ℤ-one g)) (h.is_gcd.greatest (g *ℤ d) a b) in
        let unit : Divides d (pos 1) = Divides_cancel g d (pos 1) above whole in
        NatL.eq-one_of_dvd-one unit.divides

pub only_from_reduction : (num den g p q : ℤ) → IsReduction num den g p q → (r s : ℤ) → IsLeastTerms r s → r *ℤ den ≡ num *ℤ s → (r ≡ p) × (s ≡ q)
only_from_reduction num den g p q h r s l e =
    same_from_IsLeastTerms r s p q l (IsLeastTerms-from_reduction num den g p q h)
    (*ℤ_cancel g (r *ℤ q) (p *ℤ s) (positive_gcd num den g h.positive h.is_gcd) cross)
  where
    cross : g *ℤ (r *ℤ q) ≡ g *ℤ (p *ℤ s)
    cross = (simp ring) ∙ ap (λ z. r *ℤ z) h.den_is ∙ e ∙ ap (λ z. z *ℤ s) (sym h.num_is) ∙ (simp ring)
