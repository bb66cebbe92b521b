-- A number over a whole is one fraction in least terms, and that fraction is no larger.
use Rattle.std.proofs.Common.{◌≡◌, ℤ, pos, ◌*ℤ◌, ◌<ℤ◌, ◌-◌, ◌^◌, sym, ap, ◌∙◌, arith}
use lib.IntN.{*ℤ_comm}
use Rattle.std.proofs.lemmas.Int.{ints}
use Rattle.md_math.specs.Divisors.{Divides, IsLeastTerms}
use Rattle.md_math.specs.Sizes.{IsWithin}
use Rattle.md_math.proofs.Division.{Divides-from_product}
use Rattle.md_math.proofs.Fractions.{same_from_IsLeastTerms}
use Rattle.md_math.proofs.Gcds.{Divides-from_coprime}
use Rattle.md_math.proofs.Order.{*ℤ_cancel}
use Rattle.md_math.proofs.QuotientSizes.{num-size, den-size}
use Rattle.md_math.proofs.Ring.{*ℤ_assoc}
use Rattle.md_num.specs.declared.frac.Frac.{Frac}
use Rattle.md_parts.specs.Fitting.{IsFraction}

-- the fraction is so much over the whole, in least terms
pub record IsPartOf (much whole : ℤ) (v : Frac) : Type 0 where
  pub same : v.num *ℤ whole ≡ much *ℤ v.den
  pub least : IsLeastTerms v.num v.den

pub one_fraction : (much whole : ℤ) (v w : Frac) → pos 0 <ℤ whole → IsPartOf much whole v → IsPartOf much whole w → v ≡ w
one_fraction much whole v w above a b =
    let left : whole *ℤ (v.num *ℤ w.den) ≡ much *ℤ (v.den *ℤ w.den) =
    sym (*ℤ_assoc whole v.num w.den) ∙ ap (λ z. z *ℤ w.den) (*ℤ_comm whole v.num ∙ a.same) ∙ *ℤ_assoc much v.den w.den in
    let right : whole *ℤ (w.num *ℤ v.den) ≡ much *ℤ (w.den *ℤ v.den) =
    sym (*ℤ_assoc whole w.num v.den) ∙ ap (λ z. z *ℤ v.den) (*ℤ_comm whole w.num ∙ b.same) ∙ *ℤ_assoc much w.den v.den in
    let cross : v.num *ℤ w.den ≡ w.num *ℤ v.den =
    *ℤ_cancel whole (v.num *ℤ w.den) (w.num *ℤ v.den) above (left ∙ ap (λ z. much *ℤ z) (*ℤ_comm v.den w.den) ∙ sym right) in
    let same = same_from_IsLeastTerms v.num v.den w.num w.den a.least b.least cross in
    ap (λ n. record { num = n; den = v.den }) same.0 ∙ ap (λ d. record { num = w.num; den = d }) same.1

-- its denominator divides the whole
den-divides : (much whole : ℤ) (v : Frac) → IsPartOf much whole v → Divides v.den whole
den-divides much whole v h =
    Divides-from_coprime 1 (λ _. v.num) v.den whole (λ c p q. h.least.only_one c (q.at 0 (omega arith)) p)
    (λ k b. Divides-from_product v.den much (whole *ℤ v.num) (*ℤ_comm whole v.num ∙ h.same ∙ *ℤ_comm much v.den))

pub small_fraction : (much whole : ℤ) (v : Frac) → pos 0 <ℤ whole → IsPartOf much whole v → IsWithin (2 ^ 126 - 1) much → IsWithin (2 ^ 126 - 1) whole → IsFraction v.num v.den
small_fraction much whole v above h much_small whole_small =
    let divides = den-divides much whole v h in
    record {
      positive = omega (arith, ints, h.least.positive);
      num_size = num-size (2 ^ 126 - 1) v.num v.den much whole h.least.positive above divides h.same much_small;
      den_size = den-size (2 ^ 126 - 1) v.den whole h.least.positive above divides whole_small;
    }
