-- The numbers of a fraction are no larger than those of a fraction over a multiple of its denominator.
use Rattle.std.proofs.Common.{◌≡◌, ℕ, ◌*◌, ◌<◌, ◌≤◌, ℤ, pos, ◌*ℤ◌, ◌≤ℤ◌, ◌<ℤ◌, unsigned_abs, sym, ap, ◌∙◌, subst, arith, le_refl, mul-le-mul}
use lib.IntN.{*ℤ_comm}
use Rattle.std.proofs.lemmas.Int.{ints, unsigned_abs-mul}
use Rattle.md_math.specs.Divisors.{Divides}
use Rattle.md_math.specs.Sizes.{IsWithin}
use Rattle.md_math.proofs.Division.{le_from_Divides, quotient}
use Rattle.md_math.proofs.Order.{positive_from_*ℤ, *ℤ_cancel}
use Rattle.md_math.proofs.Ring.{*ℤ_left_comm}

-- a number is no larger than its product with a positive number
below-product : (a b : ℕ) → 0 < b → a ≤ a * b
below-product a b h = omega (arith, mul-le-mul (le_refl a) (let one : 1 ≤ b = omega (arith, h) in one))

pub num-size : (limit : ℕ) (num den worth whole : ℤ) → pos 0 <ℤ den → pos 0 <ℤ whole → Divides den whole → num *ℤ whole ≡ worth *ℤ den → IsWithin limit worth → IsWithin limit num
num-size limit num den worth whole some_den positive divides same small =
    let factor = quotient den whole divides in
    let above : pos 0 <ℤ factor.0 = positive_from_*ℤ den factor.0 some_den (subst (λ z. pos 0 <ℤ z) factor.1 positive) in
    let same_worth : worth ≡ num *ℤ factor.0 =
    *ℤ_cancel den worth (num *ℤ factor.0) some_den
    (*ℤ_comm den worth ∙ sym same ∙ ap (λ z. num *ℤ z) factor.1 ∙ *ℤ_left_comm num den factor.0) in
    let sizes : unsigned_abs worth ≡ unsigned_abs num * unsigned_abs factor.0 = ap unsigned_abs same_worth ∙ unsigned_abs-mul num factor.0 in
    let some : 0 < unsigned_abs factor.0 = omega (arith, ints, above) in
    record { within = omega (arith, sizes, below-product (unsigned_abs num) (unsigned_abs factor.0) some, small.within) }

pub den-size : (limit : ℕ) (den whole : ℤ) → pos 0 <ℤ den → pos 0 <ℤ whole → Divides den whole → IsWithin limit whole → IsWithin limit den
den-size limit den whole above positive divides small =
    let below : den ≤ℤ whole = le_from_Divides den whole positive divides in
    record { within = omega (arith, ints, below, above, positive, small.within) }
