-- Exact quotients and their sizes.
use Rattle.std.proofs.Common.{◌≡◌, ℕ, ◌+◌, ◌*◌, ◌<◌, ◌≤◌, ◌^◌, ℤ, pos, ◌*ℤ◌, ◌<ℤ◌, int_div, unsigned_abs, sym, ap, ◌∙◌, subst, inl, inr, arith, mul-le-mul, mul-le-mul_right}
use Rattle.std.proofs.lemmas.Bool.{cases_lt}
use Rattle.std.proofs.lemmas.Int.{ints, unsigned_abs-mul}
use Rattle.md_math.specs.Sizes.{IsWithin}
use Rattle.md_math.specs.Divisors.{Divides}
use Rattle.md_math.proofs.Division.{Divides-int_div, Divides-*ℤ_right, Divides_refl}
use Rattle.md_math.proofs.Order.{*ℤ_cancel}

-- a factor divides the product
pub divides_from : (d q x : ℤ) → d *ℤ q ≡ x → Divides d x
divides_from d q x e = subst (Divides d) e (Divides-*ℤ_right d d q (Divides_refl d))

-- an exact quotient is the quotient
pub quotient_is : (g x q : ℤ) → pos 0 <ℤ g → Divides g x → g *ℤ q ≡ x → q ≡ int_div x g
quotient_is g x q p h e = *ℤ_cancel g q (int_div x g) p (e ∙ sym (Divides-int_div g x h))

-- a number that is not within a limit is above it
pub above_from_not : (limit : ℕ) (z : ℤ) → ¬ IsWithin limit z → limit < unsigned_abs z
above_from_not limit z h = elim (cases_lt limit (unsigned_abs z)) [ inl l ↦ l | inr l ↦ absurd (h (record { within = l })) ]

-- ---- sizes of quotients

-- a number that is at most the limit times its divisor has a quotient within the limit
pub quotient_within : (limit : ℕ) (d x : ℤ) → pos 0 <ℤ d → Divides d x → unsigned_abs x ≤ limit * unsigned_abs d → IsWithin limit (int_div x d)
quotient_within limit d x p h le =
    let product : unsigned_abs d * unsigned_abs (int_div x d) ≡ unsigned_abs x = sym (unsigned_abs-mul d (int_div x d)) ∙ ap unsigned_abs (Divides-int_div d x h) in
    let above : 0 < unsigned_abs d = omega (arith, ints) in
    elim (cases_lt limit (unsigned_abs (int_div x d))) [
      | inr l ↦ record { within = l }
      | inl l ↦ absurd (too_large (unsigned_abs d) (unsigned_abs (int_div x d)) (unsigned_abs x) product above l le)
    ]
  where
    too_large : (a q z : ℕ) → a * q ≡ z → 0 < a → limit < q → z ≤ limit * a → ⊥
    too_large a q z e above l le =
        let next : limit + 1 ≤ q = omega arith in
        let more : a * (limit + 1) ≤ a * q = mul-le-mul (omega arith) next in
        omega (arith, more)

-- a number that is above the limit times its divisor has a quotient above the limit
pub quotient_above : (limit : ℕ) (d x : ℤ) → Divides d x → limit * unsigned_abs d < unsigned_abs x → IsWithin limit (int_div x d) → ⊥
quotient_above limit d x h above w =
    let product : unsigned_abs d * unsigned_abs (int_div x d) ≡ unsigned_abs x = sym (unsigned_abs-mul d (int_div x d)) ∙ ap unsigned_abs (Divides-int_div d x h) in
    let le : unsigned_abs d * unsigned_abs (int_div x d) ≤ unsigned_abs d * limit = mul-le-mul (omega arith) w.within in
    omega (arith, product, le)

-- a quotient that is above the limit is that of a number above the limit times the divisor
pub above_quotient : (limit : ℕ) (d q x : ℤ) → pos 0 <ℤ d → d *ℤ q ≡ x → limit < unsigned_abs q → limit * unsigned_abs d < unsigned_abs x
above_quotient limit d q x p e l =
    let product : unsigned_abs x ≡ unsigned_abs d * unsigned_abs q = ap unsigned_abs (sym e) ∙ unsigned_abs-mul d q in
    let positive : 0 < unsigned_abs d = omega (arith, ints) in
    let more : unsigned_abs d * (limit + 1) ≤ unsigned_abs d * unsigned_abs q = mul-le-mul (omega arith) (omega arith) in
    omega (arith, product, more)

-- a factor beside a positive number is no greater than the product
pub factor_size : (d q x : ℤ) → pos 0 <ℤ d → d *ℤ q ≡ x → unsigned_abs q ≤ unsigned_abs x
factor_size d q x p e =
    let product : unsigned_abs x ≡ unsigned_abs d * unsigned_abs q = ap unsigned_abs (sym e) ∙ unsigned_abs-mul d q in
    let more : 1 * unsigned_abs q ≤ unsigned_abs d * unsigned_abs q = mul-le-mul_right (unsigned_abs q) (omega (arith, ints)) in
    omega (arith, product, more)

-- the quotient of a number of 126 bits has as many
pub quotient_small : (d q x : ℤ) → pos 0 <ℤ d → d *ℤ q ≡ x → unsigned_abs x < 2 ^ 126 → unsigned_abs q < 2 ^ 126
quotient_small d q x p e l = let size : unsigned_abs q ≤ unsigned_abs x = factor_size d q x p e in omega arith
