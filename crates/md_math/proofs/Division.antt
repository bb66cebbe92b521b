-- Divisibility of signed numbers.
use Rattle.std.proofs.Common.{◌≡◌, ℕ, zero, suc, ◌*◌, ◌%◌, ◌<◌, ◌≤◌, ℤ, pos, negsuc, ◌+ℤ◌, ◌-ℤ◌, ◌*ℤ◌, neg_ℤ, ◌≤ℤ◌, ◌<ℤ◌, unsigned_abs, int_div, int_rem, sym, ap, subst, arith}
use Prim.Native.Nat.{◌∣◌}
use Rattle.std.proofs.lemmas.Int.{ints, unsigned_abs-mul, quot-rem}
use Rattle.std.proofs.Math.Nat as NatL
use Rattle.md_math.specs.Divisors.{Divides}
use Rattle.md_math.specs.Sums.{sum_to}
use lib.IntN.{*ℤ_comm}
use Rattle.md_math.proofs.Ring.{linear, *ℤ-+ℤ}

pub Divides_refl : (g : ℤ) → Divides g g
Divides_refl g = record { divides = NatL.dvd_refl (unsigned_abs g) }

pub Divides_trans : (a b c : ℤ) → Divides a b → Divides b c → Divides a c
Divides_trans a b c h k = record { divides = NatL.dvd_trans (unsigned_abs a) h.divides k.divides }

pub Divides-zero : (g : ℤ) → Divides g (pos 0)
Divides-zero g = record { divides = NatL.dvd-zero (unsigned_abs g) }

pub one-Divides : (z : ℤ) → Divides (pos 1) z
one-Divides z = record { divides = NatL.one-dvd (unsigned_abs z) }

pub Divides-neg_ℤ : (g z : ℤ) → Divides g z → Divides g (neg_ℤ z)
Divides-neg_ℤ g z h = record { divides = rw (abs-neg_ℤ z) h.divides }
  where
    abs-neg_ℤ : (z : ℤ) → unsigned_abs (neg_ℤ z) ≡ unsigned_abs z
    abs-neg_ℤ z = omega (arith, ints)

-- a multiple of g
pub Divides-*ℤ : (g q : ℤ) → Divides g (g *ℤ q)
Divides-*ℤ g q = record { divides = rw unsigned_abs-mul (NatL.dvd-mul_right (unsigned_abs g) (unsigned_abs q)) }

pub Divides-from_product : (g q z : ℤ) → z ≡ g *ℤ q → Divides g z
Divides-from_product g q z e = subst (Divides g) (sym e) (Divides-*ℤ g q)

-- the quotient of a number that g divides
pub Divides-int_div : (g z : ℤ) → Divides g z → g *ℤ int_div z g ≡ z
Divides-int_div g z h =
    let rest : int_rem z g ≡ pos 0 = rem_zero z (NatL.mod-eq-zero_of_dvd (unsigned_abs g) h.divides) in
    let whole : int_div z g *ℤ g +ℤ int_rem z g ≡ z = quot-rem z g in
    omega (arith, linear, *ℤ_comm g (int_div z g))
  where
    rem_zero : (z : ℤ) → unsigned_abs z % unsigned_abs g ≡ 0 → int_rem z g ≡ pos 0
    rem_zero (pos n) e = ap pos e
    rem_zero (negsuc n) e = ap (λ m. neg_ℤ (pos m)) e

pub quotient : (g z : ℤ) → Divides g z → (q : ℤ) × (z ≡ g *ℤ q)
quotient g z h = (int_div z g, sym (Divides-int_div g z h))

pub Divides-+ℤ : (g x y : ℤ) → Divides g x → Divides g y → Divides g (x +ℤ y)
Divides-+ℤ g x y h k =
    let (p, e) = quotient g x h in
    let (q, f) = quotient g y k in
    Divides-from_product g (p +ℤ q) (x +ℤ y) (omega (arith, linear, *ℤ-+ℤ g p q))

pub Divides-sub : (g x y : ℤ) → Divides g x → Divides g y → Divides g (x -ℤ y)
Divides-sub g x y h k = Divides-+ℤ g x (neg_ℤ y) h (Divides-neg_ℤ g y k)

pub Divides-*ℤ_right : (g x y : ℤ) → Divides g x → Divides g (x *ℤ y)
Divides-*ℤ_right g x y h = record { divides = rw unsigned_abs-mul (NatL.dvd-mul_right_of_dvd (unsigned_abs g) h.divides (unsigned_abs y)) }

pub Divides-*ℤ_left : (g x y : ℤ) → Divides g y → Divides g (x *ℤ y)
Divides-*ℤ_left g x y h = subst (Divides g) (*ℤ_comm y x) (Divides-*ℤ_right g y x h)

pub Divides-sum_to : (g : ℤ) (n : ℕ) (f : ℕ → ℤ) → ((k : ℕ) → k < n → Divides g (f k)) → Divides g (sum_to n f)
Divides-sum_to g zero f h = Divides-zero g
Divides-sum_to g (suc n) f h = Divides-+ℤ g (sum_to n f) (f n) (Divides-sum_to g n f (λ k b. h k (omega arith))) (h n (omega arith))

-- a factor of both sides
pub *ℤ-Divides : (c a b : ℤ) → Divides a b → Divides (c *ℤ a) (c *ℤ b)
*ℤ-Divides c a b h = record { divides = rw (unsigned_abs-mul c a, unsigned_abs-mul c b) (NatL.mul-dvd-mul_left (unsigned_abs a) (unsigned_abs c) h.divides) }

pub Divides_cancel : (c a b : ℤ) → pos 0 <ℤ c → Divides (c *ℤ a) (c *ℤ b) → Divides a b
Divides_cancel c a b p h =
    let above : 0 < unsigned_abs c = omega (arith, ints) in
    let both : unsigned_abs c * unsigned_abs a ∣ unsigned_abs c * unsigned_abs b = rw (unsigned_abs-mul c a, unsigned_abs-mul c b) at h.divides in
    record { divides = NatL.dvd_of_mul-dvd-mul_left (unsigned_abs a) above both }

-- a divisor of a positive number is at most that number
pub le_from_Divides : (g z : ℤ) → pos 0 <ℤ z → Divides g z → g ≤ℤ z
le_from_Divides g z p h =
    let above : 0 < unsigned_abs z = omega (arith, ints) in
    let most : unsigned_abs g ≤ unsigned_abs z = NatL.le_of_dvd above h.divides in
    omega (arith, ints)

-- two numbers at least 0 that divide each other are equal
pub same_from_Divides : (a b : ℤ) → pos 0 ≤ℤ a → pos 0 ≤ℤ b → Divides a b → Divides b a → a ≡ b
same_from_Divides a b p q h k =
    let e : unsigned_abs a ≡ unsigned_abs b = NatL.dvd_antisymm h.divides k.divides in
    omega (arith, ints)

-- what divides a positive number and is not negative is positive
pub positive_divisor : (b g : ℤ) → pos 0 <ℤ b → Divides g b → pos 0 ≤ℤ g → pos 0 <ℤ g
positive_divisor b g p h n =
    let above : 0 < unsigned_abs b = omega (arith, ints) in
    let size : 0 < unsigned_abs g = NatL.pos_of_dvd_of_pos h.divides above in
    omega (arith, ints)
