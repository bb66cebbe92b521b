-- Factors of 2: what is left of a number without them, and what they do to the greatest common divisor.
use Rattle.std.proofs.Common.{◌≡◌, ℕ, zero, suc, ◌+◌, ◌-◌, ◌*◌, ◌/◌, ◌%◌, ◌^◌, ◌<◌, ◌≤◌, min, pos, ◌*ℤ◌, ap, ◌∙◌, ap₂, sym, subst, inl, inr, arith}
use Prim.Native.Nat.{◌∣◌}
use Rattle.std.specs.Int.{IsGcd, bit_at, abs_diff, trailing_zeros}
use mir.Syntax.{w64}
use mir.Val.{bits}
use Rattle.std.proofs.lemmas.Int.{unsigned_abs-mul}
use Rattle.std.proofs.lemmas.Nat.{shr-shr, pow-add, pow_pos}
use Rattle.std.proofs.lemmas.Nat.Bits.{bit_at_lowest, bit_at-suc, bit_at-trailing_zeros}
use Rattle.std.proofs.lemmas.Nat.Gcd.{IsGcd-swap, IsGcd-from_sub}
use Rattle.std.proofs.lemmas.Bool.{cases_lt}
use Rattle.std.proofs.Math.Nat as NatL
use Rattle.md_math.specs.Divisors.{Divides}
use Rattle.md_math.proofs.Gcds.{IsGcdOfTwo-from_IsGcd, gcd_of_two, same_from_IsGcdOfTwo}

-- a number whose lowest bits are 0 is a multiple of a power of 2
pub multiple_from_bits : (k n : ℕ) → ((i : ℕ) → i < k → bit_at n i ≡ 0) → 2 ^ k * (n / 2 ^ k) ≡ n
multiple_from_bits zero n h = omega arith
multiple_from_bits (suc k) n h =
    let low : n % 2 ≡ 0 = sym (bit_at_lowest n) ∙ h 0 (omega arith) in
    let half : 2 ^ k * (n / 2 / 2 ^ k) ≡ n / 2 = multiple_from_bits k (n / 2) (λ i b. sym (bit_at-suc n i) ∙ h (suc i) (omega arith)) in
    joined (2 ^ k) (2 ^ suc k) (n / 2 / 2 ^ k) (n / 2 ^ suc k) n (NatL.pow-succ' 2 k) (shifted n k) low half
  where
    shifted : (n k : ℕ) → n / 2 / 2 ^ k ≡ n / 2 ^ suc k
    shifted n k = shr-shr n 1 k ∙ ap (λ j. n / 2 ^ j) (let e : 1 + k ≡ suc k = omega arith in e)

    joined : (p d x y n : ℕ) → d ≡ 2 * p → x ≡ y → n % 2 ≡ 0 → p * x ≡ n / 2 → d * y ≡ n
    joined p d x y n e f low half = rw (e, sym f) (omega (arith, low, half))

-- a number is a power of 2 times an odd number, which is its quotient
pub record HasOddQuotient (x k : ℕ) : Type 0 where
  pub odd : x / 2 ^ k % 2 ≡ 1
  pub value : 2 ^ k * (x / 2 ^ k) ≡ x

pub HasOddQuotient-self : (x : ℕ) → 0 < x → x < 2 ^ bits w64 → HasOddQuotient x (trailing_zeros w64 x)
HasOddQuotient-self x p q =
    let h = bit_at-trailing_zeros w64 x p q in
    record { odd = h.1; value = multiple_from_bits (trailing_zeros w64 x) x h.2 }

-- what is missing from a number to 2 ^ 64 has the same power of 2
HasOddQuotient-rest : (x y k : ℕ) → k < 64 → y + x ≡ 2 ^ 64 → HasOddQuotient x k → HasOddQuotient y k
HasOddQuotient-rest x y k b e h =
    let power : 2 ^ 64 ≡ 2 ^ k * 2 ^ (64 - k) = ap (λ n. 2 ^ n) (let s : 64 ≡ k + (64 - k) = omega arith in s) ∙ pow-add 2 k (64 - k) in
    let even : 2 ^ (64 - k) ≡ 2 * 2 ^ (63 - k) = ap (λ n. 2 ^ n) (let s : 64 - k ≡ suc (63 - k) = omega arith in s) ∙ NatL.pow-succ' 2 (63 - k) in
    let whole : 2 ^ k ∣ y + x = subst (λ n. 2 ^ k ∣ n) (sym (e ∙ power)) (NatL.dvd-mul_right (2 ^ k) (2 ^ (64 - k))) in
    let first : 2 ^ k ∣ x = subst (λ n. 2 ^ k ∣ n) h.value (NatL.dvd-mul_right (2 ^ k) (x / 2 ^ k)) in
    let other : 2 ^ k ∣ y = (NatL.dvd-add_iff_left (2 ^ k) first).1 whole in
    let value : 2 ^ k * (y / 2 ^ k) ≡ y = NatL.mul-div_cancel' (2 ^ k) other in
    record {
      odd = odd_rest (2 ^ k) (x / 2 ^ k) (y / 2 ^ k) (2 ^ (64 - k)) (2 ^ (63 - k)) (pow_pos k) even (ap₂ (λ m n. m + n) value h.value ∙ e ∙ power) h.odd;
      value = value;
    }
  where
    odd_rest : (p q r whole half : ℕ) → 0 < p → whole ≡ 2 * half → p * r + p * q ≡ p * whole → q % 2 ≡ 1 → r % 2 ≡ 1
    odd_rest p q r whole half above even e odd =
        let joined : p * (r + q) ≡ p * whole = omega (arith, e) in
        let sum : r + q ≡ whole = sym (NatL.mul-div_cancel_left (r + q) above) ∙ ap (λ n. n / p) joined ∙ NatL.mul-div_cancel_left whole above in
        omega (arith, even, sum, odd)

-- the distance of two numbers has the power of 2 of their difference in 64 bits
pub HasOddQuotient-gap : (a b d : ℕ) → a < 2 ^ 64 → b < 2 ^ 64 → d ≡ (a + (2 ^ 64 - b)) % 2 ^ 64 → 0 < d → d < 2 ^ bits w64 → HasOddQuotient (abs_diff a b) (trailing_zeros w64 d)
HasOddQuotient-gap a b d p q e some fits =
    elim (cases_lt a b) [
      | inl l ↦ HasOddQuotient-rest d (abs_diff a b) (trailing_zeros w64 d) ((bit_at-trailing_zeros w64 d some fits).0) (omega arith) (HasOddQuotient-self d some fits)
      | inr l ↦ (let same : d ≡ abs_diff a b = omega arith in subst (λ n. HasOddQuotient n (trailing_zeros w64 d)) same (HasOddQuotient-self d some fits))
    ]

-- ---- divisors

-- what divides an odd number is odd
odd-divisor : (d a : ℕ) → a % 2 ≡ 1 → d ∣ a → d % 2 ≡ 1
odd-divisor d a o h =
    elim (cases_lt (d % 2) 1) [
      | inl l ↦
          let two : 2 ∣ d = NatL.dvd_of_mod-eq-zero 2 (let e : d % 2 ≡ 0 = omega arith in e) in
          let even : a % 2 ≡ 0 = NatL.mod-eq-zero_of_dvd 2 (NatL.dvd_trans 2 two h) in
          absurd (omega arith)
      | inr l ↦ omega arith
    ]

-- an odd divisor of the double of a number divides that number
from_double : (d x : ℕ) → d % 2 ≡ 1 → d ∣ 2 * x → d ∣ x
from_double d x o h =
    let halves : d ≡ 2 * (d / 2) + 1 = omega arith in
    let parts : d * x ≡ d / 2 * (2 * x) + x = omega (arith, ap (λ k. k * x) halves) in
    let whole : d ∣ d / 2 * (2 * x) + x = subst (λ n. d ∣ n) parts (NatL.dvd-mul_right d x) in
    (NatL.dvd-add_iff_right d (NatL.dvd-mul_left_of_dvd d h (d / 2))).1 whole

-- the same of a power of 2
from_power : (d k x : ℕ) → d % 2 ≡ 1 → d ∣ 2 ^ k * x → d ∣ x
from_power d zero x o h = let e : 2 ^ 0 * x ≡ x = omega arith in subst (λ n. d ∣ n) e h
from_power d (suc k) x o h =
    let doubled : 2 ^ suc k ≡ 2 * 2 ^ k = NatL.pow-succ' 2 k in
    let e : 2 ^ suc k * x ≡ 2 * (2 ^ k * x) = omega (arith, ap (λ p. p * x) doubled) in
    from_power d k x o (from_double d (2 ^ k * x) o (subst (λ n. d ∣ n) e h))

-- ---- the greatest common divisor

-- factors of 2 of the second number, where the first one is odd
IsGcd-power : (a x g k : ℕ) → a % 2 ≡ 1 → IsGcd a x g → IsGcd a (2 ^ k * x) g
IsGcd-power a x g k o h = (h.0, NatL.dvd-mul_left_of_dvd g h.1 (2 ^ k), λ d p q. h.2 d p (from_power d k x (odd-divisor d a o p) q))

-- one step by a difference
IsGcd-difference : (a b g : ℕ) → IsGcd (min a b) (abs_diff b a) g → IsGcd a b g
IsGcd-difference a b g h =
    elim (cases_lt a b) [
      | inl l ↦
          let least : min a b ≡ a = omega arith in
          let gap : abs_diff b a ≡ b - a = omega arith in
          IsGcd-swap b a g (IsGcd-from_sub b a g (omega arith) (IsGcd-swap a (b - a) g (rw (least, gap) at h)))
      | inr l ↦
          let least : min a b ≡ b = omega arith in
          let gap : abs_diff b a ≡ a - b = omega arith in
          IsGcd-from_sub a b g l (IsGcd-swap b (a - b) g (rw (least, gap) at h))
    ]

-- the smaller of two odd numbers is odd
pub min-odd : (a b : ℕ) → a % 2 ≡ 1 → b % 2 ≡ 1 → min a b % 2 ≡ 1
min-odd a b o p =
    elim (cases_lt a b) [
      | inl l ↦ (let least : min a b ≡ a = omega arith in rw least o)
      | inr l ↦ (let least : min a b ≡ b = omega arith in rw least p)
    ]

-- the step of the loop
pub IsGcd-step : (a b rest g k : ℕ) → a % 2 ≡ 1 → b % 2 ≡ 1 → 2 ^ k * rest ≡ abs_diff b a → IsGcd (min a b) rest g → IsGcd a b g
IsGcd-step a b rest g k o p e h = IsGcd-difference a b g (subst (λ x. IsGcd (min a b) x g) e (IsGcd-power (min a b) rest g k (min-odd a b o p) h))

-- its end
pub IsGcd-end : (a b : ℕ) → a < 2 ^ 64 → b < 2 ^ 64 → (b + (2 ^ 64 - a)) % 2 ^ 64 ≡ 0 → IsGcd a b a
IsGcd-end a b p q e =
    let same : a ≡ b = omega arith in
    (NatL.dvd_refl a, subst (λ x. a ∣ x) same (NatL.dvd_refl a), λ d h k. h)

-- a common factor
IsGcd-scaled : (e a b g : ℕ) → IsGcd a b g → IsGcd (e * a) (e * b) (e * g)
IsGcd-scaled e a b g h =
    let (z, f) = gcd_of_two (pos a) (pos b) in
    let same : z ≡ pos g = same_from_IsGcdOfTwo (pos a) (pos b) z (pos g) f.is_gcd (IsGcdOfTwo-from_IsGcd (pos a) (pos b) g h) in (
      NatL.mul-dvd-mul_left g e h.0,
      NatL.mul-dvd-mul_left g e h.1,
      λ d p q.
          let grown : Divides (pos d) (pos e *ℤ z) = f.factor (pos d) (pos e) (times d e a p) (times d e b q) in
          let whole : Divides (pos d) (pos e *ℤ pos g) = subst (λ y. Divides (pos d) (pos e *ℤ y)) same grown in
          rw (unsigned_abs-mul (pos e) (pos g)) at whole.divides,
    )
  where
    times : (d e a : ℕ) → d ∣ e * a → Divides (pos d) (pos e *ℤ pos a)
    times d e a p = record { divides = rw (unsigned_abs-mul (pos e) (pos a)) p }

-- where the first number has no more factors of 2
shared-first : (i j a b g : ℕ) → i ≤ j → a % 2 ≡ 1 → IsGcd a b g → IsGcd (2 ^ i * a) (2 ^ j * b) (2 ^ i * g)
shared-first i j a b g l o h =
    let split : 2 ^ j ≡ 2 ^ i * 2 ^ (j - i) = ap (λ n. 2 ^ n) (let e : j ≡ i + (j - i) = omega arith in e) ∙ pow-add 2 i (j - i) in
    let e : 2 ^ i * (2 ^ (j - i) * b) ≡ 2 ^ j * b = omega (arith, ap (λ p. p * b) split) in
    subst (λ y. IsGcd (2 ^ i * a) y (2 ^ i * g)) e (IsGcd-scaled (2 ^ i) a (2 ^ (j - i) * b) g (IsGcd-power a b g (j - i) o h))

-- the factors of 2 that two numbers share
pub IsGcd-shared : (i j a b g : ℕ) → a % 2 ≡ 1 → b % 2 ≡ 1 → IsGcd a b g → IsGcd (2 ^ i * a) (2 ^ j * b) (2 ^ min i j * g)
IsGcd-shared i j a b g o p h =
    elim (cases_lt i j) [
      | inl l ↦ (let least : min i j ≡ i = omega arith in rw least (shared-first i j a b g (omega arith) o h))
      | inr l ↦ (let least : min i j ≡ j = omega arith in rw least (IsGcd-swap (2 ^ j * b) (2 ^ i * a) (2 ^ j * g) (shared-first j i b a g l p (IsGcd-swap a b g h))))
    ]
