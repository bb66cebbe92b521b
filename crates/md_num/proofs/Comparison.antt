-- The order of two fractions of natural numbers, by their whole parts and remainders.
use Rattle.std.proofs.Common.{◌≡◌, ◌≢◌, ℕ, ◌+◌, ◌*◌, ◌/◌, ◌%◌, ◌<◌, ◌≤◌, ◌↔◌, ap, arith, inl, inr, mod-lt, mul-pos}
use Rattle.std.proofs.Math.Nat as NatL
use Rattle.std.proofs.lemmas.Bool.{cases_lt}

-- the fractions a / b and c / d are in the same order as two others, and their denominators are positive
pub record AreOrderedAs (num den other_num other_den a b c d : ℕ) : Type 0 where
  pub den_positive : 0 < b
  pub other_positive : 0 < d
  pub backward : a * d ≤ c * b → num * other_den ≤ other_num * den
  pub forward : num * other_den ≤ other_num * den → a * d ≤ c * b

parts : (a b : ℕ) → a ≡ b * (a / b) + a % b
parts a b = omega (arith, NatL.div-add-mod a b)

-- fractions of the same whole part are in the order of their remainders
remainders_up : (a b c d q r s : ℕ) → a ≡ b * q + r → c ≡ d * q + s → a * d ≤ c * b → r * d ≤ s * b
remainders_up a b c d q r s e f h = omega (arith, ap (λ x. x * d) e, ap (λ x. x * b) f, h)

remainders_down : (a b c d q r s : ℕ) → a ≡ b * q + r → c ≡ d * q + s → r * d ≤ s * b → a * d ≤ c * b
remainders_down a b c d q r s e f h = omega (arith, ap (λ x. x * d) e, ap (λ x. x * b) f, h)

other_parts : (a b c d : ℕ) → a / b ≡ c / d → c ≡ d * (a / b) + c % d
other_parts a b c d e = omega (arith, parts c d, ap (λ q. d * q) e)

pub remainders : (a b c d : ℕ) → a / b ≡ c / d → (a * d ≤ c * b) ↔ (a % b * d ≤ c % d * b)
remainders a b c d e = (
  remainders_up a b c d (a / b) (a % b) (c % d) (parts a b) (other_parts a b c d e),
  remainders_down a b c d (a / b) (a % b) (c % d) (parts a b) (other_parts a b c d e),
)

mul_more : (k m n : ℕ) → m < n → k * (m + 1) ≤ k * n
mul_more k m n h = NatL.mul-le-mul_left k (omega arith)

-- a smaller whole part
less : (a b c d : ℕ) → 0 < b → 0 < d → a / b < c / d → a * d ≤ c * b
less a b c d p q h =
    let small : a % b < b = mod-lt a p in
    let below : a ≤ b * (c / d) = omega (arith, parts a b, mul_more b (a / b) (c / d) h) in
    let first : a * d ≤ b * (c / d) * d = NatL.mul-le-mul_right d below in
    let second : d * (c / d) * b ≤ c * b = NatL.mul-le-mul_right b (omega (arith, parts c d)) in
    omega (arith, first, second)

greater : (a b c d : ℕ) → 0 < b → 0 < d → c / d < a / b → c * b < a * d
greater a b c d p q h =
    let small : c % d < d = mod-lt c q in
    let below : c < d * (a / b) = omega (arith, parts c d, mul_more d (c / d) (a / b) h) in
    let first : c * b < d * (a / b) * b = NatL.mul-lt-mul_of_pos_right below p in
    let second : b * (a / b) * d ≤ a * d = NatL.mul-le-mul_right d (omega (arith, parts a b)) in
    omega (arith, first, second)

pub by_whole_parts : (a b c d : ℕ) → 0 < b → 0 < d → a / b ≢ c / d → (a / b < c / d) ↔ (a * d ≤ c * b)
by_whole_parts a b c d p q ne = (less a b c d p q, back)
  where
    back : a * d ≤ c * b → a / b < c / d
    back h = elim (cases_lt (a / b) (c / d)) [
      | inl l ↦ l
      | inr l ↦ absurd (let g : c * b < a * d = greater a b c d p q (omega arith) in omega arith)
    ]

pub ordered : (num den other_num other_den : ℕ) → 0 < den → 0 < other_den → AreOrderedAs num den other_num other_den num den other_num other_den
ordered num den other_num other_den p q = record { den_positive = p; other_positive = q; backward = λ h. h; forward = λ h. h }

-- the remainders turned over
pub turned : (num den other_num other_den a b c d : ℕ) → AreOrderedAs num den other_num other_den a b c d → a / b ≡ c / d → 0 < a % b → 0 < c % d
    → AreOrderedAs num den other_num other_den d (c % d) b (a % b)
turned num den other_num other_den a b c d h e p q =
    let law = remainders a b c d e in
    record {
      den_positive = q;
      other_positive = p;
      backward = λ l. h.backward (law.1 (omega (arith, l)));
      forward = λ l. let m : a % b * d ≤ c % d * b = law.0 (h.forward l) in omega (arith, m);
    }

pub no_remainder : (num den other_num other_den a b c d : ℕ) → AreOrderedAs num den other_num other_den a b c d → a / b ≡ c / d → a % b ≡ 0
    → num * other_den ≤ other_num * den
no_remainder num den other_num other_den a b c d h e z =
    h.backward ((remainders a b c d e).1 (let none : a % b * d ≡ 0 = omega (arith, ap (λ x. x * d) z) in omega arith))

pub no_other_remainder : (num den other_num other_den a b c d : ℕ) → AreOrderedAs num den other_num other_den a b c d → a / b ≡ c / d → 0 < a % b → c % d ≡ 0
    → ¬ (num * other_den ≤ other_num * den)
no_other_remainder num den other_num other_den a b c d h e p z l =
    let m : a % b * d ≤ c % d * b = (remainders a b c d e).0 (h.forward l) in
    let none : c % d * b ≡ 0 = omega (arith, ap (λ x. x * b) z) in
    let some : 0 < a % b * d = mul-pos p h.other_positive in
    omega arith

pub other_whole_parts : (num den other_num other_den a b c d : ℕ) → AreOrderedAs num den other_num other_den a b c d → a / b ≢ c / d
    → (a / b < c / d) ↔ (num * other_den ≤ other_num * den)
other_whole_parts num den other_num other_den a b c d h ne =
    let law = by_whole_parts a b c d h.den_positive h.other_positive ne in
    (λ l. h.backward (law.0 l), λ l. law.1 (h.forward l))

-- the sizes fall
pub falls : (a b c d : ℕ) → 0 < b → 0 < d → c % d + a % b < b + d
falls a b c d p q =
    let first : a % b < b = mod-lt a p in
    let second : c % d < d = mod-lt c q in
    omega arith
