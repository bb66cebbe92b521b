-- The greatest number that divides each of some weights is their greatest common divisor.
use Rattle.std.proofs.Common.{◌≡◌, ℕ, zero, suc, ◌*◌, ◌^◌, ◌%◌, ◌<◌, ◌≤◌, ℤ, pos, negsuc, ◌≤ℤ◌, unsigned_abs, Bool, true, false, ◌==◌, nat_le, List, [], ◌∷◌, map, length, slice_index, refl, sym, ap, subst, inl, inr, arith}
use Prim.Native.Nat.{◌∣◌}
use Rattle.std.proofs.Math.Nat as NatL
use lib.Dec.{T}
use lib.Signed.{mag, non_neg}
use Rattle.std.proofs.lemmas.Int.{ints}
use Rattle.std.proofs.lemmas.Bool.{cases_lt}
use Rattle.std.proofs.lemmas.Bool.Decides.{nat_tests}
use Rattle.std.proofs.lemmas.List.{length-map, get_or-map}
use Rattle.std.proofs.lemmas.List.Sums.{sum_by-cons}
use Rattle.std.proofs.lemmas.Nat.Gcd.{dvd_of_mod-eq-zero, mod-eq-zero_of_dvd}
use Rattle.md_math.specs.Divisors.{IsCommonDivisor, IsGcdOf, IsGcdOfTwo}
use Rattle.md_math.specs.Lists.{number_at}
use Rattle.md_math.proofs.Gcds.{size_of_gcd}
use Rattle.md_setting.specs.Auction.{total_weight}
use Rattle.md_setting.specs.GroupedRefusals.{divides_all, greatest_divisor, divisor_of, is_small_once_divided}
use Rattle.md_setting.proofs.TestLaws.{and_left, and_right, and_both}

-- d divides each of some weights
abbrev DividesAll : List ℕ → ℕ → Type 0
DividesAll weights d = (k : ℕ) → k < length weights → d ∣ slice_index weights k

zero_test : (n : ℕ) → (n == 0) ≡ true → n ≡ 0
zero_test n h = grind (arith, nat_tests)

test_zero : (n : ℕ) → n ≡ 0 → (n == 0) ≡ true
test_zero n h = grind (arith, nat_tests)

passed : (weights : List ℕ) (d : ℕ) → divides_all weights d ≡ true → DividesAll weights d
passed [] d h k l = absurd (omega arith)
passed (w ∷ ws) d h zero l = dvd_of_mod-eq-zero d (zero_test (w % d) (and_left _ _ h))
passed (w ∷ ws) d h (suc k) l = passed ws d (and_right (w % d == 0) _ h) k (omega arith)

passes : (weights : List ℕ) (d : ℕ) → DividesAll weights d → divides_all weights d ≡ true
passes [] d h = refl
passes (w ∷ ws) d h = and_both _ _ (test_zero (w % d) (mod-eq-zero_of_dvd d (h 0 (omega arith)))) (passes ws d (λ k l. h (suc k) (omega arith)))

-- it divides their sum
divides_total : (weights : List ℕ) (d : ℕ) → DividesAll weights d → d ∣ total_weight weights
divides_total [] d h = NatL.dvd-zero d
divides_total (w ∷ ws) d h =
    rw (sum_by-cons (λ (weight : ℕ). weight) w ws) (NatL.dvd-add d (h 0 (omega arith)) (divides_total ws d (λ k l. h (suc k) (omega arith))))

-- the search ends at the number above which none divides all
search_ends : (weights : List ℕ) (d limit : ℕ) → d ≤ limit → 0 < d → DividesAll weights d → ((e : ℕ) → DividesAll weights e → e ≤ d) → greatest_divisor weights limit ≡ d
search_ends weights d zero l p h most = absurd (omega arith)
search_ends weights d (suc limit) l p h most =
    elim (cases_lt d (suc limit)) [
      | inl below ↦ rw (fails (divides_all weights (suc limit)) (λ e. omega (arith, most (suc limit) (passed weights (suc limit) e), below))) (search_ends weights d limit (omega arith) p h most)
      | inr above ↦
          let here : suc limit ≡ d = omega arith in
          rw (passes weights (suc limit) (subst (DividesAll weights) (sym here) h)) here
    ]
  where
    fails : (b : Bool) → (b ≡ true → ⊥) → b ≡ false
    fails true f = absurd (f refl)
    fails false f = refl

-- what divides numbers divides their sizes
sizes_divided : (numbers : List ℤ) (d : ℕ) → IsCommonDivisor (length numbers) (number_at numbers) (pos d) → DividesAll (map unsigned_abs numbers) d
sizes_divided numbers d h k l =
    let inside : k < length numbers = omega (arith, l, length-map numbers unsigned_abs) in
    rw (get_or-map unsigned_abs numbers k (pos 0) 0 inside) (h.at k inside).divides

numbers_divided : (numbers : List ℤ) (d : ℕ) → DividesAll (map unsigned_abs numbers) d → IsCommonDivisor (length numbers) (number_at numbers) (pos d)
numbers_divided numbers d h = record {
  at = λ k inside. record {
    divides = subst (λ n. d ∣ n) (get_or-map unsigned_abs numbers k (pos 0) 0 inside) (h k (omega (arith, inside, length-map numbers unsigned_abs)));
  };
}

-- the greatest common divisor of numbers that are not all 0
pub divisor_is : (numbers : List ℤ) (d : ℕ) → IsGcdOf (length numbers) (number_at numbers) (pos d) → 0 < total_weight (map unsigned_abs numbers) → divisor_of (map unsigned_abs numbers) ≡ d
divisor_is numbers d h some =
    let weights = map unsigned_abs numbers in
    let all : DividesAll weights d = sizes_divided numbers d h.common in
    let total : d ∣ total_weight weights = divides_total weights d all in
    let most : d ≤ total_weight weights = NatL.le_of_dvd some total in
    let above : 0 < d = positive d (total_weight weights) total some in
    search_ends weights d (total_weight weights) most above all
    (λ e each. NatL.le_of_dvd above ((h.greatest (pos e) (numbers_divided numbers e each)).divides))
  where
    positive : (d n : ℕ) → d ∣ n → 0 < n → 0 < d
    positive zero n h p = absurd (let none : n ≡ 0 = NatL.eq-zero_of_zero-dvd h in omega arith)
    positive (suc d) n h p = omega arith

-- it has no more bits than both
divisor_fits : (d : ℕ) (number g : ℤ) → d < 2 ^ 64 → unsigned_abs number < 2 ^ 64 → IsGcdOfTwo (pos d) number g → unsigned_abs g < 2 ^ 64
divisor_fits d number g a b h =
    size_of_gcd d (unsigned_abs number) (unsigned_abs g) (2 ^ 64) a b
    (h.left.divides, h.right.divides, λ e p q. (h.greatest (pos e) (record { divides = p }) (record { divides = q })).divides)

none_most : (n : ℕ) → nat_le 0 n ≡ true
none_most n = grind (arith, nat_tests)

-- a number of 64 bits, and one that is not negative
short_size : (z : ℤ) → mag z < 2 ^ 63 → unsigned_abs z < 2 ^ 64
short_size (pos n) h = omega (arith, h)
short_size (negsuc n) h = omega (arith, h)

not_negative : (z : ℤ) → pos 0 ≤ℤ z → T (non_neg z)
not_negative (pos n) h = tt
not_negative (negsuc n) h = absurd (omega (arith, ints, h))

-- so that it fits as both
pub divisor_cast : (d : ℕ) (number g : ℤ) → d < 2 ^ 64 → mag number < 2 ^ 63 → IsGcdOfTwo (pos d) number g → T (non_neg g) × (unsigned_abs g < 2 ^ 64)
divisor_cast d number g a b h = (not_negative g h.nonneg, divisor_fits d number g a (short_size number b) h)

-- the test with any greatest common divisor
pub small_once_divided : (numbers : List ℤ) (d : ℕ) → IsGcdOf (length numbers) (number_at numbers) (pos d)
    → is_small_once_divided (map unsigned_abs numbers) ≡ nat_le (total_weight (map unsigned_abs numbers)) (d * 1000000)
small_once_divided numbers d h =
    elim (NatL.eq-zero-or-pos (total_weight (map unsigned_abs numbers))) [
      | inl none ↦ rw none (sym (none_most (d * 1000000)))
      | inr some ↦ rw (divisor_is numbers d h some) (ap (nat_le (total_weight (map unsigned_abs numbers))) (omega arith))
    ]
