-- A lottery over sets of bidders whose stretches, and whose draws, are all so many times as many: each set has so many times as many.
use Rattle.std.proofs.Common.{◌≡◌, ℕ, zero, suc, ◌+◌, ◌*◌, ◌<◌, ◌≤◌, pos, ◌*ℤ◌, Bool, true, false, not, ◌&&◌, ◌||◌, if◌then◌else◌, List, refl, sym, ap, ap₂, ◌∙◌, subst, inl, inr, arith, leb, ltb}
use Rattle.std.specs.Bool.{beq}
use Rattle.std.proofs.Math.IntN.{pos-*ℤ-pos}
use Rattle.std.proofs.Math.Nat as NatL
use Rattle.std.proofs.lemmas.Bool.{cases_lt, and_parts, and_from, leb-true, ltb-true, le-leb, lt-ltb}
use lib.IntN.{*ℤ_comm}
use Rattle.md_math.specs.Lists.{list_to}
use Rattle.md_math.specs.Sums.{sum_to}
use Rattle.md_math.proofs.Builders.{length-list_to, list_to-same, get_or-list_to}
use Rattle.md_math.proofs.Order.{same_number}
use Rattle.md_math.proofs.SumLaws.{sum_to-same, sum_to-nested, sum_to-constant, sum_to-*ℤ}
use Rattle.md_flow.specs.Over.{any_below}
use Rattle.md_flow.proofs.AnyBelow.{any_below-place, any_below-true}
use Rattle.md_winners.specs.Sets.{holds, size}
use Rattle.md_winners.specs.Draws.{start_of, wins, are_winners, draws}
use Rattle.md_winners.proofs.SetLaws.{size-sum_to}
use Rattle.md_winners.proofs.Stretches.{picks_some}

-- ---- numbers and tests

-- a factor above 0 is left out
pub without : (a b k : ℕ) → 0 < k → a * k ≤ b * k → a ≤ b
without a b k p l = elim (cases_lt b a) [
  | inl more ↦ (let m : suc b * k ≤ a * k = NatL.mul-le-mul_right k more in let e : suc b * k ≡ b * k + k = omega arith in absurd (omega arith))
  | inr h ↦ h
]

pub same-without : (a b k : ℕ) → 0 < k → a * k ≡ b * k → a ≡ b
same-without a b k p e =
    let l : a ≤ b = without a b k p (omega (arith, e)) in
    let m : b ≤ a = without b a k p (omega (arith, e)) in
    omega (arith, l, m)

pub same-tests : (b c : Bool) → (b ≡ true → c ≡ true) → (c ≡ true → b ≡ true) → b ≡ c
same-tests true c to from = sym (to refl)
same-tests false true to from = from refl
same-tests false false to from = refl

any-same : (n : ℕ) (s t : ℕ → Bool) → ((i : ℕ) → i < n → s i ≡ t i) → any_below n s ≡ any_below n t
any-same zero s t h = refl
any-same (suc n) s t h = ap₂ (λ x y. x || y) (any-same n s t (λ i b. h i (omega (arith, b)))) (h n (omega arith))

-- ---- the same stretches

pub start-same : (x z : ℕ → ℕ) (n : ℕ) → ((i : ℕ) → i < n → x i ≡ z i) → start_of x n ≡ start_of z n
start-same x z zero h = refl
start-same x z (suc n) h = ap₂ (λ a b. a + b) (start-same x z n (λ i b. h i (omega (arith, b)))) (h n (omega arith))

wins-same : (whole : ℕ) (x z : ℕ → ℕ) (n d i : ℕ) → i < n → ((j : ℕ) → j < n → x j ≡ z j) → wins whole x d i ≡ wins whole z d i
wins-same whole x z n d i b h =
    ap₂ (picks_some whole d) (start-same x z i (λ j c. h j (omega (arith, b, c)))) (start-same x z (suc i) (λ j c. h j (omega (arith, b, c))))

are-same : (n : ℕ) (whole other : ℕ) (x z : ℕ → ℕ) (d e : ℕ) (set : List Bool) → ((i : ℕ) → i < n → wins whole x d i ≡ wins other z e i) → are_winners n whole x d set ≡ are_winners n other z e set
are-same n whole other x z d e set h = ap not (any-same n _ _ (λ i b. ap (λ w. not (beq w (holds set i))) (h i b)))

pub draws-same : (n whole : ℕ) (x z : ℕ → ℕ) (set : List Bool) → ((i : ℕ) → i < n → x i ≡ z i) → draws n whole x set ≡ draws n whole z set
draws-same n whole x z set h = ap size (list_to-same whole _ _ (λ d b. are-same n whole whole x z d d set (λ i c. wins-same whole x z n d i c h)))

-- ---- stretches that are so many times as long

pub start-scaled : (x : ℕ → ℕ) (k n : ℕ) → start_of (λ i. x i * k) n ≡ start_of x n * k
start-scaled x k zero = (let e : 0 ≡ 0 * k = omega arith in e)
start-scaled x k (suc n) = ap (λ s. s + x n * k) (start-scaled x k n) ∙ (let e : start_of x n * k + x n * k ≡ (start_of x n + x n) * k = omega arith in e)

-- a draw picks a number between two that are so many times as large where the draw of which it is one does
picks-scaled : (whole k d j start end : ℕ) → 0 < whole → j < k → picks_some (whole * k) (d * k + j) (start * k) (end * k) ≡ picks_some whole d start end
picks-scaled whole k d j start end some less = same-tests _ _ to from
  where
    test : ℕ → Bool
    test m = leb start (d + m * whole) && ltb (d + m * whole) end

    wide : ℕ → Bool
    wide m = leb (start * k) (d * k + j + m * (whole * k)) && ltb (d * k + j + m * (whole * k)) (end * k)

    at : (m : ℕ) → d * k + j + m * (whole * k) ≡ (d + m * whole) * k + j
    at m = omega arith

    to : any_below (end * k) wide ≡ true → any_below end test ≡ true
    to h =
        let (m, _, e) = any_below-place (end * k) wide h in
        let (f, g) = and_parts _ _ e in
        let q : ℕ = d + m * whole in
        let low : start * k ≤ q * k + j = subst (λ z. start * k ≤ z) (at m) (leb-true (start * k) (d * k + j + m * (whole * k)) f) in
        let high : q * k + j < end * k = subst (λ z. z < end * k) (at m) (ltb-true (d * k + j + m * (whole * k)) (end * k) g) in
        let first : start ≤ q = from_low q low in
        let last : q < end = from_high q high in
        let few : m * 1 ≤ m * whole = NatL.mul-le-mul_left m some in
        any_below-true end test m (omega (arith, last, few)) (and_from (leb start q) (ltb q end) (le-leb start q first) (lt-ltb q end last))
      where
        from_low : (q : ℕ) → start * k ≤ q * k + j → start ≤ q
        from_low q l = elim (cases_lt q start) [
          | inl more ↦ (let m : suc q * k ≤ start * k = NatL.mul-le-mul_right k more in let e : suc q * k ≡ q * k + k = omega arith in absurd (omega (arith, l, m, e, less)))
          | inr h ↦ h
        ]

        from_high : (q : ℕ) → q * k + j < end * k → q < end
        from_high q l = elim (cases_lt q end) [
          | inl h ↦ h
          | inr more ↦ (let m : end * k ≤ q * k = NatL.mul-le-mul_right k more in absurd (omega (arith, l, m)))
        ]

    from : any_below end test ≡ true → any_below (end * k) wide ≡ true
    from h =
        let (m, b, e) = any_below-place end test h in
        let (f, g) = and_parts _ _ e in
        let q : ℕ = d + m * whole in
        let first : start ≤ q = leb-true start q f in
        let last : suc q ≤ end = ltb-true q end g in
        let low : start * k ≤ q * k = NatL.mul-le-mul_right k first in
        let high : suc q * k ≤ end * k = NatL.mul-le-mul_right k last in
        let next : suc q * k ≡ q * k + k = omega arith in
        let most : end * 1 ≤ end * k = NatL.mul-le-mul_left end (some_times less) in
        let here : d * k + j + m * (whole * k) ≡ q * k + j = at m in
        any_below-true (end * k) wide m (omega (arith, b, most))
        (and_from _ _ (le-leb (start * k) (d * k + j + m * (whole * k)) (omega (arith, low, here))) (lt-ltb (d * k + j + m * (whole * k)) (end * k) (omega (arith, here, high, next, less))))
      where
        some_times : {i n : ℕ} → i < n → 1 ≤ n
        some_times l = omega (arith, l)

wins-scaled : (whole k : ℕ) (x : ℕ → ℕ) (d j i : ℕ) → 0 < whole → j < k → wins (whole * k) (λ i. x i * k) (d * k + j) i ≡ wins whole x d i
wins-scaled whole k x d j i some less =
    ap₂ (picks_some (whole * k) (d * k + j)) (start-scaled x k i) (start-scaled x k (suc i)) ∙ picks-scaled whole k d j (start_of x i) (start_of x (suc i)) some less

-- ---- how many draws a set has

pub size-list : (n : ℕ) (test : ℕ → Bool) → pos (size (list_to n test)) ≡ sum_to n (λ d. if test d then pos 1 else pos 0)
size-list n test =
    size-sum_to n (list_to n test) (length-list_to n test) ∙ sum_to-same n _ _ (λ d b. ap (λ t. if t then pos 1 else pos 0) (get_or-list_to n test d false b))

pub draws-scaled : (n whole k : ℕ) (x : ℕ → ℕ) (set : List Bool) → 0 < whole → draws n (whole * k) (λ i. x i * k) set ≡ draws n whole x set * k
draws-scaled n whole k x set some =
    same_number _ _
    (size-list (whole * k) wide
    ∙ sum_to-nested whole k (λ d. if wide d then pos 1 else pos 0)
    ∙ sum_to-same whole _ (λ d. pos k *ℤ (if test d then pos 1 else pos 0))
    (λ d b. sum_to-same k _ (λ _. if test d then pos 1 else pos 0) (λ j c. ap (λ t. if t then pos 1 else pos 0) (again d j c)) ∙ sum_to-constant k (if test d then pos 1 else pos 0))
    ∙ sum_to-*ℤ whole (pos k) (λ d. if test d then pos 1 else pos 0)
    ∙ ap (λ z. pos k *ℤ z) (sym (size-list whole test))
    ∙ *ℤ_comm (pos k) (pos (draws n whole x set))
    ∙ pos-*ℤ-pos (draws n whole x set) k)
  where
    test : ℕ → Bool
    test d = are_winners n whole x d set

    wide : ℕ → Bool
    wide d = are_winners n (whole * k) (λ i. x i * k) d set

    again : (d j : ℕ) → j < k → wide (d * k + j) ≡ test d
    again d j c = are-same n (whole * k) whole (λ i. x i * k) x (d * k + j) d set (λ i b. wins-scaled whole k x d j i some c)
