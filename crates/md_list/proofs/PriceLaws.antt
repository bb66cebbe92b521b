-- Payments by unit: each unit costs the least value with which it would still be had.
use Rattle.std.proofs.Common.{◌≡◌, ℕ, zero, suc, ◌+◌, ◌-◌, ◌<◌, ◌≤◌, Bool, true, false, nat_lt, if◌then◌else◌, ℤ, pos, ◌+ℤ◌, ◌-ℤ◌, ◌*ℤ◌, sym, ap, ap₂, ◌∙◌, inl, inr, arith}
use Rattle.std.proofs.lemmas.Bool.{cases_Bool, lt-ltb, le-ltb}
use Rattle.std.proofs.lemmas.Int.{ints}
use lib.IntN.{*ℤ_comm}
use Rattle.md_math.specs.Sums.{sum_to}
use Rattle.md_math.proofs.Ring.{linear}
use Rattle.md_math.proofs.SumLaws.{sum_to-same, sum_to-join, sum_to-constant}
use Rattle.md_list.specs.Rule.{first_to, pay_by}

-- ---- the first place at which a test holds

first-most : (n : ℕ) (test : ℕ → Bool) → first_to n test ≤ n
first-most zero test = omega arith
first-most (suc n) test = elim (cases_Bool (test (first_to n test))) [
  | inl e ↦ rw e (omega (arith, first-most n test))
  | inr e ↦ rw e (omega arith)
]

first-passes : (n : ℕ) (test : ℕ → Bool) → test n ≡ true → test (first_to n test) ≡ true
first-passes zero test h = h
first-passes (suc n) test h = elim (cases_Bool (test (first_to n test))) [
  | inl e ↦ ap (λ b. test (if b then first_to n test else suc n)) e ∙ e
  | inr e ↦ ap (λ b. test (if b then first_to n test else suc n)) e ∙ h
]

-- where the test holds at a bound, a greater bound changes nothing
first-same : (n : ℕ) (test : ℕ → Bool) → test n ≡ true → first_to (suc n) test ≡ first_to n test
first-same n test h = ap (λ b. if b then first_to n test else suc n) (first-passes n test h)

first-next : (n : ℕ) (test : ℕ → Bool) → ((x : ℕ) → x ≤ n → test x ≡ false) → first_to (suc n) test ≡ suc n
first-next n test h = ap (λ b. if b then first_to n test else suc n) (h (first_to n test) (first-most n test))

-- ---- payments

-- how many units are had with each of n values, no fewer with a higher one
module _ (n : ℕ) (v : ℕ → ℤ) (q : ℕ → ℕ) (rises : (j k : ℕ) → j ≤ k → k < n → q j ≤ q k) where
  abbrev least : ℕ → ℕ → ℤ
  least b unit = v (first_to b (λ x. nat_lt unit (q x)))

  -- the units that are had with a value already, and those that come with the next one
  old-units : (b : ℕ) → sum_to (q b) (least (suc b)) ≡ sum_to (q b) (least b)
  old-units b = sum_to-same (q b) (least (suc b)) (least b) (λ unit l. ap v (first-same b (λ x. nat_lt unit (q x)) (lt-ltb unit (q b) l)))

  new-units : (b more : ℕ) → suc b < n → sum_to more (λ j. least (suc b) (q b + j)) ≡ pos more *ℤ v (suc b)
  new-units b more h =
      sum_to-same more (λ j. least (suc b) (q b + j)) (λ _. v (suc b))
      (λ j c. ap v (first-next b (λ x. nat_lt (q b + j) (q x)) (λ x l. le-ltb (q b + j) (q x) (let most : q x ≤ q b = rises x b l (omega (arith, h)) in omega (arith, most)))))
      ∙ sum_to-constant more (v (suc b))

  pub pay-by_unit : (b : ℕ) → b < n → pay_by v (λ x. pos (q x)) b ≡ sum_to (q b) (least b)
  pay-by_unit zero h = first (v 0) (pos (q 0)) ∙ sym (sum_to-constant (q 0) (v 0))
    where
      first : (x y : ℤ) → pos 0 +ℤ x *ℤ y ≡ y *ℤ x
      first x y = omega (arith, linear, *ℤ_comm x y)
  pay-by_unit (suc b) h =
      let more = q (suc b) - q b in
      let grown : q (suc b) ≡ q b + more = (let up : q b ≤ q (suc b) = rises b (suc b) (omega arith) h in omega (arith, up)) in
      ap₂ (λ x y. x +ℤ v (suc b) *ℤ y) (pay-by_unit b (omega (arith, h))) (difference (q b) (q (suc b)) more grown)
      ∙ ap₂ (λ x y. x +ℤ y) (sym (old-units b)) (*ℤ_comm (v (suc b)) (pos more) ∙ sym (new-units b more h))
      ∙ sym (sum_to-join (q b) more (least (suc b)))
      ∙ ap (λ m. sum_to m (least (suc b))) (sym grown)
    where
      difference : (x y d : ℕ) → y ≡ x + d → pos y -ℤ pos x ≡ pos d
      difference x y d e = omega (arith, ints, e)
