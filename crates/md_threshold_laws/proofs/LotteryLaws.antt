-- A lottery by draws gives each set of bidders as many draws as it wins at, and each bidder those at which it wins.
use Rattle.std.proofs.Common.{◌≡◌, ℕ, ◌<◌, ◌≤◌, ℤ, pos, ◌*ℤ◌, ◌≤ℤ◌, Bool, true, false, not, if◌then◌else◌, List, length, refl, sym, ap, ◌∙◌, inl, inr, arith}
use Rattle.std.specs.Bool.{beq}
use Rattle.std.specs.Cmp.{booleans_Decides}
use Rattle.std.proofs.lemmas.Bool.{false≢true, not-true, not-false, not_from_false, false_from_ne_true}
use Rattle.std.proofs.lemmas.Int.{ints}
use lib.IntN.{*ℤ_comm}
use Rattle.md_math.specs.Lists.{list_to}
use Rattle.md_math.specs.Sums.{sum_to}
use Rattle.md_math.proofs.BoundedTests.{true_or_false}
use Rattle.md_math.proofs.Builders.{length-list_to, get_or-list_to, same_list_to}
use Rattle.md_math.proofs.Ring.{*ℤ-one, *ℤ-zero}
use Rattle.md_math.proofs.SumLaws.{sum_to-same, sum_to-swap, sum_to-single, sum_to-constant, sum_to-*ℤ}
use Rattle.md_flow.specs.Over.{any_below}
use Rattle.md_flow.proofs.AnyBelow.{any_below-place, any_below-false}
use Rattle.md_winners.specs.Sets.{holds, size, set_count, set_at}
use Rattle.md_winners.proofs.SetLaws.{IsListed, length-set_at, size-sum_to, place_of, same_place}
use Rattle.md_threshold_laws.specs.Lotteries.{has_just, draws_of}

-- ---- the set of those who pass a test

abbrev differs : (ℕ → Bool) → List Bool → ℕ → Bool
differs test set i = not (beq (test i) (holds set i))

holds-list : (n : ℕ) (test : ℕ → Bool) (i : ℕ) → i < n → holds (list_to n test) i ≡ test i
holds-list n test i b = get_or-list_to n test i false b

just-same : (n : ℕ) (test : ℕ → Bool) (set : List Bool) → length set ≡ n → has_just n test set ≡ true → set ≡ list_to n test
just-same n test set e h =
    same_list_to set n test false e
    (λ i b. sym ((booleans_Decides (test i) (holds set i)).0 (not-false (beq (test i) (holds set i)) (any_below-false n (differs test set) (not-true (any_below n (differs test set)) h) i b))))

just-list : (n : ℕ) (test : ℕ → Bool) → has_just n test (list_to n test) ≡ true
just-list n test = not_from_false (any_below n (differs test (list_to n test))) (false_from_ne_true (any_below n (differs test (list_to n test))) none)
  where
    none : any_below n (differs test (list_to n test)) ≡ true → ⊥
    none h =
        let (i, b, e) = any_below-place n (differs test (list_to n test)) h in
        let same : beq (test i) (holds (list_to n test) i) ≡ true = (booleans_Decides (test i) (holds (list_to n test) i)).1 (sym (holds-list n test i b)) in
        false≢true (sym (not-true (beq (test i) (holds (list_to n test) i)) e) ∙ same)

-- as many as pass
pub size-list : (n : ℕ) (test : ℕ → Bool) → pos (size (list_to n test)) ≡ sum_to n (λ i. if test i then pos 1 else pos 0)
size-list n test =
    size-sum_to n (list_to n test) (length-list_to n test)
    ∙ sum_to-same n _ (λ i. if test i then pos 1 else pos 0) (λ i b. ap (λ t. if t then pos 1 else pos 0) (holds-list n test i b))

-- ---- the draws of the sets

module _ (n units draws : ℕ) (wins : ℕ → ℕ → Bool) (enough : (draw : ℕ) → draw < draws → sum_to n (λ i. if wins draw i then pos 1 else pos 0) ≤ℤ pos units) where
  -- a set has a number as often as it has draws
  draws-weigh : (set : List Bool) (z : ℤ) → pos (draws_of n draws wins set) *ℤ z ≡ sum_to draws (λ draw. if has_just n (wins draw) set then z else pos 0)
  draws-weigh set z =
      ap (λ y. y *ℤ z) (size-list draws test)
      ∙ *ℤ_comm (sum_to draws (λ draw. if test draw then pos 1 else pos 0)) z
      ∙ sym (sum_to-*ℤ draws z (λ draw. if test draw then pos 1 else pos 0))
      ∙ sum_to-same draws _ _ (λ draw b. chosen (test draw))
    where
      test : ℕ → Bool
      test draw = has_just n (wins draw) set

      chosen : (t : Bool) → z *ℤ (if t then pos 1 else pos 0) ≡ (if t then z else pos 0)
      chosen true = *ℤ-one z
      chosen false = *ℤ-zero z

  few : (draw : ℕ) → draw < draws → size (list_to n (wins draw)) ≤ units
  few draw b = (let all = size-list n (wins draw) in let most = enough draw b in omega (arith, ints, all, most))

  -- at each draw the winners are one of the sets, so that a sum over the sets by their draws is one over the draws
  sum-by_draws : (h : List Bool → ℤ) → sum_to (set_count n units) (λ o. pos (draws_of n draws wins (set_at n units o)) *ℤ h (set_at n units o)) ≡ sum_to draws (λ draw. h (list_to n (wins draw)))
  sum-by_draws h =
      sum_to-same (set_count n units) _ (λ o. sum_to draws (λ draw. if has_just n (wins draw) (set_at n units o) then h (set_at n units o) else pos 0))
      (λ o b. draws-weigh (set_at n units o) (h (set_at n units o)))
      ∙ sum_to-swap (set_count n units) draws (λ o draw. if has_just n (wins draw) (set_at n units o) then h (set_at n units o) else pos 0)
      ∙ sum_to-same draws _ (λ draw. h (list_to n (wins draw))) at
    where
      at : (draw : ℕ) → draw < draws → sum_to (set_count n units) (λ o. if has_just n (wins draw) (set_at n units o) then h (set_at n units o) else pos 0) ≡ h (list_to n (wins draw))
      at draw b =
          let w : List Bool = list_to n (wins draw) in
          let p : IsListed n units w = place_of n units w (length-list_to n (wins draw)) (few draw b) in
          sum_to-single (set_count n units) p.place (λ o. if has_just n (wins draw) (set_at n units o) then h (set_at n units o) else pos 0) p.below
          (λ o c d. elim (true_or_false (has_just n (wins draw) (set_at n units o))) [
            | inl here ↦ absurd (d (same_place n units o p.place c p.below (just-same n (wins draw) (set_at n units o) (length-set_at n units o c) here ∙ sym p.is)))
            | inr other ↦ rw other refl
          ])
          ∙ ap (λ set. if has_just n (wins draw) set then h set else pos 0) p.is
          ∙ (rw (just-list n (wins draw)) refl)

  -- the draws of all sets are all draws
  pub draws-all : sum_to (set_count n units) (λ o. pos (draws_of n draws wins (set_at n units o))) ≡ pos draws
  draws-all =
      sum_to-same (set_count n units) _ (λ o. pos (draws_of n draws wins (set_at n units o)) *ℤ pos 1) (λ o b. sym (*ℤ-one (pos (draws_of n draws wins (set_at n units o)))))
      ∙ sum-by_draws (λ set. pos 1)
      ∙ sum_to-constant draws (pos 1)
      ∙ *ℤ-one (pos draws)

  -- and those of the sets with a bidder are those at which it wins
  pub draws-with : (i : ℕ) → i < n → sum_to (set_count n units) (λ o. if holds (set_at n units o) i then pos (draws_of n draws wins (set_at n units o)) else pos 0) ≡ sum_to draws (λ draw. if wins draw i then pos 1 else pos 0)
  draws-with i b =
      sum_to-same (set_count n units) _ (λ o. pos (draws_of n draws wins (set_at n units o)) *ℤ (if holds (set_at n units o) i then pos 1 else pos 0))
      (λ o c. chosen (holds (set_at n units o) i) (pos (draws_of n draws wins (set_at n units o))))
      ∙ sum-by_draws (λ set. if holds set i then pos 1 else pos 0)
      ∙ sum_to-same draws _ (λ draw. if wins draw i then pos 1 else pos 0) (λ draw c. ap (λ t. if t then pos 1 else pos 0) (holds-list n (wins draw) i b))
    where
      chosen : (t : Bool) (z : ℤ) → (if t then z else pos 0) ≡ z *ℤ (if t then pos 1 else pos 0)
      chosen true z = sym (*ℤ-one z)
      chosen false z = sym (*ℤ-zero z)
