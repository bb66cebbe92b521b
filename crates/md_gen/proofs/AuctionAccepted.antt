-- A generated auction is never refused.
use Rattle.std.proofs.Common.{◌≡◌, ℕ, ◌+◌, ◌^◌, ◌<◌, ◌≤◌, pos, ◌*ℤ◌, Bool, true, not, [], ◌∷◌, Option, None, Some, refl, ap, ap₂, ◌∙◌, arith, ◌==◌, if◌then◌else◌}
use Rattle.std.specs.Prelude.{int_lt}
use Rattle.std.proofs.lemmas.Int.{ints}
use Rattle.std.proofs.lemmas.Bool.Decides.{nat_tests}
use Rattle.std.proofs.Math.Nat.{pow-le-pow_left}
use Rattle.md_math.specs.Lists.{list_to}
use Rattle.md_math.proofs.Builders.{get_or-list_to}
use Rattle.md_math.proofs.Ring.{zero-*ℤ}
use Rattle.md_setting.specs.declared.refusal.BuildRefusal.{BuildRefusal}
use Rattle.md_setting.specs.declared.refusal.BuildRefusal.TheVariants.{Sizes, Shape, OutOfRange, ZeroWeight, WeightTotal, ValuesOrder, TooManyCounts}
use Rattle.md_setting.specs.Auction.{total_weight}
use Rattle.md_setting.specs.AuctionRefusals.{is_up_to, is_auction_in_range, is_ascending, has_few_counts, weight_refusal_of, auction_refusal_of}
use Rattle.md_setting.specs.Refusals.{is_small, is_weight}
use Rattle.md_setting.proofs.TestLaws.{all_below-all, and_both}
use Rattle.md_gen.specs.GeneratedAuction.{value_at, weight_at, values_of, weights_of, generated_auction}
use Rattle.md_gen.proofs.TestsPass.{le-passes, list-passes}
use Rattle.md_gen.proofs.DrawLaws.{value-more, step-small, weight-small, value-small}

-- ---- tests

up_to-passes : (limit n : ℕ) → n ≤ limit → is_up_to limit (pos n) ≡ true
up_to-passes limit n h = grind (arith, ints)

lt-passes : (m n : ℕ) → m < n → int_lt (pos m) (pos n) ≡ true
lt-passes m n h = grind (arith, ints)

positive-passes : (n : ℕ) → 1 ≤ n → not (n == 0) ≡ true
positive-passes n h = grind (arith, nat_tests)

-- ---- ranges

values-in : (number k : ℕ) → k < 6 → is_up_to 1000000 (pos (value_at number k)) ≡ true
values-in number k b = up_to-passes 1000000 (value_at number k) (omega (arith, value-small number k))

in_range : (number : ℕ) → is_auction_in_range (generated_auction number) ≡ true
unfolding values_of weights_of
in_range number =
    and_both _ _ (and_both _ _ (and_both _ _ (and_both _ _ (and_both _ _
    (list-passes (is_up_to 1000000) 6 (λ k. pos (value_at number k)) (values-in number))
    (list-passes is_weight 6 (λ k. pos (weight_at number k)) (λ k b. le-passes (weight_at number k) 1000000 (omega (arith, (weight-small number k).1)))))
    refl) refl) refl)
    (list-passes (λ value. is_small 10000000 (pos 0 *ℤ value)) 6 (λ k. pos (value_at number k)) (λ k b. ap (is_small 10000000) (zero-*ℤ (pos (value_at number k)))))

-- ---- weights

total-small : (a b c d e f : ℕ) → a ≤ 3 → b ≤ 3 → c ≤ 3 → d ≤ 3 → e ≤ 3 → f ≤ 3 → total_weight (a ∷ b ∷ c ∷ d ∷ e ∷ f ∷ []) ≤ 18
total-small a b c d e f p q r s t u = omega arith

few : (total : ℕ) → total ≤ 18 → has_few_counts total 4 6 ≡ true
few total h =
    let low : total ^ 4 ≤ 18 ^ 4 = pow-le-pow_left h 4 in
    and_both _ _ (le-passes (total ^ 4) (10 ^ 12) (omega (arith, low))) refl

ascends : (number : ℕ) → is_ascending (list_to 6 (λ k. pos (value_at number k))) ≡ true
ascends number = all_below-all 5 _ (λ k b. (
    let here = get_or-list_to 6 (λ k. pos (value_at number k)) k (pos 0) (omega arith) in
    let next = get_or-list_to 6 (λ k. pos (value_at number k)) (k + 1) (pos 0) (omega arith) in
    ap₂ int_lt here next ∙ lt-passes (value_at number k) (value_at number (k + 1)) (omega (arith, value-more number k, (step-small number (k + 1)).0))))

weights-pass : (a b c d : Bool) → a ≡ true → b ≡ true → c ≡ true → d ≡ true →
    (if not a then Some ZeroWeight else (if not b then Some WeightTotal else (if not c then Some ValuesOrder else (if not d then Some TooManyCounts else None)))) ≡ None
weights-pass a b c d e f g h = rw (e, f, g, h) refl

good_weights : (number : ℕ) → weight_refusal_of 4 (list_to 6 (λ k. pos (value_at number k))) (list_to 6 (weight_at number)) ≡ None
good_weights number =
    let w = λ (k : ℕ). (weight-small number k).1 in
    let total = total-small (weight_at number 0) (weight_at number 1) (weight_at number 2) (weight_at number 3) (weight_at number 4) (weight_at number 5) (w 0) (w 1) (w 2) (w 3) (w 4) (w 5) in
    weights-pass _ _ _ _
    (list-passes (λ weight. not (weight == 0)) 6 (weight_at number) (λ k b. positive-passes (weight_at number k) (weight-small number k).0))
    (le-passes _ 1000000 (omega (arith, total)))
    (ascends number)
    (few _ total)

numbers-pass : (a b c : Bool) (rest : Option BuildRefusal) → a ≡ true → b ≡ true → c ≡ true → rest ≡ None →
    (if not a then Some Sizes else (if not b then Some Shape else (if not c then Some OutOfRange else rest))) ≡ None
numbers-pass a b c rest e f g h = rw (e, f, g) h

pub auction-accepted : (number : ℕ) → auction_refusal_of (generated_auction number) ≡ None
unfolding values_of weights_of
auction-accepted number = numbers-pass _ _ _ _ refl refl (in_range number) (good_weights number)
