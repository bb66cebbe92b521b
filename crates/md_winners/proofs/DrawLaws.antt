-- The lottery over sets of bidders: at each draw no more bidders win than there are units, each wins at as many draws as wanted,
-- and the numbers of draws of the sets say so.
use Rattle.std.proofs.Common.{◌≡◌, ℕ, zero, suc, ◌*◌, ◌<◌, ◌≤◌, ℤ, pos, ◌+ℤ◌, ◌*ℤ◌, ◌≤ℤ◌, Bool, true, false, not, if◌then◌else◌, List, length, refl, sym, ap, ap₂, subst, ◌∙◌, inl, inr, arith}
use Rattle.std.specs.Bool.{beq}
use Rattle.std.specs.Cmp.{booleans_Decides}
use Rattle.std.proofs.lemmas.Bool.{false≢true, not-true, not-false, not_from_false, false_from_ne_true}
use Rattle.std.proofs.lemmas.Int.{ints}
use lib.IntN.{*ℤ_comm}
use Rattle.md_math.specs.Lists.{list_to}
use Rattle.md_math.specs.Sums.{sum_to}
use Rattle.md_math.proofs.BoundedTests.{true_or_false}
use Rattle.md_math.proofs.Builders.{length-list_to, get_or-list_to, same_list_to}
use Rattle.md_math.proofs.Ring.{*ℤ-one, *ℤ-zero}
use Rattle.md_math.proofs.SumLaws.{sum_to-same, sum_to-swap, sum_to-join, sum_to-single, sum_to-constant, sum_to-*ℤ}
use Rattle.md_flow.specs.Over.{any_below}
use Rattle.md_flow.proofs.AnyBelow.{any_below-place, any_below-false}
use Rattle.md_winners.specs.Sets.{holds, size, set_count, set_at}
use Rattle.md_winners.specs.Draws.{start_of, wins, winners, are_winners, draws}
use Rattle.md_winners.proofs.SetLaws.{IsListed, length-set_at, size-sum_to, place_of, same_place}
use Rattle.md_winners.proofs.Stretches.{picks, picks_in, picks-one, picks-wholes, picks-le, picked-all}

-- ---- who wins at a draw

-- a bidder wins where the draw picks one number of its stretch, and no draw picks two
wins-picks : (whole : ℕ) (x : ℕ → ℕ) (draw i : ℕ) → draw < whole → x i ≤ whole → (if wins whole x draw i then pos 1 else pos 0) ≡ picks_in whole draw (start_of x i) (x i)
wins-picks whole x draw i h l = sym (picks-one whole draw (start_of x i) (x i) h l)

-- so the winners are as many as the numbers that it picks of all stretches
wins-all : (n whole : ℕ) (x : ℕ → ℕ) (draw : ℕ) → draw < whole → ((i : ℕ) → i < n → x i ≤ whole) → sum_to n (λ i. if wins whole x draw i then pos 1 else pos 0) ≡ sum_to (start_of x n) (picks whole draw)
wins-all zero whole x draw h l = refl
wins-all (suc n) whole x draw h l =
    ap₂ (λ y z. y +ℤ z) (wins-all n whole x draw h (λ i b. l i (omega arith))) (wins-picks whole x draw n h (l n (omega arith)))
    ∙ sym (sum_to-join (start_of x n) (x n) (picks whole draw))

-- a bidder wins at as many draws as its stretch is long
pub wins-draws : (whole : ℕ) (x : ℕ → ℕ) (i : ℕ) → 0 < whole → x i ≤ whole → sum_to whole (λ draw. if wins whole x draw i then pos 1 else pos 0) ≡ pos (x i)
wins-draws whole x i p l = sum_to-same whole _ (λ draw. picks_in whole draw (start_of x i) (x i)) (λ draw h. wins-picks whole x draw i h l) ∙ picked-all whole (start_of x i) (x i) p

-- ---- the set of the winners

pub length-winners : (n whole : ℕ) (x : ℕ → ℕ) (draw : ℕ) → length (winners n whole x draw) ≡ n
length-winners n whole x draw = length-list_to n (wins whole x draw)

pub holds-winners : (n whole : ℕ) (x : ℕ → ℕ) (draw i : ℕ) → i < n → holds (winners n whole x draw) i ≡ wins whole x draw i
holds-winners n whole x draw i b = get_or-list_to n (wins whole x draw) i false b

-- no more than there are units
pub size-winners : (n units whole : ℕ) (x : ℕ → ℕ) (draw : ℕ) → draw < whole → ((i : ℕ) → i < n → x i ≤ whole) → start_of x n ≤ units * whole → size (winners n whole x draw) ≤ units
size-winners n units whole x draw h l most =
    let all : pos (size (winners n whole x draw)) ≡ sum_to (start_of x n) (picks whole draw) =
    size-sum_to n (winners n whole x draw) (length-winners n whole x draw)
    ∙ sum_to-same n _ (λ i. if wins whole x draw i then pos 1 else pos 0) (λ i b. ap (λ t. if t then pos 1 else pos 0) (holds-winners n whole x draw i b))
    ∙ wins-all n whole x draw h l in
    let few : sum_to (start_of x n) (picks whole draw) ≤ℤ pos units = subst (λ z. sum_to (start_of x n) (picks whole draw) ≤ℤ z) (picks-wholes whole draw units h) (picks-le whole draw (start_of x n) (units * whole) most) in
    omega (arith, ints)

-- whether a bidder wins at a draw and is outside a set, or does not and is inside
abbrev differs : ℕ → (ℕ → ℕ) → ℕ → List Bool → ℕ → Bool
differs whole x draw set i = not (beq (wins whole x draw i) (holds set i))

-- the test for the winners knows their set
pub are_winners-same : (n whole : ℕ) (x : ℕ → ℕ) (draw : ℕ) (set : List Bool) → length set ≡ n → are_winners n whole x draw set ≡ true → set ≡ winners n whole x draw
are_winners-same n whole x draw set e h =
    same_list_to set n (wins whole x draw) false e
    (λ i b. sym ((booleans_Decides (wins whole x draw i) (holds set i)).0 (not-false (beq (wins whole x draw i) (holds set i)) (any_below-false n (differs whole x draw set) (not-true (any_below n (differs whole x draw set)) h) i b))))

pub are_winners-winners : (n whole : ℕ) (x : ℕ → ℕ) (draw : ℕ) → are_winners n whole x draw (winners n whole x draw) ≡ true
are_winners-winners n whole x draw = not_from_false (any_below n (differs whole x draw set)) (false_from_ne_true (any_below n (differs whole x draw set)) none)
  where
    set : List Bool
    set = winners n whole x draw

    none : any_below n (differs whole x draw set) ≡ true → ⊥
    none h =
        let (i, b, e) = any_below-place n (differs whole x draw set) h in
        let same : beq (wins whole x draw i) (holds set i) ≡ true = (booleans_Decides (wins whole x draw i) (holds set i)).1 (sym (holds-winners n whole x draw i b)) in
        false≢true (sym (not-true (beq (wins whole x draw i) (holds set i)) e) ∙ same)

-- ---- the draws of the sets

-- a set has a number as often as it has draws
draws-weigh : (n whole : ℕ) (x : ℕ → ℕ) (set : List Bool) (z : ℤ) → pos (draws n whole x set) *ℤ z ≡ sum_to whole (λ draw. if are_winners n whole x draw set then z else pos 0)
draws-weigh n whole x set z =
    ap (λ y. y *ℤ z)
    (size-sum_to whole (list_to whole test) (length-list_to whole test)
    ∙ sum_to-same whole _ (λ draw. if test draw then pos 1 else pos 0) (λ draw b. ap (λ t. if t then pos 1 else pos 0) (get_or-list_to whole test draw false b)))
    ∙ *ℤ_comm (sum_to whole (λ draw. if test draw then pos 1 else pos 0)) z
    ∙ sym (sum_to-*ℤ whole z (λ draw. if test draw then pos 1 else pos 0))
    ∙ sum_to-same whole _ _ (λ draw b. chosen (test draw))
  where
    test : ℕ → Bool
    test draw = are_winners n whole x draw set

    chosen : (t : Bool) → z *ℤ (if t then pos 1 else pos 0) ≡ (if t then z else pos 0)
    chosen true = *ℤ-one z
    chosen false = *ℤ-zero z

-- At each draw the winners are one of the sets, so that a sum over the sets by their draws is one over the draws.
pub sum-by_draws : (n units whole : ℕ) (x : ℕ → ℕ) (h : List Bool → ℤ) → ((i : ℕ) → i < n → x i ≤ whole) → start_of x n ≤ units * whole
    → sum_to (set_count n units) (λ o. pos (draws n whole x (set_at n units o)) *ℤ h (set_at n units o)) ≡ sum_to whole (λ draw. h (winners n whole x draw))
sum-by_draws n units whole x h l most =
    sum_to-same (set_count n units) _ (λ o. sum_to whole (λ draw. if are_winners n whole x draw (set_at n units o) then h (set_at n units o) else pos 0))
    (λ o b. draws-weigh n whole x (set_at n units o) (h (set_at n units o)))
    ∙ sum_to-swap (set_count n units) whole (λ o draw. if are_winners n whole x draw (set_at n units o) then h (set_at n units o) else pos 0)
    ∙ sum_to-same whole _ (λ draw. h (winners n whole x draw)) at
  where
    at : (draw : ℕ) → draw < whole → sum_to (set_count n units) (λ o. if are_winners n whole x draw (set_at n units o) then h (set_at n units o) else pos 0) ≡ h (winners n whole x draw)
    at draw b =
        let w : List Bool = winners n whole x draw in
        let p : IsListed n units w = place_of n units w (length-winners n whole x draw) (size-winners n units whole x draw b l most) in
        sum_to-single (set_count n units) p.place (λ o. if are_winners n whole x draw (set_at n units o) then h (set_at n units o) else pos 0) p.below
        (λ o c d. elim (true_or_false (are_winners n whole x draw (set_at n units o))) [
          | inl here ↦ absurd (d (same_place n units o p.place c p.below (are_winners-same n whole x draw (set_at n units o) (length-set_at n units o c) here ∙ sym p.is)))
          | inr other ↦ rw other refl
        ])
        ∙ ap (λ set. if are_winners n whole x draw set then h set else pos 0) p.is
        ∙ (rw (are_winners-winners n whole x draw) refl)

-- the draws of all sets are all draws
pub all-draws : (n units whole : ℕ) (x : ℕ → ℕ) → 0 < whole → ((i : ℕ) → i < n → x i ≤ whole) → start_of x n ≤ units * whole
    → sum_to (set_count n units) (λ o. pos (draws n whole x (set_at n units o))) ≡ pos whole
all-draws n units whole x p l most =
    sum_to-same (set_count n units) _ (λ o. pos (draws n whole x (set_at n units o)) *ℤ pos 1) (λ o b. sym (*ℤ-one (pos (draws n whole x (set_at n units o)))))
    ∙ sum-by_draws n units whole x (λ set. pos 1) l most
    ∙ sum_to-constant whole (pos 1)
    ∙ *ℤ-one (pos whole)

-- and those of the sets with a bidder are as many as it is to win at
pub draws-with : (n units whole : ℕ) (x : ℕ → ℕ) (i : ℕ) → 0 < whole → ((j : ℕ) → j < n → x j ≤ whole) → start_of x n ≤ units * whole → i < n
    → sum_to (set_count n units) (λ o. if holds (set_at n units o) i then pos (draws n whole x (set_at n units o)) else pos 0) ≡ pos (x i)
draws-with n units whole x i p l most b =
    sum_to-same (set_count n units) _ (λ o. pos (draws n whole x (set_at n units o)) *ℤ (if holds (set_at n units o) i then pos 1 else pos 0))
    (λ o c. chosen (holds (set_at n units o) i) (pos (draws n whole x (set_at n units o))))
    ∙ sum-by_draws n units whole x (λ set. if holds set i then pos 1 else pos 0) l most
    ∙ sum_to-same whole _ (λ draw. if wins whole x draw i then pos 1 else pos 0) (λ draw c. ap (λ t. if t then pos 1 else pos 0) (holds-winners n whole x draw i b))
    ∙ wins-draws whole x i p (l i b)
  where
    chosen : (t : Bool) (z : ℤ) → (if t then z else pos 0) ≡ z *ℤ (if t then pos 1 else pos 0)
    chosen true z = sym (*ℤ-one z)
    chosen false z = sym (*ℤ-zero z)
