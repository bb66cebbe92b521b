-- What a point that meets a reduced program with a cut for each value alone says of its odds and payments.
use Rattle.std.proofs.Common.{◌≡◌, ◌≢◌, ℕ, zero, suc, ◌+◌, ◌-◌, ◌*◌, ◌<◌, ◌≤◌, ◌^◌, true, false, ℤ, pos, ◌*ℤ◌, ◌≤ℤ◌, ◌<ℤ◌, if◌then◌else◌, List, [], ◌∷◌, ◌++◌, length, map, All, Some, refl, sym, ap, ◌∙◌, subst, arith, get_or, min, mul-pos}
use Rattle.std.specs.Prelude.{slice_get, slice_index}
use lib.IntN.{*ℤ_comm}
use Rattle.std.proofs.lemmas.Int.{ints}
use Rattle.std.proofs.lemmas.List.Elements.{All-head, All-tail}
use Rattle.std.proofs.lemmas.Nat.Bits.{bit_at-pow_same, bit_at-pow_other}
use Rattle.std.proofs.lemmas.Option.{none-some}
use Rattle.std.proofs.Math.IntN.{pos-*ℤ-pos}
use Rattle.std.proofs.Math.ListN.{replicate}
use Rattle.std.proofs.Math.Nat.{pow-zero, pow-le-pow_right}
use Rattle.md_math.specs.Lists.{number_at}
use Rattle.md_math.specs.Sets.{member}
use Rattle.md_math.specs.Sizes.{IsWithin, AllWithin}
use Rattle.md_math.specs.Sums.{total_by}
use Rattle.md_math.proofs.Builders.{All-right, length-list_to, get_or-list_to}
use Rattle.md_math.proofs.Order.{≤ℤ_trans, le_from_lt, *ℤ-le, le_from_*ℤ, positive_pos, same_number}
use Rattle.md_math.proofs.SizeLaws.{AllWithin-number_at, IsWithin-difference}
use Rattle.md_math.proofs.Ring.{*ℤ-one}
use Rattle.md_math.proofs.SumLaws.{sum_to-single}
use Rattle.md_math.proofs.TotalLaws.{total_by-le}
use Rattle.md_space.specs.ByType.{where_type}
use Rattle.md_space.specs.Profiles.{IsProfile}
use Rattle.md_space.proofs.TypeSums.{total_given-same}
use Rattle.md_setting.specs.Meaning.{sizes_of, weight_of}
use Rattle.md_setting.specs.Auction.{SymmetricAuction, value_count, total_weight}
use Rattle.md_setting.specs.AuctionShaped.{IsAuction}
use Rattle.md_setting.specs.CountLists.{count_lists}
use Rattle.md_setting.specs.General.{general_of}
use Rattle.md_setting.proofs.GeneralLaws.{sizes_of-general, marginal_of-general}
use Rattle.md_counts.specs.Counts.{AreCounts}
use Rattle.md_counts.specs.Weights.{value_lists, weight_of_counts}
use Rattle.md_counts.proofs.ListsOfValues.{All-count_lists}
use Rattle.md_counts.proofs.Regrouping.{weight_of_values, by_counts-given}
use Rattle.md_mech.specs.Accepted.{number_limit}
use Rattle.md_border.specs.Odds.{IsInterim, weight_given}
use Rattle.md_border.specs.Sets.{sum_in}
use Rattle.md_border.specs.Sides.{right_by_counts}
use Rattle.md_border.proofs.DemandLaws.{total-positive}
use Rattle.md_border.proofs.SetLaws.{pos-sum_in}
use Rattle.md_border.proofs.SideLaws.{over_values, profile-weight}
use Rattle.md_forms.specs.Forms.{Holds}
use Rattle.md_reduced.specs.declared.condition.ReducedCondition.{ReducedCondition}
use Rattle.md_reduced.specs.declared.condition.ReducedCondition.TheVariants.{Cut}
use Rattle.md_reduced.specs.Conditions.{truths, rationals}
use Rattle.md_reduced.specs.Points.{interim_in, MeetsReduced}
use Rattle.md_reduced.specs.ProgramOf.{column_count, form_of}
use Rattle.md_reduced.specs.Sides.{pay_in, demands_of}
use Rattle.md_reduced.proofs.BuiltLaws.{all-of, meets-conditions}

-- ---- sets of one value

single-here : (v : ℕ) → member (2 ^ v) v ≡ true
unfolding member
single-here v = rw (bit_at-pow_same v) refl

single-other : (v j : ℕ) → j ≢ v → member (2 ^ v) j ≡ false
unfolding member
single-other v j d = rw (bit_at-pow_other v j d) refl

pub single-weight : (v : ℕ) (numbers : List ℕ) → v < length numbers → sum_in (2 ^ v) numbers ≡ slice_index numbers v
single-weight v numbers h =
    same_number _ _
    (pos-sum_in (2 ^ v) numbers
    ∙ sum_to-single (length numbers) v (λ j. if member (2 ^ v) j then pos (slice_index numbers j) else pos 0) h (λ j b d. rw (single-other v j d) refl)
    ∙ rw (single-here v) refl)

pub single-demand : (a : SymmetricAuction) (x : ℕ → ℤ) (v : ℕ) → v < value_count a → demands_of a x (2 ^ v) ≡ pos (a.bidders * weight_given a v) *ℤ x v
single-demand a x v h =
    sum_to-single (value_count a) v (λ j. if member (2 ^ v) j then pos (a.bidders * weight_given a j) *ℤ x j else pos 0) h (λ j b d. rw (single-other v j d) refl)
    ∙ rw (single-here v) refl

-- ---- the cut of one value

-- the weight of the lists of values in which the first bidder has a value
given-first_bidder : (a : SymmetricAuction) (v : ℕ) → IsAuction a → v < value_count a → total_by (where_type 0 v (weight_of_values a.weights)) (value_lists a.bidders (value_count a)) ≡ pos (weight_given a v)
given-first_bidder a v shaped h =
    let sizes = sizes_of (general_of a) in
    sym (over_values a (where_type 0 v (weight_of_values a.weights)))
    ∙ sym (total_given-same sizes 0 v (weight_of (general_of a)) (weight_of_values a.weights) (λ t p e. profile-weight a t (subst (λ ns. IsProfile ns t) (sizes_of-general a) p)))
    ∙ marginal_of-general a (a.bidders - 1) 0 v shaped.one_each (less a.bidders shaped.some_bidder) shaped.some_bidder h
  where
    less : (n : ℕ) → 1 ≤ n → n ≡ suc (n - 1)
    less n l = omega (arith, l)

-- units can go to bidders with a value no more often than there are bidders with it
pub right-at_most : (a : SymmetricAuction) (units v : ℕ) → IsAuction a → v < value_count a → right_by_counts a units (2 ^ v) ≤ℤ pos (a.bidders * weight_given a v)
right-at_most a units v shaped h =
    subst (λ z. right_by_counts a units (2 ^ v) ≤ℤ z) all
    (total_by-le (λ counts. pos (weight_of_counts a.weights n counts) *ℤ pos (min units (sum_in (2 ^ v) counts)))
    (λ counts. (pos (weight_of_counts a.weights n counts) *ℤ pos (slice_index counts v)) *ℤ pos 1) lists
    (λ k d b. at (get_or lists k d) (All-count_lists n (value_count a) k d b)))
  where
    n : ℕ
    n = a.bidders

    lists : List (List ℕ)
    lists = count_lists n (value_count a)

    less : (w m k : ℕ) → m ≤ k → (pos w *ℤ pos m) ≤ℤ ((pos w *ℤ pos k) *ℤ pos 1)
    less w m k l = subst (λ z. (pos w *ℤ pos m) ≤ℤ z) (sym (*ℤ-one (pos w *ℤ pos k))) (*ℤ-le (pos w) (pos m) (pos k) (omega (arith, ints)) (omega (arith, ints, l)))

    at : (counts : List ℕ) → AreCounts n (value_count a) counts
        → (pos (weight_of_counts a.weights n counts) *ℤ pos (min units (sum_in (2 ^ v) counts))) ≤ℤ ((pos (weight_of_counts a.weights n counts) *ℤ pos (slice_index counts v)) *ℤ pos 1)
    at counts are =
        let one : sum_in (2 ^ v) counts ≡ slice_index counts v = single-weight v counts (omega (arith, h, are.one_each)) in
        less (weight_of_counts a.weights n counts) (min units (sum_in (2 ^ v) counts)) (slice_index counts v) (omega (arith, one))

    all : total_by (λ counts. (pos (weight_of_counts a.weights n counts) *ℤ pos (slice_index counts v)) *ℤ pos 1) lists ≡ pos (n * weight_given a v)
    all =
        sym (by_counts-given a.weights n (value_count a) 0 v (λ _. pos 1) shaped.some_bidder h)
        ∙ ap (λ z. pos n *ℤ z)
        (total_given-same (replicate n (value_count a)) 0 v (λ t. weight_of_values a.weights t *ℤ pos 1) (weight_of_values a.weights) (λ t p e. *ℤ-one (weight_of_values a.weights t))
        ∙ given-first_bidder a v shaped h)
        ∙ pos-*ℤ-pos n (weight_given a v)

-- the weight of all profiles of the others
pub others-positive : (a : SymmetricAuction) → IsAuction a → 0 < total_weight a.weights ^ (a.bidders - 1)
others-positive a shaped =
    let power : total_weight a.weights ^ 0 ≤ total_weight a.weights ^ (a.bidders - 1) = pow-le-pow_right {n = total_weight a.weights} (total-positive a shaped) {i = 0} {j = a.bidders - 1} (omega arith) in
    omega (arith, power, pow-zero (total_weight a.weights))

weight-positive : (a : SymmetricAuction) (v : ℕ) → IsAuction a → v < value_count a → 0 < a.bidders * weight_given a v
weight-positive a v shaped h =
    let some : 0 < a.bidders = omega (arith, shaped.some_bidder) in
    mul-pos some (mul-pos (shaped.weight v h).0 (others-positive a shaped))

pub all-get : {X : Type 0} (P : X → Type 0) (xs : List X) (k : ℕ) (x : X) → All P xs → slice_get xs k ≡ Some x → P x
all-get P [] k x h e = absurd (none-some x e)
all-get P (y ∷ ys) zero x h e = (let same : y ≡ x = cc in subst P same (All-head P y ys h))
all-get P (y ∷ ys) (suc k) x h e = all-get P ys k x (All-tail P y ys h) e

pub odds-at_most : (a : SymmetricAuction) (den : ℤ) (x : ℕ → ℤ) (v : ℕ) → IsAuction a → MeetsReduced a den x → v < value_count a → x v ≤ℤ den
odds-at_most a den x v shaped p h =
    let kinds = value_count a in
    let w = pos (a.bidders * weight_given a v) in
    let right = right_by_counts a p.units (2 ^ v) in
    let place = p.singles.single v h in
    let point = p.meets.point in
    let kept = (meets-conditions a p.units p.cuts p.program p.is_program den x point).0 p.meets in
    let holds = λ (c : ReducedCondition). Holds den x (form_of a p.units c) in
    let cuts : All holds (map Cut p.cuts) = All-right holds (rationals kinds) (map Cut p.cuts) (All-right holds (truths kinds) (rationals kinds ++ map Cut p.cuts) kept) in
    let cut : demands_of a x (2 ^ v) ≤ℤ (den *ℤ right) = all-get (λ s. holds (Cut s)) p.cuts place.place (2 ^ v) (all-of holds Cut p.cuts cuts) place.is in
    let asked : (w *ℤ x v) ≤ℤ (den *ℤ right) = subst (λ z. z ≤ℤ (den *ℤ right)) (single-demand a x v h) cut in
    let most : (den *ℤ right) ≤ℤ (w *ℤ den) = subst (λ z. (den *ℤ right) ≤ℤ z) (*ℤ_comm den w) (*ℤ-le den right w (le_from_lt (pos 0) den point.positive) (right-at_most a p.units v shaped h)) in
    le_from_*ℤ w (x v) den (positive_pos _ (weight-positive a v shaped h)) (≤ℤ_trans (w *ℤ x v) (den *ℤ right) (w *ℤ den) asked most)

-- ---- interim odds and payments

pub interim-fits : (a : SymmetricAuction) (den : ℤ) (point : List ℤ) → IsAuction a → MeetsReduced a den (number_at point) → AllWithin number_limit point → IsWithin number_limit den
    → IsInterim a (interim_in a den (number_at point))
interim-fits a den point shaped p sizes small =
    let kinds = value_count a in
    let x = number_at point in
    let nonneg : (j : ℕ) → j < column_count a → pos 0 ≤ℤ x j = λ j b. p.meets.point.nonneg j (omega (arith, b, p.is_program.columns)) in
    record {
      den_positive = above den p.meets.point.positive;
      den_size = below den small;
      one_odds = length-list_to kinds x;
      one_pay = length-list_to kinds (pay_in a x);
      odds = λ v b.
          subst (λ z. (pos 0 ≤ℤ z) × (z ≤ℤ den)) (sym (get_or-list_to kinds x v (pos 0) b))
          (nonneg v (omega (arith, b)), odds-at_most a den x v shaped p b);
      pay_size = record {
        at = λ v b.
            let inside : v < kinds = omega (arith, b, length-list_to kinds (pay_in a x)) in
            subst (IsWithin number_limit) (sym (get_or-list_to kinds (pay_in a x) v (pos 0) inside))
            (IsWithin-difference number_limit (x (kinds + v)) (x (2 * kinds + v)) (nonneg (kinds + v) (omega (arith, inside))) (nonneg (2 * kinds + v) (omega (arith, inside)))
            (AllWithin-number_at number_limit point (kinds + v) sizes) (AllWithin-number_at number_limit point (2 * kinds + v) sizes));
      };
    }
  where
    above : (d : ℤ) → pos 0 <ℤ d → pos 1 ≤ℤ d
    above d l = omega (arith, ints, l)

    below : (d : ℤ) → IsWithin number_limit d → d ≤ℤ pos number_limit
    below d w = omega (arith, ints, w.within)
