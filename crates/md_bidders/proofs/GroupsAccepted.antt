-- An auction within its limits is within those of auctions with groups of bidders.
use Rattle.std.proofs.Common.{◌≡◌, ◌≢◌, ℕ, zero, suc, ◌+◌, ◌-◌, ◌*◌, ◌<◌, ◌≤◌, ℤ, pos, negsuc, ◌≤ℤ◌, ◌<ℤ◌, ◌*ℤ◌, unsigned_abs, Bool, true, false, not, List, [], ◌∷◌, map, length, replicate, None, Some, refl, sym, ap, ap₂, ◌∙◌, subst, arith, slice_index, slice_index_or, nat_le, ◌==◌, if◌then◌else◌}
use Rattle.std.specs.Prelude.{int_le, int_lt}
use Rattle.std.specs.List.{list_all}
use Rattle.std.proofs.lemmas.Int.{ints}
use Rattle.std.proofs.lemmas.Bool.Decides.{nat_tests}
use Rattle.std.proofs.lemmas.List.{length-map, get_or-map}
use Rattle.md_math.specs.Lists.{number_at}
use Rattle.md_math.specs.Sizes.{IsWithin}
use Rattle.md_setting.specs.declared.refusal.BuildRefusal.{BuildRefusal}
use Rattle.md_setting.specs.declared.refusal.BuildRefusal.TheVariants as refusals
use Rattle.md_setting.specs.Auction.{SymmetricAuction, total_weight}
use Rattle.md_setting.specs.AuctionShaped.{IsAuction}
use Rattle.md_setting.specs.AuctionRefusals.{is_up_to, are_positive, is_ascending}
use Rattle.md_setting.specs.Refusals.{is_small, is_weight}
use Rattle.md_setting.specs.Grouped.{WrittenGroup, WrittenGroupedAuction, group_as_written, grouped_as_written, grouped_of}
use Rattle.md_setting.specs.GroupedRefusals.{is_from_to, has_good_group_names, has_own_group_names, has_group_sizes, has_grouped_sizes, has_grouped_shape, is_group_in_range, is_grouped_in_range, has_positive_weights, has_small_totals, has_ascending_values, are_falling, divides_all, greatest_divisor, divisor_of, is_small_once_divided, grouped_refusal_of, HasGroupedNumbers}
use Rattle.md_setting.proofs.GroupedLaws.{none_refused}
use Rattle.md_setting.proofs.TestLaws.{and_both, all_below-all}
use Rattle.md_bidders.specs.AsGroups.{as_groups, one_group}

-- ---- tests pass

le-passes : (m n : ℕ) → m ≤ n → nat_le m n ≡ true
le-passes m n h = grind (arith, nat_tests)

int_le-passes : (a b : ℤ) → a ≤ℤ b → int_le a b ≡ true
int_le-passes a b h = grind (arith, ints)

int_lt-passes : (a b : ℤ) → a <ℤ b → int_lt a b ≡ true
int_lt-passes a b h = grind (arith, ints)

positive-passes : (n : ℕ) → 0 < n → not (n == 0) ≡ true
positive-passes n h = grind (arith, nat_tests)

up_to-passes : (z : ℤ) → pos 0 ≤ℤ z → z ≤ℤ pos 1000 → is_up_to 1000 z ≡ true
up_to-passes z a b = and_both _ _ (int_le-passes (pos 0) z a) (int_le-passes z (pos 1000) b)

small-passes : (limit : ℕ) (z : ℤ) → IsWithin limit z → is_small limit z ≡ true
small-passes limit z h = le-passes (unsigned_abs z) limit h.within

up_to-small : (z : ℤ) → pos 0 ≤ℤ z → z ≤ℤ pos 1000000 → is_small 1000000 z ≡ true
up_to-small (pos n) a b = le-passes n 1000000 (omega (arith, ints, b))
up_to-small (negsuc n) a b = absurd (omega (arith, ints, a))

-- a test of all elements passes where it passes at each place
all-at : {X : Type 0} → (p : X → Bool) (xs : List X) (d : X) → ((k : ℕ) → k < length xs → p (slice_index_or xs k d) ≡ true) → list_all p xs ≡ true
all-at p [] d h = refl
all-at p (x ∷ xs) d h = and_both (p x) (list_all p xs) (h 0 (omega arith)) (all-at p xs d (λ k b. h (suc k) (omega (arith, b))))

-- ---- the one group

written_weight : (a : SymmetricAuction) (k : ℕ) → k < length a.weights → slice_index_or (map (λ n. pos n) a.weights) k (pos 0) ≡ pos (slice_index a.weights k)
written_weight a k b = get_or-map (λ n. pos n) a.weights k 0 (pos 0) b

divisor-positive : (weights : List ℕ) (limit : ℕ) → 1 ≤ greatest_divisor weights limit
divisor-positive weights zero = omega arith
divisor-positive weights (suc d) = if-positive (divides_all weights (suc d)) (suc d) (greatest_divisor weights d) (omega arith) (divisor-positive weights d)
  where
    if-positive : (c : Bool) (m n : ℕ) → 1 ≤ m → 1 ≤ n → 1 ≤ (if c then m else n)
    if-positive true m n h g = h
    if-positive false m n h g = g

said_weights : (weights : List ℕ) → map unsigned_abs (map (λ n. pos n) weights) ≡ weights
said_weights [] = refl
said_weights (w ∷ weights) = ap (λ z. w ∷ z) (said_weights weights)

module _ (a : SymmetricAuction) (is : IsAuction a) where
  abbrev group : WrittenGroup
  group = group_as_written (one_group a)

  values-small : list_all (is_small 1000000) a.values ≡ true
  values-small = all-at (is_small 1000000) a.values (pos 0) (λ k b. up_to-small (number_at a.values k) (is.value k b).0 (is.value k b).1)

  weights-small : list_all is_weight (map (λ n. pos n) a.weights) ≡ true
  weights-small =
      all-at is_weight (map (λ n. pos n) a.weights) (pos 0)
      (λ k b.
      let c : k < length a.weights = subst (λ n. k < n) (length-map a.weights (λ n. pos n)) b in
      ap is_weight (written_weight a k c) ∙ le-passes (slice_index a.weights k) 1000000 (is.weight k (subst (λ n. k < n) is.one_each c)).1)

  gains-small : list_all (λ value. is_small 10000000 (a.welfare *ℤ value)) a.values ≡ true
  gains-small = all-at (λ value. is_small 10000000 (a.welfare *ℤ value)) a.values (pos 0) (λ k b. small-passes 10000000 (a.welfare *ℤ number_at a.values k) (is.gain k b))

  in-range : is_group_in_range a.welfare group ≡ true
  in-range = and_both _ _ (and_both _ _ (and_both _ _ values-small weights-small) refl) gains-small

  sizes : has_group_sizes group ≡ true
  sizes =
      and_both _ _
      (and_both _ _
      (and_both _ _ (int_le-passes (pos 1) (pos a.bidders) (omega (arith, ints, is.some_bidder))) (int_le-passes (pos a.bidders) (pos 1000) (omega (arith, ints, is.few_bidders))))
      (le-passes 1 (length a.values) is.some_value))
      (le-passes (length a.values) 64 (omega (arith, is.few_values)))

  shape : (length (map (λ n. pos n) a.weights) == length a.values) ≡ true
  shape = grind (arith, nat_tests, length-map a.weights (λ n. pos n), is.one_each)

  positive : are_positive (map unsigned_abs (map (λ n. pos n) a.weights)) ≡ true
  positive =
      subst (λ weights. are_positive weights ≡ true) (sym (said_weights a.weights))
      (all-at (λ weight. not (weight == 0)) a.weights 0 (λ k b. positive-passes (slice_index a.weights k) (is.weight k (subst (λ n. k < n) is.one_each b)).0))

  ascends : is_ascending a.values ≡ true
  ascends = all_below-all (length a.values - 1) _ (λ k b. int_lt-passes (number_at a.values k) (number_at a.values (k + 1)) (is.ascending k (omega (arith, b))))

-- ---- slots of the amount 1

ones-long : (units : ℕ) → length (map (λ n. pos n) (replicate units 1)) ≡ units
ones-long zero = refl
ones-long (suc units) = ap suc (ones-long units)

ones-in : (units : ℕ) → list_all (is_from_to (pos 1) (pos 1000)) (map (λ n. pos n) (replicate units 1)) ≡ true
ones-in zero = refl
ones-in (suc units) = ones-in units

one-at : (units h : ℕ) → h < units → slice_index_or (map (λ n. pos n) (replicate units 1)) h (pos 0) ≡ pos 1
one-at zero h b = absurd (omega (arith, b))
one-at (suc units) zero b = refl
one-at (suc units) (suc h) b = one-at units h (omega (arith, b))

ones-fall : (units : ℕ) → are_falling (map (λ n. pos n) (replicate units 1)) ≡ true
ones-fall units =
    all_below-all (length (map (λ n. pos n) (replicate units 1)) - 1) _
    (λ h b.
    let inside : h + 1 < units = omega (arith, b, ones-long units) in
    ap₂ int_le (one-at units (h + 1) inside) (one-at units h (omega (arith, inside))))

-- ---- what is written says it

pub said-back : (a : SymmetricAuction) (units : ℕ) → grouped_of (grouped_as_written (as_groups a units)) ≡ as_groups a units
said-back a units =
    ap₂ (λ slots weights. record (as_groups a units) { slots = slots; groups = record (one_group a) { weights = weights } ∷ [] }) (said_weights (replicate units 1)) (said_weights a.weights)

-- ---- the auction

module _ (a : SymmetricAuction) (is : IsAuction a) (units : ℕ) (some : 1 ≤ units) (few : units ≤ 12) where
  abbrev whole : WrittenGroupedAuction
  whole = grouped_as_written (as_groups a units)

  all-sizes : has_grouped_sizes whole ≡ true
  unfolding has_grouped_sizes
  all-sizes =
      and_both _ _
      (and_both _ _
      (and_both _ _ (and_both _ _ refl (and_both _ _ (sizes a is) refl)) (le-passes (0 + a.bidders) 1000 (omega (arith, is.few_bidders))))
      (le-passes 1 (length whole.slots) (omega (arith, some, ones-long units))))
      (le-passes (length whole.slots) 1000 (omega (arith, few, ones-long units)))

  all-in-range : is_grouped_in_range whole ≡ true
  unfolding is_grouped_in_range
  all-in-range =
      and_both _ _
      (and_both _ _
      (and_both _ _ (and_both _ _ (ones-in units) (up_to-passes a.revenue is.revenue.0 is.revenue.1)) (small-passes 1000 a.welfare is.welfare))
      (small-passes 1000000 a.keep is.keep))
      (and_both _ _ (in-range a is) refl)

  numbers : HasGroupedNumbers whole
  unfolding has_good_group_names has_own_group_names has_grouped_shape
  numbers = record {
    names = refl;
    own_names = refl;
    sizes = all-sizes;
    shape = and_both _ _ (shape a is) refl;
    range = all-in-range;
  }

  small-total : has_small_totals whole ≡ true
  unfolding has_small_totals
  small-total =
      and_both _ _
      (subst (λ weights. is_small_once_divided weights ≡ true) (sym (said_weights a.weights))
      (le-passes (total_weight a.weights) (1000000 * divisor_of a.weights) (omega (arith, is.total, divisor-positive a.weights (total_weight a.weights)))))
      refl

  all-positive : has_positive_weights whole ≡ true
  unfolding has_positive_weights
  all-positive = and_both _ _ (positive a is) refl

  ascending : has_ascending_values whole ≡ true
  unfolding has_ascending_values
  ascending = and_both _ _ (ascends a is) refl

  -- it is not refused
  pub groups-accepted : grouped_refusal_of whole ≡ None
  groups-accepted = none_refused whole numbers all-positive small-total ascending (ones-fall units)

-- what is not refused fails for want of memory alone
pub only_memory : (w : WrittenGroupedAuction) (e : BuildRefusal) → grouped_refusal_of w ≡ None → (e ≢ refusals.Memory → grouped_refusal_of w ≡ Some e) → e ≡ refusals.Memory
only_memory w refusals.Memory n h = refl
only_memory w refusals.BadName n h = absurd (cc (sym (h (λ q. cc q)) ∙ n))
only_memory w refusals.DoubleName n h = absurd (cc (sym (h (λ q. cc q)) ∙ n))
only_memory w refusals.Sizes n h = absurd (cc (sym (h (λ q. cc q)) ∙ n))
only_memory w refusals.Shape n h = absurd (cc (sym (h (λ q. cc q)) ∙ n))
only_memory w refusals.OutOfRange n h = absurd (cc (sym (h (λ q. cc q)) ∙ n))
only_memory w refusals.ZeroWeight n h = absurd (cc (sym (h (λ q. cc q)) ∙ n))
only_memory w refusals.WeightTotal n h = absurd (cc (sym (h (λ q. cc q)) ∙ n))
only_memory w refusals.ValuesOrder n h = absurd (cc (sym (h (λ q. cc q)) ∙ n))
only_memory w refusals.SlotsOrder n h = absurd (cc (sym (h (λ q. cc q)) ∙ n))
only_memory w refusals.TooManyRows n h = absurd (cc (sym (h (λ q. cc q)) ∙ n))
only_memory w refusals.TooManyCounts n h = absurd (cc (sym (h (λ q. cc q)) ∙ n))
