-- What the tests of an auction say of it.
use Rattle.std.proofs.Common.{◌≡◌, ℕ, ◌+◌, ◌-◌, ◌<◌, ◌≤◌, ◌^◌, ℤ, pos, negsuc, ◌≤ℤ◌, ◌<ℤ◌, ◌*ℤ◌, unsigned_abs, Bool, true, false, not, List, [], ◌∷◌, map, length, get_or, None, Some, All, refl, sym, ap, ◌∙◌, subst, arith, slice_index, slice_index_or, nat_le, ◌==◌, if◌then◌else◌}
use Rattle.std.specs.Prelude.{int_le, int_lt}
use Rattle.std.specs.List.{list_all}
use Rattle.std.proofs.lemmas.Int.{ints}
use lib.Dec.{T}
use lib.Signed.{non_neg}
use Rattle.std.proofs.lemmas.Bool.Decides.{nat_tests}
use Rattle.std.proofs.lemmas.List.{length-map, get_or-map}
use Rattle.std.proofs.lemmas.List.Sums.{sum_by-cons}
use Rattle.std.proofs.lemmas.List.Elements.{All-nil, All-cons}
use Rattle.md_setting.specs.declared.refusal.BuildRefusal.{BuildRefusal}
use Rattle.md_setting.specs.declared.refusal.BuildRefusal.TheVariants.{Sizes, Shape, OutOfRange, ZeroWeight, WeightTotal, ValuesOrder, TooManyCounts}
use Rattle.md_setting.specs.Auction.{as_written, WrittenAuction, auction_of, weights_in, total_weight}
use Rattle.md_setting.specs.AuctionShaped.{IsAuction, IsKeptAuction}
use Rattle.md_setting.specs.AuctionRefusals.{HasGoodNumbers, has_auction_sizes, has_auction_shape, is_auction_in_range, is_up_to, are_positive, is_ascending, has_few_counts, weight_refusal_of, auction_refusal_of}
use Rattle.md_setting.specs.Refusals.{is_small, is_weight}
use Rattle.md_setting.proofs.TestLaws.{and_left, and_right, all_below-at, list_all-at, le_of_test, is_within}

pub same_of_eq : (m n : ℕ) → (m == n) ≡ true → m ≡ n
same_of_eq m n h = grind (arith, nat_tests)

pub positive : (n : ℕ) → not (n == 0) ≡ true → 0 < n
positive n h = grind (arith, nat_tests)

pub le_of_int : (a b : ℤ) → int_le a b ≡ true → a ≤ℤ b
le_of_int a b h = grind (arith, ints)

pub lt_of_int : (a b : ℤ) → int_lt a b ≡ true → a <ℤ b
lt_of_int a b h = grind (arith, ints)

-- a number of bidders, as it is written and as it is kept
pub size_within : (limit : ℕ) (z : ℤ) → pos 1 ≤ℤ z → z ≤ℤ pos limit → (1 ≤ unsigned_abs z) × (unsigned_abs z ≤ limit)
size_within limit z a b = (grind (arith, ints), grind (arith, ints))

pub weight_size : (z : ℤ) → is_weight z ≡ true → unsigned_abs z ≤ 1000000
weight_size (pos n) h = le_of_test n 1000000 h
weight_size (negsuc n) h = absurd (cc h)

pub weight_sizes : (weights : List ℤ) → list_all is_weight weights ≡ true → All (λ weight. weight ≤ 1000000) (map unsigned_abs weights)
weight_sizes [] h = All-nil (λ weight. weight ≤ 1000000)
weight_sizes (z ∷ zs) h =
    All-cons (λ weight. weight ≤ 1000000) (unsigned_abs z) (map unsigned_abs zs) (weight_size z (and_left _ _ h)) (weight_sizes zs (and_right (is_weight z) _ h))

-- positive weights have a positive sum
pub some_weight : (weights : List ℕ) → are_positive weights ≡ true → 1 ≤ length weights → 1 ≤ total_weight weights
some_weight [] h l = l
some_weight (x ∷ xs) h l =
    let first : 0 < x = positive x (and_left _ _ h) in
    omega (arith, first, sum_by-cons (λ (weight : ℕ). weight) x xs)

-- ---- the tests of what is written

pub record HasGoodSizes (w : WrittenAuction) : Type 0 where
  pub some_bidder : pos 1 ≤ℤ w.bidders
  pub few_bidders : w.bidders ≤ℤ pos 12
  pub some_value : 1 ≤ length w.values
  pub few_values : length w.values ≤ 12

pub good_sizes : (w : WrittenAuction) → has_auction_sizes w ≡ true → HasGoodSizes w
good_sizes w h =
    let abc = and_left _ _ h in
    let ab = and_left _ _ abc in
    record {
      some_bidder = le_of_int _ _ (and_left _ _ ab);
      few_bidders = le_of_int _ _ (and_right _ _ ab);
      some_value = le_of_test _ _ (and_right _ _ abc);
      few_values = le_of_test _ _ (and_right _ _ h);
    }

-- the tests of the numbers, one by one
pub record HasNumbers (w : WrittenAuction) : Type 0 where
  pub values : list_all (is_up_to 1000000) w.values ≡ true
  pub weights : list_all is_weight w.weights ≡ true
  pub revenue : is_up_to 1000 w.revenue ≡ true
  pub welfare : is_small 1000 w.welfare ≡ true
  pub keep : is_small 1000000 w.keep ≡ true
  pub gains : list_all (λ value. is_small 10000000 (w.welfare *ℤ value)) w.values ≡ true

pub numbers : (w : WrittenAuction) → is_auction_in_range w ≡ true → HasNumbers w
numbers w h =
    let abcde = and_left _ _ h in
    let abcd = and_left _ _ abcde in
    let abc = and_left _ _ abcd in
    let ab = and_left _ _ abc in
    record {
      values = and_left _ _ ab;
      weights = and_right _ _ ab;
      revenue = and_right _ _ abc;
      welfare = and_right _ _ abcd;
      keep = and_right _ _ abcde;
      gains = and_right _ _ h;
    }

-- ---- the first test that is not passed names the refusal

pub bad_sizes : (w : WrittenAuction) → has_auction_sizes w ≡ false → auction_refusal_of w ≡ Some Sizes
bad_sizes w e = rw e refl

pub bad_shape : (w : WrittenAuction) → has_auction_sizes w ≡ true → has_auction_shape w ≡ false → auction_refusal_of w ≡ Some Shape
bad_shape w a e = rw (a, e) refl

pub out_of_range : (w : WrittenAuction) → has_auction_sizes w ≡ true → has_auction_shape w ≡ true → is_auction_in_range w ≡ false → auction_refusal_of w ≡ Some OutOfRange
out_of_range w a b e = rw (a, b, e) refl

pub numbers_pass : (w : WrittenAuction) → HasGoodNumbers w → auction_refusal_of w ≡ weight_refusal_of (unsigned_abs w.bidders) w.values (weights_in w)
numbers_pass w h = rw (h.sizes, h.shape, h.range) refl

-- ---- the tests of weights and values

pub record HasGoodWeights (bidders : ℕ) (values : List ℤ) (weights : List ℕ) : Type 0 where
  pub positive : are_positive weights ≡ true
  pub total : nat_le (total_weight weights) 1000000 ≡ true
  pub ascending : is_ascending values ≡ true
  pub few : has_few_counts (total_weight weights) bidders (length values) ≡ true

-- four tests that are all passed
record AllOf (a b d e : Bool) : Type 0 where
  first : a ≡ true
  second : b ≡ true
  third : d ≡ true
  fourth : e ≡ true

all_of : (w x y z : BuildRefusal) (a b d e : Bool) →
    (if not a then Some w else (if not b then Some x else (if not d then Some y else (if not e then Some z else None)))) ≡ None → AllOf a b d e
all_of w x y z false b d e h = absurd (cc h)
all_of w x y z true false d e h = absurd (cc h)
all_of w x y z true true false e h = absurd (cc h)
all_of w x y z true true true false h = absurd (cc h)
all_of w x y z true true true true h = record { first = refl; second = refl; third = refl; fourth = refl }

pub good_weights : (bidders : ℕ) (values : List ℤ) (weights : List ℕ) → weight_refusal_of bidders values weights ≡ None → HasGoodWeights bidders values weights
good_weights bidders values weights h =
    let all = all_of ZeroWeight WeightTotal ValuesOrder TooManyCounts (are_positive weights) (nat_le (total_weight weights) 1000000) (is_ascending values) (has_few_counts (total_weight weights) bidders (length values)) h in
    record { positive = all.first; total = all.second; ascending = all.third; few = all.fourth }

-- ---- what passes the tests is within the limits

pub range_of : (limit : ℕ) (z : ℤ) → is_up_to limit z ≡ true → (pos 0 ≤ℤ z) × (z ≤ℤ pos limit)
range_of limit z h = (le_of_int _ _ (and_left _ _ h), le_of_int _ _ (and_right _ _ h))

weight_at : (weights : List ℤ) (k : ℕ) → list_all is_weight weights ≡ true → k < length weights → slice_index (map unsigned_abs weights) k ≤ 1000000
weight_at weights k h l =
    rw (get_or-map unsigned_abs weights k (pos 0) 0 l) (weight_size (get_or weights k (pos 0)) (list_all-at is_weight weights k (pos 0) h l))

pub accepted : (w : WrittenAuction) → HasGoodNumbers w → weight_refusal_of (unsigned_abs w.bidders) w.values (weights_in w) ≡ None → IsAuction (auction_of w)
accepted w h none =
    let sizes = good_sizes w h.sizes in
    let range = numbers w h.range in
    let weighed = good_weights (unsigned_abs w.bidders) w.values (weights_in w) none in
    let bidders = size_within 12 w.bidders sizes.some_bidder sizes.few_bidders in
    let one_each : length w.weights ≡ length w.values = same_of_eq _ _ h.shape in
    let kept : length (weights_in w) ≡ length w.values = length-map w.weights unsigned_abs ∙ one_each in
    record {
      some_bidder = bidders.0;
      few_bidders = bidders.1;
      some_value = sizes.some_value;
      few_values = sizes.few_values;
      one_each = kept;
      value = λ k l. range_of 1000000 _ (list_all-at (is_up_to 1000000) w.values k (pos 0) range.values l);
      weight = λ k l. (positive _ (list_all-at (λ weight. not (weight == 0)) (weights_in w) k 0 weighed.positive (rw kept l)), weight_at w.weights k range.weights (rw one_each l));
      revenue = range_of 1000 w.revenue range.revenue;
      welfare = is_within 1000 w.welfare range.welfare;
      keep = is_within 1000000 w.keep range.keep;
      gain = λ k l. is_within 10000000 _ (list_all-at (λ value. is_small 10000000 (w.welfare *ℤ value)) w.values k (pos 0) range.gains l);
      total = le_of_test _ _ weighed.total;
      ascending = λ k l. lt_of_int _ _ (all_below-at (length w.values - 1) k (λ k. int_lt (slice_index_or w.values k (pos 0)) (slice_index_or w.values (k + 1) (pos 0))) weighed.ascending (omega arith));
      few_profiles = le_of_test _ _ (and_left _ _ weighed.few);
      few_counts = le_of_test _ _ (and_right _ _ weighed.few);
    }

-- ---- what is kept of an auction as written

-- the number of bidders fits
pub bidders_fit : (w : WrittenAuction) → HasGoodNumbers w → T (non_neg w.bidders) × (unsigned_abs w.bidders < 2 ^ 32)
bidders_fit w h =
    let sizes = good_sizes w h.sizes in
    let within = size_within 12 w.bidders sizes.some_bidder sizes.few_bidders in
    (not_negative w.bidders sizes.some_bidder, omega (arith, within))
  where
    not_negative : (z : ℤ) → pos 1 ≤ℤ z → T (non_neg z)
    not_negative (pos n) h = tt
    not_negative (negsuc n) h = absurd (omega (arith, ints))

-- there are as many weights as values, and each is small
pub kept_weights : (w : WrittenAuction) (weights : List ℕ) → HasGoodNumbers w → weights ≡ weights_in w → length weights ≡ length w.values
kept_weights w weights h e = ap length e ∙ length-map w.weights unsigned_abs ∙ same_of_eq _ _ h.shape

pub kept_sizes : (w : WrittenAuction) (weights : List ℕ) → HasGoodNumbers w → weights ≡ weights_in w → All (λ weight. weight ≤ 1000000) weights
kept_sizes w weights h e = subst (All (λ weight. weight ≤ 1000000)) (sym e) (weight_sizes w.weights (numbers w h.range).weights)

pub weight_back : (z : ℤ) → is_weight z ≡ true → pos (unsigned_abs z) ≡ z
weight_back (pos n) h = refl
weight_back (negsuc n) h = absurd (cc h)

-- numbers of which a test says that none is negative
pub numbers_back : (p : ℤ → Bool) → ((z : ℤ) → p z ≡ true → pos (unsigned_abs z) ≡ z) → (numbers : List ℤ) → list_all p numbers ≡ true → map pos (map unsigned_abs numbers) ≡ numbers
numbers_back p back [] h = refl
numbers_back p back (z ∷ zs) h = rw (back z (and_left _ _ h), numbers_back p back zs (and_right (p z) _ h)) refl

bidders_back : (z : ℤ) → pos 1 ≤ℤ z → pos (unsigned_abs z) ≡ z
bidders_back (pos n) h = refl
bidders_back (negsuc n) h = absurd (omega (arith, ints))

-- what is kept can be written as it was
written_back : (w : WrittenAuction) → HasGoodNumbers w → as_written (auction_of w) ≡ w
written_back w h =
    rw (bidders_back w.bidders (good_sizes w h.sizes).some_bidder, numbers_back is_weight weight_back w.weights (numbers w h.range).weights) refl

pub kept : (w : WrittenAuction) (values : List ℤ) (weights : List ℕ) (total : ℕ) → HasGoodNumbers w → values ≡ w.values → weights ≡ weights_in w
    → weight_refusal_of (unsigned_abs w.bidders) w.values weights ≡ None → total ≡ total_weight weights
    → IsKeptAuction (record { bidders = unsigned_abs w.bidders; values = values; weights = weights; revenue = w.revenue; welfare = w.welfare; keep = w.keep }) total
kept w values weights total h e f none sum =
    rw (e, f) (record {
      accepted = ap auction_refusal_of (written_back w h) ∙ numbers_pass w h ∙ (rw f at none);
      auction = accepted w h (rw f at none);
      total_is = sum ∙ ap total_weight f;
    })
