-- What the tests of an auction with groups say of it.
use Rattle.std.proofs.Common.{◌≡◌, ℕ, zero, suc, ◌+◌, ◌-◌, ◌<◌, ◌≤◌, ◌^◌, ℤ, pos, negsuc, ◌≤ℤ◌, ◌<ℤ◌, ◌*ℤ◌, unsigned_abs, Bool, true, false, not, List, [], ◌∷◌, map, length, replicate, get_or, None, Some, refl, sym, ap, ◌∙◌, subst, arith, add-one, slice_index, slice_index_or, ◌==◌, if◌then◌else◌}
use Rattle.std.specs.Prelude.{int_le, int_lt}
use Rattle.std.specs.List.{list_all, sum_by}
use Rattle.std.proofs.lemmas.Int.{ints}
use lib.Dec.{T}
use lib.Signed.{non_neg}
use Rattle.std.proofs.lemmas.List.{length-map, length-append, length-replicate, get_or-map}
use Rattle.std.proofs.lemmas.List.Sums.{sum_by-cons}
use Rattle.md_math.specs.Lists.{number_at}
use Rattle.md_math.specs.Sizes.{IsWithin}
use Rattle.md_math.proofs.Ring.{*ℤ-zero}
use Rattle.md_math.proofs.SizeLaws.{IsWithin-zero}
use Rattle.md_setting.specs.declared.raw.RawGroup.{RawGroup}
use Rattle.md_setting.specs.declared.raw.RawGroupedAuction.{RawGroupedAuction}
use Rattle.md_setting.specs.declared.refusal.BuildRefusal.TheVariants.{BadName, DoubleName, Sizes, Shape, OutOfRange, ZeroWeight, WeightTotal, ValuesOrder, SlotsOrder}
use Rattle.md_setting.specs.AuctionRefusals.{are_positive, is_ascending, is_up_to}
use Rattle.md_setting.specs.Grouped.{GroupedAuction, WrittenGroup, WrittenGroupedAuction, said_group, grouped_of, group_as_written, grouped_as_written, written_group, written_grouped, group_at, no_group, members_from}
use Rattle.md_setting.specs.GroupedRefusals.{HasGroupedNumbers, has_good_group_names, has_own_group_names, has_group_sizes, has_grouped_sizes, has_grouped_shape, is_from_to, is_group_in_range, is_grouped_in_range, weights_in_group, is_small_once_divided, has_positive_weights, has_small_totals, has_ascending_values, are_falling, grouped_refusal_of}
use Rattle.md_setting.specs.GroupedShaped.{IsGroup, IsSmallGroup, IsGroupedAuction, IsKeptGrouped}
use Rattle.md_setting.specs.Refusals.{is_small, is_weight}
use Rattle.md_setting.proofs.Accepted.{at_each}
use Rattle.md_setting.proofs.Auctions.{le_of_int, lt_of_int, same_of_eq, positive, range_of, weight_size, weight_back, size_within, numbers_back}
use Rattle.md_setting.proofs.TestLaws.{and_left, and_right, all_below-at, list_all-at, le_of_test, is_within}

-- ---- the first test that is not passed names the refusal

pub bad_name : (w : WrittenGroupedAuction) → has_good_group_names w ≡ false → grouped_refusal_of w ≡ Some BadName
bad_name w e = rw e refl

pub double_name : (w : WrittenGroupedAuction) → has_good_group_names w ≡ true → has_own_group_names w ≡ false → grouped_refusal_of w ≡ Some DoubleName
double_name w a e = rw (a, e) refl

pub bad_sizes : (w : WrittenGroupedAuction) → has_good_group_names w ≡ true → has_own_group_names w ≡ true → has_grouped_sizes w ≡ false → grouped_refusal_of w ≡ Some Sizes
bad_sizes w a b e = rw (a, b, e) refl

pub bad_shape : (w : WrittenGroupedAuction) → has_good_group_names w ≡ true → has_own_group_names w ≡ true → has_grouped_sizes w ≡ true → has_grouped_shape w ≡ false
    → grouped_refusal_of w ≡ Some Shape
bad_shape w a b d e = rw (a, b, d, e) refl

pub out_of_range : (w : WrittenGroupedAuction) → has_good_group_names w ≡ true → has_own_group_names w ≡ true → has_grouped_sizes w ≡ true → has_grouped_shape w ≡ true → is_grouped_in_range w ≡ false
    → grouped_refusal_of w ≡ Some OutOfRange
out_of_range w a b d f e = rw (a, b, d, f, e) refl

pub zero_weight : (w : WrittenGroupedAuction) → HasGroupedNumbers w → has_positive_weights w ≡ false → grouped_refusal_of w ≡ Some ZeroWeight
zero_weight w h e = rw (h.names, h.own_names, h.sizes, h.shape, h.range, e) refl

pub large_total : (w : WrittenGroupedAuction) → HasGroupedNumbers w → has_positive_weights w ≡ true → has_small_totals w ≡ false → grouped_refusal_of w ≡ Some WeightTotal
large_total w h a e = rw (h.names, h.own_names, h.sizes, h.shape, h.range, a, e) refl

pub values_order : (w : WrittenGroupedAuction) → HasGroupedNumbers w → has_positive_weights w ≡ true → has_small_totals w ≡ true → has_ascending_values w ≡ false → grouped_refusal_of w ≡ Some ValuesOrder
values_order w h a b e = rw (h.names, h.own_names, h.sizes, h.shape, h.range, a, b, e) refl

pub slots_order : (w : WrittenGroupedAuction) → HasGroupedNumbers w → has_positive_weights w ≡ true → has_small_totals w ≡ true → has_ascending_values w ≡ true → are_falling w.slots ≡ false
    → grouped_refusal_of w ≡ Some SlotsOrder
slots_order w h a b d e = rw (h.names, h.own_names, h.sizes, h.shape, h.range, a, b, d, e) refl

pub none_refused : (w : WrittenGroupedAuction) → HasGroupedNumbers w → has_positive_weights w ≡ true → has_small_totals w ≡ true → has_ascending_values w ≡ true → are_falling w.slots ≡ true
    → grouped_refusal_of w ≡ None
none_refused w h a b d e = rw (h.names, h.own_names, h.sizes, h.shape, h.range, a, b, d, e) refl

pub ruleset grouped_refusals = (bad_name, double_name, bad_sizes, bad_shape, out_of_range, zero_weight, large_total, values_order, slots_order, none_refused)

-- what is not refused passed each test

record AllOf (a b d e f g h i j : Bool) : Type 0 where
  first : a ≡ true
  second : b ≡ true
  third : d ≡ true
  fourth : e ≡ true
  fifth : f ≡ true
  sixth : g ≡ true
  seventh : h ≡ true
  eighth : i ≡ true
  ninth : j ≡ true

all_of : (a b d e f g h i j : Bool) →
    (if not a then Some BadName else (if not b then Some DoubleName else (if not d then Some Sizes else (if not e then Some Shape else (if not f then Some OutOfRange
    else (if not g then Some ZeroWeight else (if not h then Some WeightTotal else (if not i then Some ValuesOrder else (if not j then Some SlotsOrder else None))))))))) ≡ None
    → AllOf a b d e f g h i j
all_of false b d e f g h i j x = absurd (cc x)
all_of true false d e f g h i j x = absurd (cc x)
all_of true true false e f g h i j x = absurd (cc x)
all_of true true true false f g h i j x = absurd (cc x)
all_of true true true true false g h i j x = absurd (cc x)
all_of true true true true true false h i j x = absurd (cc x)
all_of true true true true true true false i j x = absurd (cc x)
all_of true true true true true true true false j x = absurd (cc x)
all_of true true true true true true true true false x = absurd (cc x)
all_of true true true true true true true true true x =
    record { first = refl; second = refl; third = refl; fourth = refl; fifth = refl; sixth = refl; seventh = refl; eighth = refl; ninth = refl }

passed : (w : WrittenGroupedAuction) → grouped_refusal_of w ≡ None →
    AllOf (has_good_group_names w) (has_own_group_names w) (has_grouped_sizes w) (has_grouped_shape w) (is_grouped_in_range w) (has_positive_weights w) (has_small_totals w) (has_ascending_values w) (are_falling w.slots)
passed w h = all_of _ _ _ _ _ _ _ _ _ h

-- ---- the tests one by one

limits_of : (low high z : ℤ) → is_from_to low high z ≡ true → (low ≤ℤ z) × (z ≤ℤ high)
limits_of low high z h = (le_of_int _ _ (and_left _ _ h), le_of_int _ _ (and_right _ _ h))

record HasSizes (w : WrittenGroupedAuction) : Type 0 where
  some_group : 1 ≤ length w.groups
  few_groups : length w.groups ≤ 64
  each : list_all has_group_sizes w.groups ≡ true
  few_bidders : sum_by (λ group. unsigned_abs group.count) w.groups ≤ 1000
  some_slot : 1 ≤ length w.slots
  few_slots : length w.slots ≤ 1000

sizes_of : (w : WrittenGroupedAuction) → has_grouped_sizes w ≡ true → HasSizes w
unfolding has_grouped_sizes
sizes_of w h =
    let abcde = and_left _ _ h in
    let abcd = and_left _ _ abcde in
    let abc = and_left _ _ abcd in
    let ab = and_left _ _ abc in
    record {
      some_group = le_of_test _ _ (and_left _ _ ab);
      few_groups = le_of_test _ _ (and_right _ _ ab);
      each = and_right _ _ abc;
      few_bidders = le_of_test _ _ (and_right _ _ abcd);
      some_slot = le_of_test _ _ (and_right _ _ abcde);
      few_slots = le_of_test _ _ (and_right _ _ h);
    }

record HasRanges (w : WrittenGroupedAuction) : Type 0 where
  slots : list_all (is_from_to (pos 1) (pos 1000)) w.slots ≡ true
  revenue : is_up_to 1000 w.revenue ≡ true
  welfare : is_small 1000 w.welfare ≡ true
  keep : is_small 1000000 w.keep ≡ true
  each : list_all (is_group_in_range w.welfare) w.groups ≡ true

ranges_of : (w : WrittenGroupedAuction) → is_grouped_in_range w ≡ true → HasRanges w
unfolding is_grouped_in_range
ranges_of w h =
    let abcd = and_left _ _ h in
    let abc = and_left _ _ abcd in
    let ab = and_left _ _ abc in
    record {
      slots = and_left _ _ ab;
      revenue = and_right _ _ ab;
      welfare = and_right _ _ abc;
      keep = and_right _ _ abcd;
      each = and_right _ _ h;
    }

record HasGroupRange (welfare : ℤ) (group : WrittenGroup) : Type 0 where
  values : list_all (is_small 1000000) group.values ≡ true
  weights : list_all is_weight group.weights ≡ true
  worth : is_small 1000000 group.worth ≡ true
  gains : list_all (λ value. is_small 10000000 (welfare *ℤ value)) group.values ≡ true

group_range : (welfare : ℤ) (group : WrittenGroup) → is_group_in_range welfare group ≡ true → HasGroupRange welfare group
group_range welfare group h =
    let abc = and_left _ _ h in
    let ab = and_left _ _ abc in
    record {
      values = and_left _ _ ab;
      weights = and_right _ _ ab;
      worth = and_right _ _ abc;
      gains = and_right _ _ h;
    }

-- ---- a group

record PassesTests (welfare : ℤ) (group : WrittenGroup) : Type 0 where
  sizes : has_group_sizes group ≡ true
  shape : (length group.weights == length group.values) ≡ true
  range : is_group_in_range welfare group ≡ true
  positive : are_positive (weights_in_group group) ≡ true
  total : is_small_once_divided (weights_in_group group) ≡ true
  ascending : is_ascending group.values ≡ true

group_is : (welfare : ℤ) (group : WrittenGroup) → PassesTests welfare group → IsGroup (said_group group)
group_is welfare group h =
    let one_each : length (map unsigned_abs group.weights) ≡ length group.values = length-map group.weights unsigned_abs ∙ same_of_eq _ _ h.shape in
    record {
      some_value = le_of_test _ _ (and_right _ _ (and_left _ _ h.sizes));
      one_each = one_each;
      positive = λ v l. positive _ (list_all-at (λ weight. not (weight == 0)) (weights_in_group group) v 0 h.positive (rw one_each l));
      ascending = λ v l.
          subst (λ next. number_at group.values v <ℤ number_at group.values next) (add-one v)
          (lt_of_int (number_at group.values v) (number_at group.values (v + 1))
          (all_below-at (length group.values - 1) v (λ k. int_lt (slice_index_or group.values k (pos 0)) (slice_index_or group.values (k + 1) (pos 0))) h.ascending (omega arith)));
    }

weights_small : (weights : List ℤ) → list_all is_weight weights ≡ true → (v : ℕ) → slice_index (map unsigned_abs weights) v ≤ 1000000
weights_small [] h v = omega arith
weights_small (z ∷ zs) h zero = weight_size z (and_left _ _ h)
weights_small (z ∷ zs) h (suc v) = weights_small zs (and_right (is_weight z) _ h) v

group_small : (w : WrittenGroupedAuction) (group : WrittenGroup) → PassesTests w.welfare group → IsSmallGroup (grouped_of w) (said_group group)
group_small w group h =
    let range = group_range w.welfare group h.range in
    let count = limits_of (pos 1) (pos 1000) group.count (and_left _ _ (and_left _ _ h.sizes)) in
    record {
      count = size_within 1000 group.count count.0 count.1;
      few_values = le_of_test _ _ (and_right _ _ h.sizes);
      value = at_each (IsWithin 1000000) (is_small 1000000) (is_within 1000000) (IsWithin-zero 1000000) group.values range.values;
      gain = at_each (λ z. IsWithin 10000000 (w.welfare *ℤ z)) (λ z. is_small 10000000 (w.welfare *ℤ z)) (λ z. is_within 10000000 (w.welfare *ℤ z))
          (rw (*ℤ-zero w.welfare) (IsWithin-zero 10000000)) group.values range.gains;
      weight = weights_small group.weights range.weights;
      worth = is_within 1000000 group.worth range.worth;
      total = le_of_test _ _ h.total;
    }

-- ---- all groups

-- a group that is written nowhere
no_written : WrittenGroup
no_written = record { name = []; count = pos 0; values = []; weights = []; worth = pos 0 }

all_passed : (w : WrittenGroupedAuction) → grouped_refusal_of w ≡ None → (k : ℕ) → k < length w.groups → PassesTests w.welfare (get_or w.groups k no_written)
unfolding has_grouped_shape has_positive_weights has_small_totals has_ascending_values
all_passed w none k l =
    let p = passed w none in
    record {
      sizes = list_all-at has_group_sizes w.groups k no_written (sizes_of w p.third).each l;
      shape = list_all-at (λ group. length group.weights == length group.values) w.groups k no_written p.fourth l;
      range = list_all-at (is_group_in_range w.welfare) w.groups k no_written (ranges_of w p.fifth).each l;
      positive = list_all-at (λ group. are_positive (weights_in_group group)) w.groups k no_written p.sixth l;
      total = list_all-at (λ group. is_small_once_divided (weights_in_group group)) w.groups k no_written p.seventh l;
      ascending = list_all-at (λ group. is_ascending group.values) w.groups k no_written p.eighth l;
    }

said_at : (w : WrittenGroupedAuction) (k : ℕ) → k < length w.groups → group_at (grouped_of w) k ≡ said_group (get_or w.groups k no_written)
said_at w k l = get_or-map said_group w.groups k no_written no_group l

members-length : (k : ℕ) (groups : List WrittenGroup) → length (members_from k (map said_group groups)) ≡ sum_by (λ group. unsigned_abs group.count) groups
members-length k [] = refl
members-length k (group ∷ groups) =
    length-append (replicate (unsigned_abs group.count) k) (members_from (suc k) (map said_group groups))
    ∙ rw (length-replicate (unsigned_abs group.count) k, members-length (suc k) groups, sum_by-cons (λ (g : WrittenGroup). unsigned_abs g.count) group groups) refl

-- ---- slots

not_less : (a b : ℤ) → pos 1 ≤ℤ a → a ≤ℤ b → unsigned_abs a ≤ unsigned_abs b
not_less (pos a) (pos b) h l = omega (arith, ints)
not_less (pos a) (negsuc b) h l = absurd (omega (arith, ints))
not_less (negsuc a) b h l = absurd (omega (arith, ints))

falling : (slots : List ℤ) → list_all (is_from_to (pos 1) (pos 1000)) slots ≡ true → are_falling slots ≡ true → (h : ℕ) → suc h < length slots
    → slice_index (map unsigned_abs slots) (suc h) ≤ slice_index (map unsigned_abs slots) h
falling slots range fall h l =
    let next = get_or slots (suc h) (pos 0) in
    let order : next ≤ℤ get_or slots h (pos 0) =
    subst (λ k. get_or slots k (pos 0) ≤ℤ get_or slots h (pos 0)) (add-one h)
    (le_of_int (get_or slots (h + 1) (pos 0)) (get_or slots h (pos 0))
    (all_below-at (length slots - 1) h (λ h. int_le (slice_index_or slots (h + 1) (pos 0)) (slice_index_or slots h (pos 0))) fall (omega arith))) in
    let limits = limits_of (pos 1) (pos 1000) next (list_all-at (is_from_to (pos 1) (pos 1000)) slots (suc h) (pos 0) range l) in
    rw (get_or-map unsigned_abs slots (suc h) (pos 0) 0 l, get_or-map unsigned_abs slots h (pos 0) 0 (omega arith))
    (not_less next (get_or slots h (pos 0)) limits.0 order)

amount_within : (slots : List ℤ) → list_all (is_from_to (pos 1) (pos 1000)) slots ≡ true → (h : ℕ) → h < length slots
    → (1 ≤ slice_index (map unsigned_abs slots) h) × (slice_index (map unsigned_abs slots) h ≤ 1000)
amount_within slots range h l =
    let amount = get_or slots h (pos 0) in
    let limits = limits_of (pos 1) (pos 1000) amount (list_all-at (is_from_to (pos 1) (pos 1000)) slots h (pos 0) range l) in
    rw (get_or-map unsigned_abs slots h (pos 0) 0 l) (size_within 1000 amount limits.0 limits.1)

-- ---- what is not refused is within the limits

pub accepted : (w : WrittenGroupedAuction) → grouped_refusal_of w ≡ None → IsGroupedAuction (grouped_of w)
accepted w none =
    let p = passed w none in
    let sizes = sizes_of w p.third in
    let range = ranges_of w p.fifth in
    let revenue = range_of 1000 w.revenue range.revenue in
    let groups : length (map said_group w.groups) ≡ length w.groups = length-map w.groups said_group in
    let slots : length (map unsigned_abs w.slots) ≡ length w.slots = length-map w.slots unsigned_abs in
    record {
      ordered = record {
        group = λ k l. let inside : k < length w.groups = omega (arith, l, groups) in subst IsGroup (sym (said_at w k inside)) (group_is w.welfare (get_or w.groups k no_written) (all_passed w none k inside));
        falling = λ h l. falling w.slots range.slots p.ninth h (omega (arith, l, slots));
        revenue = revenue.0;
      };
      groups = rw groups (sizes.some_group, sizes.few_groups);
      small = λ k l. let inside : k < length w.groups = omega (arith, l, groups) in subst (IsSmallGroup (grouped_of w)) (sym (said_at w k inside)) (group_small w (get_or w.groups k no_written) (all_passed w none k inside));
      few_bidders = rw (members-length 0 w.groups) sizes.few_bidders;
      slots = rw slots (sizes.some_slot, sizes.few_slots);
      amount = λ h l. amount_within w.slots range.slots h (omega (arith, l, slots));
      most_revenue = revenue.1;
      welfare = is_within 1000 w.welfare range.welfare;
      keep = is_within 1000000 w.keep range.keep;
    }

-- ---- what is kept can be written as it was

positive_back : (high z : ℤ) → is_from_to (pos 1) high z ≡ true → pos (unsigned_abs z) ≡ z
positive_back high (pos n) h = refl
positive_back high (negsuc n) h = absurd (omega (arith, ints, (limits_of (pos 1) high (negsuc n) h).0))

group_back : (welfare : ℤ) (group : WrittenGroup) → has_group_sizes group ≡ true → is_group_in_range welfare group ≡ true → group_as_written (said_group group) ≡ group
group_back welfare group sizes range =
    rw (positive_back (pos 1000) group.count (and_left _ _ (and_left _ _ sizes)), numbers_back is_weight weight_back group.weights (group_range welfare group range).weights) refl

groups_back : (welfare : ℤ) (groups : List WrittenGroup) → list_all has_group_sizes groups ≡ true → list_all (is_group_in_range welfare) groups ≡ true → map group_as_written (map said_group groups) ≡ groups
groups_back welfare [] sizes range = refl
groups_back welfare (group ∷ groups) sizes range =
    rw (group_back welfare group (and_left _ _ sizes) (and_left _ _ range), groups_back welfare groups (and_right (has_group_sizes group) _ sizes) (and_right (is_group_in_range welfare group) _ range)) refl

written_back : (w : WrittenGroupedAuction) → grouped_refusal_of w ≡ None → grouped_as_written (grouped_of w) ≡ w
written_back w none =
    let p = passed w none in
    let range = ranges_of w p.fifth in
    rw (numbers_back (is_from_to (pos 1) (pos 1000)) (positive_back (pos 1000)) w.slots range.slots, groups_back w.welfare w.groups (sizes_of w p.third).each range.each) refl

pub kept : (raw : RawGroupedAuction) → grouped_refusal_of (written_grouped raw) ≡ None → IsKeptGrouped raw
kept raw none = record {
  accepted = none;
  shaped = accepted (written_grouped raw) none;
  written_back = written_back (written_grouped raw) none;
}

-- ---- a group that is kept

-- a group as written, among those of what it says
pub group-at_place : (raw : RawGroupedAuction) (k : ℕ) (d : RawGroup) → d ≡ get_or raw.groups.items k d → k < length (grouped_of (written_grouped raw)).groups
    → said_group (written_group d) ≡ group_at (grouped_of (written_grouped raw)) k
group-at_place raw k d e h =
    let inside : k < length raw.groups.items = omega (arith, h, length-map (map written_group raw.groups.items) said_group, length-map raw.groups.items written_group) in
    ap (λ g. said_group (written_group g)) e
    ∙ sym (get_or-map said_group (map written_group raw.groups.items) k (written_group d) no_group (omega (arith, inside, length-map raw.groups.items written_group))
    ∙ ap said_group (get_or-map written_group raw.groups.items k d (written_group d) inside))

-- it can be written as it was
pub group-as_written : (raw : RawGroupedAuction) (k : ℕ) (d : RawGroup) → IsKeptGrouped raw → d ≡ get_or raw.groups.items k d → k < length (grouped_of (written_grouped raw)).groups
    → written_group d ≡ group_as_written (group_at (grouped_of (written_grouped raw)) k)
group-as_written raw k d kept e h =
    let w = written_grouped raw in
    let inside : k < length w.groups = omega (arith, h, length-map w.groups said_group) in
    let among : written_group d ≡ get_or w.groups k no_written =
    ap written_group e ∙ sym (get_or-map written_group raw.groups.items k d no_written (omega (arith, inside, length-map raw.groups.items written_group))) in
    let back : get_or (map group_as_written (map said_group w.groups)) k no_written ≡ get_or w.groups k no_written =
    ap (λ (u : WrittenGroupedAuction). get_or u.groups k no_written) kept.written_back in
    among ∙ sym back ∙ get_or-map group_as_written (map said_group w.groups) k no_group no_written (omega (arith, h))

pub ruleset kept_groups = (group-at_place, group-as_written)

-- the number of its bidders fits
pub count_fits : (a : GroupedAuction) (k : ℕ) (z : ℤ) → IsGroupedAuction a → k < length a.groups → z ≡ pos (group_at a k).count → T (non_neg z) × (unsigned_abs z < 2 ^ 32)
count_fits a k z h l e = subst (λ z. T (non_neg z) × (unsigned_abs z < 2 ^ 32)) (sym e) (tt, omega (arith, (h.small k l).count))
