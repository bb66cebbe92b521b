-- Tests over an auction with groups as written are tests over what it says.
use Rattle.std.proofs.Common.{◌≡◌, ℕ, pos, Bool, not, List, [], ◌∷◌, map, length, ◌==◌, ◌&&◌, refl, ap, ap₂, ◌∙◌, nat_le, unsigned_abs, vec_len, arith}
use Rattle.std.specs.List.{list_all, sum_by}
use Rattle.std.proofs.lemmas.List.{length-map}
use Rattle.std.proofs.lemmas.List.Folds.{list_all-map}
use Rattle.std.proofs.lemmas.List.Sums.{sum_by-cons}
use Rattle.std.proofs.lemmas.Simd.{map-map}
use Rattle.md_setting.specs.declared.raw.RawGroup.{RawGroup}
use Rattle.md_setting.specs.declared.raw.RawGroupedAuction.{RawGroupedAuction}
use Rattle.md_setting.specs.AuctionRefusals.{are_positive, is_ascending, is_up_to}
use Rattle.md_setting.specs.Grouped.{WrittenGroup, written_group, written_grouped}
use Rattle.md_setting.specs.GroupedRefusals.{has_good_group_names, has_own_group_names, has_group_sizes, has_grouped_sizes, has_grouped_shape, is_from_to, is_group_in_range, is_grouped_in_range, weights_in_group, is_small_once_divided, has_positive_weights, has_small_totals, has_ascending_values}
use Rattle.md_setting.specs.Refusals.{are_apart, is_name, is_small}
use Rattle.md_setting.proofs.Views.{same_len}

each : (p : WrittenGroup → Bool) (groups : List RawGroup) → list_all p (map written_group groups) ≡ list_all (λ group. p (written_group group)) groups
each p groups = list_all-map p written_group groups

pub good_names : (raw : RawGroupedAuction) → has_good_group_names (written_grouped raw) ≡ list_all (λ group. is_name (written_group group).name) raw.groups.items
unfolding has_good_group_names
good_names raw = each (λ group. is_name group.name) raw.groups.items

pub own_names : (raw : RawGroupedAuction) → has_own_group_names (written_grouped raw) ≡ are_apart (map (λ group. (written_group group).name) raw.groups.items)
unfolding has_own_group_names
own_names raw = ap are_apart (map-map (λ (group : WrittenGroup). group.name) written_group raw.groups.items)

sum_by-map : (f : WrittenGroup → ℕ) (groups : List RawGroup) → sum_by f (map written_group groups) ≡ sum_by (λ group. f (written_group group)) groups
sum_by-map f [] = refl
sum_by-map f (group ∷ groups) =
    rw (sum_by-cons f (written_group group) (map written_group groups), sum_by-cons (λ (g : RawGroup). f (written_group g)) group groups, sum_by-map f groups) refl

pub sizes : (raw : RawGroupedAuction) →
    has_grouped_sizes (written_grouped raw)
    ≡ (nat_le 1 (vec_len raw.groups) && nat_le (vec_len raw.groups) 64
    && list_all (λ group. has_group_sizes (written_group group)) raw.groups.items
    && nat_le (sum_by (λ group. unsigned_abs (written_group group).count) raw.groups.items) 1000
    && nat_le 1 (vec_len raw.slots) && nat_le (vec_len raw.slots) 1000)
unfolding has_grouped_sizes
sizes raw =
    let groups : length (map written_group raw.groups.items) ≡ vec_len raw.groups = length-map raw.groups.items written_group ∙ omega arith in
    let slots : length raw.slots.items ≡ vec_len raw.slots = omega arith in
    rw (groups, slots, each has_group_sizes raw.groups.items, sum_by-map (λ group. unsigned_abs group.count) raw.groups.items) refl

pub group_shape : (group : RawGroup) → (length (written_group group).weights == length (written_group group).values) ≡ (vec_len group.weights == vec_len group.values)
group_shape group = rw (same_len group.weights, same_len group.values) refl

pub shape : (raw : RawGroupedAuction) → has_grouped_shape (written_grouped raw) ≡ list_all (λ group. length (written_group group).weights == length (written_group group).values) raw.groups.items
unfolding has_grouped_shape
shape raw = each (λ group. length group.weights == length group.values) raw.groups.items

pub range : (raw : RawGroupedAuction) →
    is_grouped_in_range (written_grouped raw)
    ≡ (list_all (is_from_to (pos 1) (pos 1000)) raw.slots.items
    && is_up_to 1000 raw.revenue
    && is_small 1000 raw.welfare
    && is_small 1000000 raw.keep
    && list_all (λ group. is_group_in_range raw.welfare (written_group group)) raw.groups.items)
unfolding is_grouped_in_range
range raw = rw (each (is_group_in_range raw.welfare) raw.groups.items) refl

positive_in : (groups : List RawGroup) →
    list_all (λ group. are_positive (weights_in_group (written_group group))) groups ≡ list_all (λ group. list_all (λ weight. not (unsigned_abs weight == 0)) (written_group group).weights) groups
positive_in [] = refl
positive_in (group ∷ groups) = ap₂ (λ a b. a && b) (list_all-map (λ n. not (n == 0)) unsigned_abs group.weights.items) (positive_in groups)

pub positive_weights : (raw : RawGroupedAuction) →
    has_positive_weights (written_grouped raw) ≡ list_all (λ group. list_all (λ weight. not (unsigned_abs weight == 0)) (written_group group).weights) raw.groups.items
unfolding has_positive_weights
positive_weights raw = each (λ group. are_positive (weights_in_group group)) raw.groups.items ∙ positive_in raw.groups.items

pub small_totals : (raw : RawGroupedAuction) → has_small_totals (written_grouped raw) ≡ list_all (λ group. is_small_once_divided (map unsigned_abs (written_group group).weights)) raw.groups.items
unfolding has_small_totals
small_totals raw = each (λ group. is_small_once_divided (weights_in_group group)) raw.groups.items

pub ascending : (raw : RawGroupedAuction) → has_ascending_values (written_grouped raw) ≡ list_all (λ group. is_ascending (written_group group).values) raw.groups.items
unfolding has_ascending_values
ascending raw = each (λ group. is_ascending group.values) raw.groups.items
