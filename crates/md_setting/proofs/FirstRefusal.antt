-- The first test that is not passed names the refusal.
use Rattle.std.proofs.Common.{◌≡◌, true, false, Some, None, refl}
use Rattle.md_setting.specs.declared.refusal.BuildRefusal.TheVariants.{BadName, DoubleName, Sizes, Shape, OutOfRange, ZeroWeight, WeightTotal, TooManyRows}
use Rattle.md_setting.specs.Setting.{GeneralSetting}
use Rattle.md_setting.specs.Shaped.{IsShaped}
use Rattle.md_setting.specs.Passed.{HasNamesAndSizes, HasLists, HasTotals}
use Rattle.md_setting.specs.Refusals.{has_good_names, has_own_names, has_good_sizes, has_good_shape, has_small_lists, has_small_values, has_all_weights, has_small_total, has_few_rows, refusal_of}
use Rattle.md_setting.proofs.Accepted.{shaped}

pub bad_name : (s : GeneralSetting) → has_good_names s ≡ false → refusal_of s ≡ Some BadName
bad_name s e = rw e refl

pub double_name : (s : GeneralSetting) → has_good_names s ≡ true → has_own_names s ≡ false → refusal_of s ≡ Some DoubleName
double_name s a e = rw (a, e) refl

pub sizes : (s : GeneralSetting) → has_good_names s ≡ true → has_own_names s ≡ true → has_good_sizes s ≡ false → refusal_of s ≡ Some Sizes
sizes s a b e = rw (a, b, e) refl

pub shape : (s : GeneralSetting) → HasNamesAndSizes s → has_good_shape s ≡ false → refusal_of s ≡ Some Shape
shape s f e = rw (f.names, f.own_names, f.sizes, e) refl

pub lists : (s : GeneralSetting) → HasNamesAndSizes s → has_good_shape s ≡ true → has_small_lists s ≡ false → refusal_of s ≡ Some OutOfRange
lists s f a e = rw (f.names, f.own_names, f.sizes, a, e) refl

pub values : (s : GeneralSetting) → HasNamesAndSizes s → has_good_shape s ≡ true → has_small_lists s ≡ true → has_small_values s ≡ false →
    refusal_of s ≡ Some OutOfRange
values s f a b e = rw (f.names, f.own_names, f.sizes, a, b, e) refl

pub weights : (s : GeneralSetting) → HasNamesAndSizes s → has_good_shape s ≡ true → has_small_lists s ≡ true → has_small_values s ≡ true →
    has_all_weights s ≡ false → refusal_of s ≡ Some ZeroWeight
weights s f a b d e = rw (f.names, f.own_names, f.sizes, a, b, d, e) refl

pub total : (s : GeneralSetting) → HasLists s → has_small_total s ≡ false → refusal_of s ≡ Some WeightTotal
total s h e = rw (h.first.names, h.first.own_names, h.first.sizes, h.shape, h.lists, h.values, h.weights, e) refl

pub rows : (s : GeneralSetting) → HasLists s → has_small_total s ≡ true → has_few_rows s ≡ false → refusal_of s ≡ Some TooManyRows
rows s h a e = rw (h.first.names, h.first.own_names, h.first.sizes, h.shape, h.lists, h.values, h.weights, a, e) refl

pub none : (s : GeneralSetting) → HasTotals s → refusal_of s ≡ None
none s h =
    rw (h.lists.first.names, h.lists.first.own_names, h.lists.first.sizes, h.lists.shape, h.lists.lists, h.lists.values, h.lists.weights, h.total, h.rows) refl

pub totals_shaped : (s : GeneralSetting) → HasTotals s → IsShaped s
totals_shaped s h =
    shaped s h.lists.first.sizes h.lists.shape h.lists.lists h.lists.values h.lists.weights h.total h.rows
