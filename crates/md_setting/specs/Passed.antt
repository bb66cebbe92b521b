-- Which tests of a setting are passed, so far.
use Rattle.std.specs.Prelude.{◌≡◌, true}
use Rattle.md_setting.specs.Setting.{GeneralSetting}
use Rattle.md_setting.specs.Refusals.{has_good_names, has_own_names, has_good_sizes, has_good_shape, has_small_lists, has_small_values, has_all_weights, has_small_total, has_few_rows}

-- the names and sizes are in order
pub record HasNamesAndSizes (s : GeneralSetting) : Type 0 where
  pub names : has_good_names s ≡ true
  pub own_names : has_own_names s ≡ true
  pub sizes : has_good_sizes s ≡ true

-- and the lists and numbers
pub record HasLists (s : GeneralSetting) : Type 0 where
  pub first : HasNamesAndSizes s
  pub shape : has_good_shape s ≡ true
  pub lists : has_small_lists s ≡ true
  pub values : has_small_values s ≡ true
  pub weights : has_all_weights s ≡ true

-- and the total weight and the rows
pub record HasTotals (s : GeneralSetting) : Type 0 where
  pub lists : HasLists s
  pub total : has_small_total s ≡ true
  pub rows : has_few_rows s ≡ true
