-- A table of the numbers of lists of counts.
use Rattle.std.specs.Prelude.{◌≡◌, ℕ, ◌+◌, ◌*◌, ◌<◌, List, length, slice_index}
use Rattle.md_setting.specs.CountLists.{count_lists}

-- the table has, at the places below one, the number of lists for each number of kinds and of bidders up to 12, by the number of kinds
pub record HasWays (table : List ℕ) (place : ℕ) : Type 0 where
  pub size : length table ≡ 169
  pub at : (bidders kinds : ℕ) → bidders < 13 → kinds < 13 → kinds * 13 + bidders < place → slice_index table (kinds * 13 + bidders) ≡ length (count_lists bidders kinds)
