-- Numbers of lists of counts, by the number of bidders.
use Rattle.std.specs.Prelude.{◌≡◌, ℕ, ◌+◌, ◌<◌, ◌≤◌, List, length, slice_index}
use Rattle.md_setting.specs.CountLists.{count_lists}

-- for each number of bidders below n the number of their lists over some kinds
pub record AreWays (n kinds : ℕ) (ways : List ℕ) : Type 0 where
  pub size : length ways ≡ n
  pub at : (bidders : ℕ) → bidders < n → slice_index ways bidders ≡ length (count_lists bidders kinds)

-- the same with one kind more for the numbers of bidders below a place, and not yet from it on
pub record AreWaysTo (n kinds place : ℕ) (ways : List ℕ) : Type 0 where
  pub size : length ways ≡ n
  pub done : (bidders : ℕ) → bidders < n → bidders < place → slice_index ways bidders ≡ length (count_lists bidders (kinds + 1))
  pub left : (bidders : ℕ) → bidders < n → place ≤ bidders → slice_index ways bidders ≡ length (count_lists bidders kinds)
