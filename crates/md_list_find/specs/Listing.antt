-- Lists that are made by the rule, as far as some groups, and some values of the next one, have come.
use Rattle.std.specs.Prelude.{◌≡◌, ℕ, suc, ◌<◌, ◌≤◌, List, length}
use Rattle.md_math.specs.LexOrder.{IsPairNonNegative}
use Rattle.md_setting.specs.Grouped.{GroupedAuction, group_at}
use Rattle.md_list.specs.Ranks.{Rank, GoDown}
use Rattle.md_list.specs.Valid.{rank_at, left_behind}
use Rattle.md_list.specs.ByRule.{IsReserveOf, IsPoolByRule, more_gain, more_benefit, BringsMore, StandsBefore}

-- a record brings no less than another by weight
abbrev pub BringsNoLess : GroupedAuction → Rank → Rank → Type 0
BringsNoLess a rank other = IsPairNonNegative (more_gain a rank other) (more_benefit a rank other)

-- Records are pools by the rule and stand in order. Those of each group reach up to a place, each beginning where the one below it
-- ends.
pub record IsRanking (a : GroupedAuction) (ends : ℕ → ℕ) (ranks : List Rank) : Type 0 where
  pub form : GoDown (length a.groups) ends ranks
  pub pool : (p : ℕ) → p < length ranks → IsPoolByRule a (rank_at ranks p)
  pub order : (p : ℕ) → suc p < length ranks → StandsBefore a (rank_at ranks p) (rank_at ranks (suc p))

-- the list has the pools of the first k groups, from their reserves up to their last values
pub record IsListOf (a : GroupedAuction) (k : ℕ) (ranks : List Rank) : Type 0 where
  pub ends : ℕ → ℕ
  pub ranking : IsRanking a ends ranks
  pub whole : (j : ℕ) → j < k → ends j ≡ length (group_at a j).values
  pub reserve : (j : ℕ) → j < k → IsReserveOf a j (left_behind ends ranks j)
  pub groups : (p : ℕ) → p < length ranks → (rank_at ranks p).group < k

-- It has these, and the pools of group k from its reserve up to a place; whatever of that group begins there brings more than each
-- of its pools.
pub record IsListUpTo (a : GroupedAuction) (k first : ℕ) (ranks : List Rank) : Type 0 where
  pub ends : ℕ → ℕ
  pub ranking : IsRanking a ends ranks
  pub whole : (j : ℕ) → j < k → ends j ≡ length (group_at a j).values
  pub here : ends k ≡ first
  pub reserve : (j : ℕ) → j < suc k → IsReserveOf a j (left_behind ends ranks j)
  pub groups : (p : ℕ) → p < length ranks → (rank_at ranks p).group < suc k
  pub above : (p x : ℕ) → p < length ranks → (rank_at ranks p).group ≡ k → first < x → x ≤ length (group_at a k).values
      → BringsMore a (record { group = k; first = first; stop = x }) (rank_at ranks p)
