-- How many bidders and kinds of values there are, and the list of counts at a rank.
use Rattle.std.specs.Prelude.{◌≡◌, ℕ, ◌≤◌, List, [], length, slice_index_or}
use Rattle.std.specs.List.{sum}
use Rattle.md_setting.specs.CountLists.{count_lists}

-- the lists of counts of so many bidders with so many kinds of values
pub record CountsOf : Type 0 where
  pub bidders : ℕ
  pub kinds : ℕ

-- how many lists of counts there are
abbrev pub list_count : CountsOf → ℕ
list_count c = length (count_lists c.bidders c.kinds)

-- the list of counts at a rank
abbrev pub counts_at : ℕ → ℕ → ℕ → List ℕ
counts_at bidders kinds rank = slice_index_or (count_lists bidders kinds) rank []

-- the limits of bidders, kinds and lists
pub record AreFew (c : CountsOf) : Type 0 where
  pub some_bidder : 1 ≤ c.bidders
  pub few_bidders : c.bidders ≤ 12
  pub some_kind : 1 ≤ c.kinds
  pub few_kinds : c.kinds ≤ 12
  pub few_lists : list_count c ≤ 20000

-- a list of one count for each kind, which add to the number of bidders
pub record AreCounts (bidders kinds : ℕ) (counts : List ℕ) : Type 0 where
  pub one_each : length counts ≡ kinds
  pub add : sum counts ≡ bidders
