-- Who gets a slot by the rule of a list where bidders have the values of a profile, and what each of them pays.
use Rattle.std.specs.Prelude.{◌≡◌, ℕ, suc, ◌<◌, pos, List, length, slice_index_or}
use Rattle.md_setting.specs.Grouped.{GroupedAuction, bidder_count}
use Rattle.md_list.specs.declared.won.Won.{Won}
use Rattle.md_list.specs.Ranks.{Rank}
use Rattle.md_list.specs.Rule.{slot_at, amount_at, payment}

abbrev pub won_at : List Won → ℕ → Won
won_at won h = slice_index_or won h (record { bidder = 0; amount = pos 0; pays = pos 0 })

-- the bidder has the slot behind h others, and gets and pays what the rule says
pub record IsWinner (a : GroupedAuction) (ranks : List Rank) (t : List ℕ) (h : ℕ) (won : Won) : Type 0 where
  pub bidder : won.bidder < bidder_count a
  pub slot : slot_at a ranks t won.bidder ≡ suc h
  pub amount : won.amount ≡ pos (amount_at a ranks t won.bidder)
  pub pays : won.pays ≡ payment a ranks won.bidder t

-- the bidders with slots, by their slots from the first, and all of them
pub record AreWinners (a : GroupedAuction) (ranks : List Rank) (t : List ℕ) (won : List Won) : Type 0 where
  pub each : (h : ℕ) → h < length won → IsWinner a ranks t h (won_at won h)
  pub all : (i h : ℕ) → i < bidder_count a → slot_at a ranks t i ≡ suc h → (h < length won) × ((won_at won h).bidder ≡ i)
