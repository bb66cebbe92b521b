-- The bids of a profile, and the slots that go with them, by bidder.
use Rattle.std.specs.Prelude.{◌≡◌, ℕ, suc, ◌<◌, ◌==◌, Bool, false, ◌&&◌, ◌||◌, nat_lt, if◌then◌else◌, List, length, slice_index, slice_index_or}
use Rattle.md_setting.specs.Grouped.{GroupedAuction, bidder_count, group_of}
use Rattle.md_list.specs.Ranks.{Rank}
use Rattle.md_list.specs.Rule.{place_at, count_to, slot_at}
use Rattle.md_list_award.specs.declared.bids.Bid.{Bid}

abbrev pub bid_at : List Bid → ℕ → Bid
bid_at bids i = slice_index_or bids i (record { group = 0; place = 0 })

-- the first n bids are those of the profile
pub record AreBidsTo (a : GroupedAuction) (ranks : List Rank) (t : List ℕ) (n : ℕ) (bids : List Bid) : Type 0 where
  pub long : length bids ≡ n
  pub group : (i : ℕ) → i < n → (bid_at bids i).group ≡ group_of a i
  pub place : (i : ℕ) → i < n → (bid_at bids i).place ≡ place_at a ranks t i

abbrev pub AreBids : GroupedAuction → List Rank → List ℕ → List Bid → Type 0
AreBids a ranks t bids = AreBidsTo a ranks t (bidder_count a) bids

-- ---- slots by bids

-- whether bidder j goes before bidder i, whose value has the place
abbrev pub goes_first : Bid → ℕ → ℕ → ℕ → Bool
goes_first bid j place i = nat_lt bid.place place || (bid.place == place && nat_lt j i)

-- how many of the others go before bidder i, whose value has the place
abbrev pub ahead : List Bid → ℕ → ℕ → ℕ
ahead bids i place = count_to (length bids) (λ j. if j == i then false else goes_first (bid_at bids j) j place i)

-- its slot, counted from 1, and 0 where it gets none, with so many records and slots
abbrev pub slot_for : ℕ → ℕ → List Bid → ℕ → ℕ → ℕ
slot_for ranks slots bids i place = if nat_lt place ranks && nat_lt (ahead bids i place) slots then suc (ahead bids i place) else 0

-- the first n bidders have these slots
pub record AreSlotsTo (a : GroupedAuction) (ranks : List Rank) (t : List ℕ) (n : ℕ) (slots : List ℕ) : Type 0 where
  pub long : length slots ≡ n
  pub slot : (i : ℕ) → i < n → slice_index slots i ≡ slot_at a ranks t i

abbrev pub AreSlots : GroupedAuction → List Rank → List ℕ → List ℕ → Type 0
AreSlots a ranks t slots = AreSlotsTo a ranks t (bidder_count a) slots
