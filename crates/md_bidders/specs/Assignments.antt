-- The ways to give slots to bidders. A way says by bidder which slot it gets, counted from 1, and 0 where it gets none.
use Rattle.std.specs.Prelude.{ℕ, zero, suc, Bool, true, not, ◌&&◌, ◌==◌, List, [], ◌∷◌, length, replicate, filter, slice_index, slice_index_or}
use Rattle.std.specs.List.{list_any}
use Rattle.md_space.specs.AllProfiles.{profiles_of}
use Rattle.md_setting.specs.Grouped.{GroupedAuction, bidder_count}

-- no slot goes to two bidders
abbrev pub has_own_slots : List ℕ → Bool
has_own_slots [] = true
has_own_slots (zero ∷ others) = has_own_slots others
has_own_slots (suc slot ∷ others) = not (list_any (λ other. other == suc slot) others) && has_own_slots others

-- all ways for so many bidders and slots
abbrev pub assignments_of : ℕ → ℕ → List (List ℕ)
assignments_of bidders slots = filter has_own_slots (profiles_of (replicate bidders (suc slots)))

abbrev pub assignments : GroupedAuction → List (List ℕ)
assignments a = assignments_of (bidder_count a) (length a.slots)

-- the way at a place among them
abbrev pub assignment_at : GroupedAuction → ℕ → List ℕ
assignment_at a place = slice_index_or (assignments a) place []

-- the amount of a slot, counted from 1, and 0 where there is no slot
abbrev pub amount_of : List ℕ → ℕ → ℕ
amount_of slots zero = 0
amount_of slots (suc place) = slice_index slots place

-- what bidder i, counted from 0, gets in a way
abbrev pub amount_in : GroupedAuction → List ℕ → ℕ → ℕ
amount_in a way i = amount_of a.slots (slice_index way i)
