-- Lists of bids, from best to worst.
use Rattle.std.specs.Prelude.{◌≡◌, ℕ, suc, ◌<◌, ◌==◌, Bool, ◌&&◌, nat_le, nat_lt, if◌then◌else◌, List, [], ◌∷◌, length}
use Rattle.md_setting.specs.Grouped.{GroupedAuction, group_at}

-- a record of a list: of a group the values from number `first` up to, and without, number `stop`
pub record Rank : Type 0 where
  pub group : ℕ
  pub first : ℕ
  pub stop : ℕ

-- whether a record has value number v of group k
abbrev pub has_value : Rank → ℕ → ℕ → Bool
has_value rank k v = rank.group == k && nat_le rank.first v && nat_lt v rank.stop

-- the place of a value in a list: of the first record that has it, and behind all records where none does
abbrev pub place_of : List Rank → ℕ → ℕ → ℕ
place_of [] k v = 0
place_of (rank ∷ others) k v = if has_value rank k v then 0 else suc (place_of others k v)

-- ---- which lists are of the right form

-- by group how many of its values stand in no record once this one is read
abbrev pub left_after : (ℕ → ℕ) → Rank → ℕ → ℕ
left_after left rank k = if rank.group == k then rank.first else left k

-- Each record has some values of a group that is there: the greatest of those that stand in no record before it, and others from
-- there down. `left` says by group how many stand in none.
abbrev pub GoDown : ℕ → (ℕ → ℕ) → List Rank → Type 0
GoDown groups left [] = Unit {0}
GoDown groups left (rank ∷ others) =
    (rank.group < groups) × (rank.first < rank.stop) × (rank.stop ≡ left rank.group) × GoDown groups (left_after left rank) others

abbrev pub IsList : GroupedAuction → List Rank → Type 0
IsList a ranks = GoDown (length a.groups) (λ k. length (group_at a k).values) ranks
