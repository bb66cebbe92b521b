-- When a list of bids is called valid: each record is a pool of values, whose virtual values, added up from below, stay above the chord
-- and touch it at the end alone; the values of no record would lose; and records fall by their virtual values. Where two are equal in
-- what they bring the designer, what they bring in welfare decides.
use Rattle.std.specs.Prelude.{◌≡◌, ℕ, suc, ◌<◌, ℤ, pos, neg_ℤ, ◌-ℤ◌, ◌*ℤ◌, ◌<ℤ◌, List, [], ◌∷◌, length, slice_index_or}
use Rattle.md_math.specs.LexOrder.{IsPairNonNegative}
use Rattle.md_num.specs.declared.frac.Frac.{Frac}
use Rattle.md_setting.specs.Grouped.{Group, GroupedAuction, group_at}
use Rattle.md_list.specs.Ranks.{Rank, IsList, left_after}
use Rattle.md_list.specs.Gains.{weight_in, gain_of, benefit_of, between}

-- ---- records

-- the record at a place, with the virtual value that is said of it
abbrev pub rank_at : List Rank → ℕ → Rank
rank_at ranks p = slice_index_or ranks p (record { group = 0; first = 0; stop = 0 })

abbrev pub level_at : List Frac → ℕ → Frac
level_at levels p = slice_index_or levels p (record { num = pos 0; den = pos 1 })

-- what a function of the values of a record's group adds up to over the record
abbrev pub over_rank : (ℕ → ℤ) → Rank → ℤ
over_rank f rank = between f rank.first rank.stop

abbrev pub group_in : GroupedAuction → Rank → Group
group_in a rank = group_at a rank.group

-- The virtual value is that of the whole record, and each lower part of it has a greater one.
pub record IsPool (a : GroupedAuction) (rank : Rank) (level : Frac) : Type 0 where
  pub positive : pos 0 <ℤ level.den
  pub inside : (x : ℕ) → rank.first < x → x < rank.stop
      → (level.num *ℤ between (weight_in (group_in a rank)) rank.first x) <ℤ (level.den *ℤ between (gain_of a (group_in a rank)) rank.first x)
  pub whole : level.den *ℤ over_rank (gain_of a (group_in a rank)) rank ≡ level.num *ℤ over_rank (weight_in (group_in a rank)) rank

-- ---- values of no record

-- by group how many of its values stand in no record of the list
abbrev pub left_behind : (ℕ → ℕ) → List Rank → ℕ → ℕ
left_behind left [] = left
left_behind left (rank ∷ others) = left_behind (left_after left rank) others

abbrev pub unlisted : GroupedAuction → List Rank → ℕ → ℕ
unlisted a ranks = left_behind (λ k. length (group_at a k).values) ranks

-- a value and those above it that stand in no record bring nothing: less than nothing, or nothing and no welfare
abbrev pub BringsNothing : GroupedAuction → List Rank → ℕ → ℕ → Type 0
BringsNothing a ranks k v =
    IsPairNonNegative
    (neg_ℤ (between (gain_of a (group_at a k)) v (unlisted a ranks k)))
    (neg_ℤ (between (benefit_of (group_at a k)) v (unlisted a ranks k)))

-- ---- the order

-- a record brings something, or nothing and some welfare
abbrev pub BringsSome : GroupedAuction → Rank → Frac → Type 0
BringsSome a rank level = IsPairNonNegative level.num (over_rank (benefit_of (group_in a rank)) rank)

-- a record brings no less than another: its virtual value is greater, or the same and what it brings in welfare by weight no smaller
abbrev pub IsNoLess : GroupedAuction → Rank → Frac → Rank → Frac → Type 0
IsNoLess a rank level other lower =
    IsPairNonNegative
    (level.num *ℤ lower.den -ℤ lower.num *ℤ level.den)
    (over_rank (benefit_of (group_in a rank)) rank *ℤ over_rank (weight_in (group_in a other)) other
    -ℤ over_rank (benefit_of (group_in a other)) other *ℤ over_rank (weight_in (group_in a rank)) rank)

-- ---- the list

pub record IsValid (a : GroupedAuction) (ranks : List Rank) (levels : List Frac) : Type 0 where
  pub form : IsList a ranks
  pub one_each : length levels ≡ length ranks
  pub pool : (p : ℕ) → p < length ranks → IsPool a (rank_at ranks p) (level_at levels p)
  pub left_out : (k v : ℕ) → k < length a.groups → v < unlisted a ranks k → BringsNothing a ranks k v
  pub some : (p : ℕ) → p < length ranks → BringsSome a (rank_at ranks p) (level_at levels p)
  pub falling : (p : ℕ) → suc p < length ranks
      → IsNoLess a (rank_at ranks p) (level_at levels p) (rank_at ranks (suc p)) (level_at levels (suc p))
