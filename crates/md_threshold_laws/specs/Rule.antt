-- The threshold rule for several units, of which each bidder wants one. Values are in pools; a profile gives each bidder the number of
-- a value. Bidders of higher pools win first, and where fewer units are left than a pool has bidders, each of these wins as often.
use Rattle.std.specs.Prelude.{ℕ, ◌≡◌, zero, suc, ◌+◌, ◌-◌, ◌*◌, ◌/◌, ◌%◌, min, max, ◌==◌, Bool, not, ◌&&◌, nat_lt, if◌then◌else◌, ℤ, pos, ◌*ℤ◌, List, length, slice_index}
use Rattle.md_math.specs.Lists.{number_at}
use Rattle.md_flow.specs.Over.{any_below}
use Rattle.md_space.specs.Profiles.{replaced}
use Rattle.md_setting.specs.Auction.{SymmetricAuction}
use Rattle.md_iron_values.specs.Pools.{Pools}
use Rattle.md_iron_values.specs.Odds.{pay_by}

-- ---- who is before whom

-- whether a value buys
abbrev pub buys : Pools → ℕ → Bool
buys pools v = not (nat_lt v pools.reserve)

-- whether a bidder with the value `other` is ahead of one with the value `own`: it buys, and its pool is a higher one
abbrev pub is_ahead : Pools → ℕ → ℕ → Bool
is_ahead pools own other = buys pools other && nat_lt (pools.first own) (pools.first other)

-- whether it is beside it: both buy, and are in the same pool
abbrev pub is_beside : Pools → ℕ → ℕ → Bool
is_beside pools own other = buys pools own && buys pools other && (pools.first other == pools.first own)

-- how many of the places below n pass a test
abbrev pub count_to : ℕ → (ℕ → Bool) → ℕ
count_to zero test = 0
count_to (suc n) test = count_to n test + (if test n then 1 else 0)

-- how many bidders of a profile are ahead of one with a value, and how many are in its pool
abbrev pub ahead : Pools → List ℕ → ℕ → ℕ
ahead pools t own = count_to (length t) (λ i. is_ahead pools own (slice_index t i))

abbrev pub beside : Pools → List ℕ → ℕ → ℕ
beside pools t own = count_to (length t) (λ i. is_beside pools own (slice_index t i))

-- ---- how often a bidder wins

-- how many of the units go to the bidders of the pool of a value
abbrev pub units_for : ℕ → Pools → List ℕ → ℕ → ℕ
units_for units pools t own = min (beside pools t own) (units - ahead pools t own)

-- Each of so many draws is as likely as any other. The numbers from 1 to 12 divide it.
unfoldable pub draw_count : ℕ
draw_count = 27720

-- at how many of them a bidder of the profile with a value wins: the units of its pool go to each bidder of the pool as often
abbrev pub chance : ℕ → Pools → List ℕ → ℕ → ℕ
chance units pools t own = units_for units pools t own * (draw_count / beside pools t own)

-- at how many bidder i would win with the value v, where the others have those of the profile
abbrev pub chance_with : ℕ → Pools → List ℕ → ℕ → ℕ → ℕ
chance_with units pools t i v = chance units pools (replaced t i v) v

-- What bidder i pays over all draws: each value up to its own, as often as its chance grows there. It grows only where a pool begins:
-- so bidder i pays the least values with which it would win.
abbrev pub payment : SymmetricAuction → ℕ → Pools → ℕ → List ℕ → ℤ
payment a units pools i t = pay_by (number_at a.values) (λ v. pos (chance_with units pools t i v)) (slice_index t i)

-- What bidder i pays where it wins is num/den: over all draws this is its payment.
abbrev pub IsPrice : SymmetricAuction → ℕ → Pools → ℕ → List ℕ → ℤ → ℤ → Type 0
IsPrice a units pools i t num den = pos (chance units pools t (slice_index t i)) *ℤ num ≡ payment a units pools i t *ℤ den

-- ---- who wins at a draw

-- the place of bidder i among the bidders of its pool, in their order
abbrev pub place_of : Pools → List ℕ → ℕ → ℕ
place_of pools t i = count_to i (λ k. is_beside pools (slice_index t i) (slice_index t k))

-- The units of a pool go one by one around the circle of its bidders, from the place that the draw names on: whether one of so many
-- units comes to a place, where there are so many bidders.
abbrev pub comes_to : ℕ → ℕ → ℕ → ℕ → Bool
comes_to bidders units draw place = any_below units (λ unit. (draw + unit) % bidders == place)

-- whether bidder i wins at a draw
abbrev pub wins_at : ℕ → Pools → List ℕ → ℕ → ℕ → Bool
wins_at units pools t draw i =
    comes_to (beside pools t (slice_index t i)) (units_for units pools t (slice_index t i)) draw (place_of pools t i)

-- ---- which draws tell who wins

-- whether a pool is split: at a draw some of its bidders win, and some do not
abbrev pub is_split : ℕ → Pools → List ℕ → ℕ → Bool
is_split units pools t own = nat_lt 0 (units_for units pools t own) && nat_lt (units_for units pools t own) (beside pools t own)

-- how many draws there are that differ: as many as the pool that is split has bidders, and one where none is
abbrev pub draws_at : ℕ → Pools → List ℕ → ℕ
draws_at units pools t = max 1 (count_to (length t) (λ i. is_split units pools t (slice_index t i)))
