-- What bidders of a threshold auction have at a profile of reports and a draw.
use Rattle.std.specs.Prelude.{ℕ, ◌≡◌, ℤ, pos, ◌*ℤ◌, ◌≤ℤ◌, ◌<ℤ◌, unsigned_abs, List, length, slice_get, slice_index, Option, Some, MatchOption, if◌then◌else◌, ⊤}
use Rattle.md_math.specs.Divisors.{IsLeastTerms}
use Rattle.md_math.specs.Lists.{number_at}
use Rattle.md_math.specs.Sums.{sum_to}
use Rattle.md_num.specs.declared.frac.Frac.{Frac}
use Rattle.md_setting.specs.Auction.{SymmetricAuction}
use Rattle.md_mech.specs.Optimal.{IsOptimal}
use Rattle.md_winners.specs.Setting.{units_of}
use Rattle.md_winners.specs.Odds.{win_in, paid_in}
use Rattle.md_iron_values.specs.Pools.{Pools}
use Rattle.md_iron_pools.specs.ByRule.{IsAuctionByRule}
use Rattle.md_threshold_laws.specs.Rule.{draw_count, draws_at, wins_at}
use Rattle.md_threshold_laws.specs.Mechanisms.{threshold_mechanism}
use Rattle.md_threshold.specs.declared.shares.Share.{Share}
use Rattle.md_threshold.specs.declared.shares.Award.{Award}
use Rattle.md_threshold.specs.declared.refusal.AwardRefusal.{AwardRefusal}
use Rattle.md_threshold.specs.declared.refusal.AwardRefusal.TheVariants.{Draw, Memory}

-- ---- of one bidder, counted from 0

-- in units of one over the number of draws, how often it wins by the threshold rule, and what it pays
abbrev pub won_by_rule : SymmetricAuction → ℕ → Pools → List ℕ → ℕ → ℤ
won_by_rule a units pools t i = win_in a units (threshold_mechanism a units pools) i t

abbrev pub paid_by_rule : SymmetricAuction → ℕ → Pools → List ℕ → ℕ → ℤ
paid_by_rule a units pools t i = paid_in a units (threshold_mechanism a units pools) i t

-- where it wins, and only then, it pays the price: as often as it wins, that is what it pays over all draws; and it is at most its value
pub record IsWinnersPrice (a : SymmetricAuction) (units : ℕ) (pools : Pools) (t : List ℕ) (i : ℕ) (price : Frac) : Type 0 where
  pub some : pos 0 <ℤ won_by_rule a units pools t i
  pub paid : won_by_rule a units pools t i *ℤ price.num ≡ paid_by_rule a units pools t i *ℤ price.den
  pub from : pos 0 ≤ℤ price.num
  pub most : price.num ≤ℤ (number_at a.values (slice_index t i) *ℤ price.den)
  pub least : IsLeastTerms price.num price.den

pub record IsLoser (a : SymmetricAuction) (units : ℕ) (pools : Pools) (t : List ℕ) (i : ℕ) : Type 0 where
  pub never : won_by_rule a units pools t i ≡ pos 0
  pub nothing : paid_by_rule a units pools t i ≡ pos 0

abbrev pub IsPriceOf : SymmetricAuction → ℕ → Pools → List ℕ → ℕ → Option Frac → Type 0
IsPriceOf a units pools t i price = MatchOption price (IsLoser a units pools t i) (IsWinnersPrice a units pools t i)

pub record IsShare (a : SymmetricAuction) (units : ℕ) (pools : Pools) (t : List ℕ) (draw i : ℕ) (share : Share) : Type 0 where
  pub chance : share.chance.num *ℤ pos draw_count ≡ won_by_rule a units pools t i *ℤ share.chance.den
  pub least : IsLeastTerms share.chance.num share.chance.den
  pub price : IsPriceOf a units pools t i share.price
  pub wins : share.wins ≡ wins_at units pools t draw i

-- ---- of all bidders

pub record AreShares (a : SymmetricAuction) (units : ℕ) (pools : Pools) (t : List ℕ) (draw n : ℕ) (shares : List Share) : Type 0 where
  pub one_each : length shares ≡ n
  pub share : (i : ℕ) (share : Share) → slice_get shares i ≡ Some share → IsShare a units pools t draw i share

-- a draw is one of so many, counted from 0
pub record IsDraw (draws : ℕ) (draw : ℤ) : Type 0 where
  pub from : pos 0 ≤ℤ draw
  pub below : draw <ℤ pos draws

-- The pools are those that the rule of ironing names, so that no mechanism of the units is better than the threshold rule with them.
-- At this draw no more bidders win than there are units; over all draws that tell who wins, each bidder wins as often as its chance says.
pub record IsAward (a : SymmetricAuction) (units : ℕ) (t : List ℕ) (draw : ℤ) (award : Award) : Type 0 where
  pub pools : Pools
  pub by_rule : IsAuctionByRule a pools
  pub optimal : IsOptimal (units_of a units) (threshold_mechanism a units pools)
  pub enough : sum_to a.bidders (λ i. if wins_at units pools t (unsigned_abs draw) i then pos 1 else pos 0) ≤ℤ pos units
  pub in_range : IsDraw (draws_at units pools t) draw
  pub shares : AreShares a units pools t (unsigned_abs draw) a.bidders award.shares.items
  pub fair : (i : ℕ) (share : Share) → slice_get award.shares.items i ≡ Some share
      → share.chance.num *ℤ pos (draws_at units pools t) ≡ sum_to (draws_at units pools t) (λ d. if wins_at units pools t d i then pos 1 else pos 0) *ℤ share.chance.den

-- the draw is none of as many as tell who wins
pub record IsOutOfDraws (a : SymmetricAuction) (units : ℕ) (t : List ℕ) (draw : ℤ) (draws : ℕ) : Type 0 where
  pub pools : Pools
  pub by_rule : IsAuctionByRule a pools
  pub draws_are : draws ≡ draws_at units pools t
  pub out : ¬ IsDraw draws draw

abbrev pub IsAwardRefused : SymmetricAuction → ℕ → List ℕ → ℤ → AwardRefusal → Type 0
IsAwardRefused a units t draw (Draw draws) = IsOutOfDraws a units t draw draws
IsAwardRefused a units t draw Memory = ⊤
