-- What the winner of one unit pays, by the best pool among the others.
use Rattle.std.specs.Prelude.{ℕ, ◌≡◌, ◌+◌, ◌/◌, ◌<◌, ◌≤◌, ◌==◌, Bool, false, nat_lt, if◌then◌else◌, List, length, slice_index}
use Rattle.md_math.specs.Divisors.{IsLeastTerms}
use Rattle.md_num.specs.declared.frac.Frac.{Frac}
use Rattle.md_space.specs.Profiles.{IsProfile}
use Rattle.md_setting.specs.Auction.{SymmetricAuction}
use Rattle.md_setting.specs.General.{general_of}
use Rattle.md_setting.specs.Meaning.{sizes_of}
use Rattle.md_iron_values.specs.Pools.{Pools}
use Rattle.md_threshold_laws.specs.Rule.{is_ahead, is_beside, count_to, draw_count, IsPrice}

-- how many bidders but one have values that pass a test
abbrev pub among_others : List ℕ → ℕ → (ℕ → Bool) → ℕ
among_others t i test = count_to (length t) (λ k. if k == i then false else test (slice_index t k))

-- The best pool among the others of bidder i is that of the value `other`, and so many of them are in it. Where the value is the first
-- one that buys, and nobody is in its pool, no other bidder buys.
pub record IsBest (pools : Pools) (t : List ℕ) (i other count : ℕ) : Type 0 where
  pub none_ahead : among_others t i (is_ahead pools other) ≡ 0
  pub beside : among_others t i (is_beside pools other) ≡ count

-- at how many draws a bidder with a value v then wins one unit
abbrev pub chance_against : Pools → ℕ → ℕ → ℕ → ℕ
chance_against pools other count v =
    if nat_lt v pools.reserve then 0
    else if nat_lt (pools.first v) (pools.first other) then 0 else if nat_lt (pools.first other) (pools.first v) then draw_count else draw_count / (count + 1)

-- At each profile in which a bidder has a value of the pool, and the best pool among the others is so, the price is what it pays where
-- it wins.
pub record IsPriceAgainst (a : SymmetricAuction) (pools : Pools) (kind other count : ℕ) (price : Frac) : Type 0 where
  pub least : IsLeastTerms price.num price.den
  pub paid : (t : List ℕ) (i : ℕ) → IsProfile (sizes_of (general_of a)) t → i < a.bidders → pools.reserve ≤ slice_index t i → pools.first (slice_index t i) ≡ pools.first kind → IsBest pools t i other count
      → IsPrice a 1 pools i t price.num price.den
