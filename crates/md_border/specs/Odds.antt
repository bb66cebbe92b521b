-- Interim odds of an auction, which mechanisms have them, and Border's excesses (Border 1991).
use Rattle.std.specs.Prelude.{◌≡◌, ℕ, ◌+◌, ◌-◌, ◌*◌, ◌^◌, ◌<◌, ℤ, pos, ◌-ℤ◌, ◌*ℤ◌, ◌≤ℤ◌, List, length, slice_index, if◌then◌else◌}
use Rattle.md_math.specs.Lists.{number_at}
use Rattle.md_math.specs.Sizes.{AllWithin}
use Rattle.md_math.specs.Sums.{sum_to, total_by}
use Rattle.md_space.specs.AllProfiles.{profiles_of}
use Rattle.md_setting.specs.Meaning.{sizes_of, weight_of}
use Rattle.md_setting.specs.Auction.{SymmetricAuction, value_count, total_weight}
use Rattle.md_setting.specs.General.{general_of}
use Rattle.md_mech.specs.declared.mechanism.Mechanism.{Mechanism}
use Rattle.md_mech.specs.Accepted.{number_limit}
use Rattle.md_mech.specs.Mechanism.{chance_of, pay_of}
use Rattle.md_mech.specs.Utility.{weighted_given}
use Rattle.md_border.specs.declared.interim.Interim.{Interim}
use Rattle.md_math.specs.Sets.{member}
use Rattle.md_border.specs.Sides.{right_of, right_by_counts}

-- odds and payments for the kinds of an auction's values: the odds are 0 to 1, and no number is over the limit
pub record IsInterim (a : SymmetricAuction) (interim : Interim) : Type 0 where
  pub den_positive : pos 1 ≤ℤ interim.den
  pub den_size : interim.den ≤ℤ pos number_limit
  pub one_odds : length interim.odds ≡ value_count a
  pub one_pay : length interim.pays ≡ value_count a
  pub odds : (v : ℕ) → v < value_count a → (pos 0 ≤ℤ number_at interim.odds v) × (number_at interim.odds v ≤ℤ interim.den)
  pub pay_size : AllWithin number_limit interim.pays

-- the weight of the profiles in which a bidder has a value
abbrev pub weight_given : SymmetricAuction → ℕ → ℕ
weight_given a v = slice_index a.weights v * total_weight a.weights ^ (a.bidders - 1)

-- ---- what bidders have by any functions of the bidder, counted from 0, and of the profile

-- what all bidders together have of f with a value, over all profiles by weight
abbrev pub sum_given : SymmetricAuction → (ℕ → List ℕ → ℤ) → ℕ → ℤ
sum_given a f v = sum_to a.bidders (λ i. weighted_given (general_of a) i v (f i))

-- What each bidder with each value has of f, on average over the values of the others and in units of one over the whole, is
-- what the numbers over the denominator say: how often it wins by odds, or what it pays by payments.
pub record WinsAs (a : SymmetricAuction) (f : ℕ → List ℕ → ℤ) (whole den : ℤ) (numbers : List ℤ) : Type 0 where
  pub wins : (i v : ℕ) → i < a.bidders → v < value_count a
      → den *ℤ weighted_given (general_of a) i v (f i) ≡ whole *ℤ (pos (weight_given a v) *ℤ number_at numbers v)

-- how often the bidders with values in a set win, over all profiles by weight
abbrev pub won_in : SymmetricAuction → (ℕ → List ℕ → ℤ) → ℕ → ℤ
won_in a win set =
    total_by (λ t. sum_to a.bidders (λ i. if member set (slice_index t i) then weight_of (general_of a) t *ℤ win i t else pos 0))
    (profiles_of (sizes_of (general_of a)))

-- ---- odds and payments

-- A mechanism of the auction in which each bidder with each value wins, on average over the values of the others, as
-- often as the odds over the denominator say. Bidder i, counted from 0, wins at outcome i + 1.
pub record HasOdds (a : SymmetricAuction) (m : Mechanism) (den : ℤ) (odds : List ℤ) : Type 0 where
  pub wins : (i v : ℕ) → i < a.bidders → v < value_count a
      → den *ℤ weighted_given (general_of a) i v (λ t. chance_of (general_of a) m t (i + 1)) ≡ m.den *ℤ (pos (weight_given a v) *ℤ number_at odds v)

-- A mechanism of the auction in which each bidder with each value pays, on average over the values of the others, what the
-- payments over the denominator say.
pub record HasPays (a : SymmetricAuction) (m : Mechanism) (den : ℤ) (pays : List ℤ) : Type 0 where
  pub paid : (i v : ℕ) → i < a.bidders → v < value_count a
      → den *ℤ weighted_given (general_of a) i v (λ t. pay_of (general_of a) m i t) ≡ m.den *ℤ (pos (weight_given a v) *ℤ number_at pays v)

-- how often all bidders together ask for the item with a value, by weight, in units of one over the denominator
abbrev pub demand_of : SymmetricAuction → Interim → ℕ → ℤ
demand_of a interim v = pos (a.bidders * weight_given a v) *ℤ number_at interim.odds v

-- the same with the values in a set
abbrev pub demands_in : SymmetricAuction → Interim → ℕ → ℤ
demands_in a interim set = sum_to (value_count a) (λ v. if member set v then demand_of a interim v else pos 0)

-- by how much the demands of a set are above its right side
abbrev pub excess_of : SymmetricAuction → Interim → ℕ → ℤ
excess_of a interim set = demands_in a interim set -ℤ interim.den *ℤ right_of a set

-- the same for so many units, of which each bidder wants one
abbrev pub unit_excess_of : SymmetricAuction → ℕ → Interim → ℕ → ℤ
unit_excess_of a units interim set = demands_in a interim set -ℤ interim.den *ℤ right_by_counts a units set
