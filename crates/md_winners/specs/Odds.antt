-- Which mechanisms of a sale of several units have some interim odds and payments, and by how much sets of values ask for units
-- more often than there are some (Border 1991).
use Rattle.std.specs.Prelude.{◌≡◌, ℕ, ◌<◌, ℤ, pos, ◌*ℤ◌, List, if◌then◌else◌}
use Rattle.md_math.specs.Lists.{number_at}
use Rattle.md_math.specs.Sums.{sum_to}
use Rattle.md_lp.specs.Worst.{IsWorstBy, NoneOverBy}
use Rattle.md_setting.specs.Auction.{SymmetricAuction, value_count}
use Rattle.md_setting.specs.Meaning.{outcome_count}
use Rattle.md_mech.specs.declared.mechanism.Mechanism.{Mechanism}
use Rattle.md_mech.specs.Mechanism.{chance_of, pay_of}
use Rattle.md_mech.specs.Utility.{weighted_given}
use Rattle.md_border.specs.declared.interim.Interim.{Interim}
use Rattle.md_border.specs.Odds.{unit_excess_of, weight_given}
use Rattle.md_winners.specs.Sets.{holds, set_at}
use Rattle.md_winners.specs.Setting.{units_of}

-- how often bidder i, counted from 0, wins a unit at the report t: the chances of all sets that hold it
abbrev pub win_in : SymmetricAuction → ℕ → Mechanism → ℕ → List ℕ → ℤ
win_in a units m i t =
    sum_to (outcome_count (units_of a units))
    (λ o. if holds (set_at a.bidders units o) i then chance_of (units_of a units) m t o else pos 0)

-- what it pays there
abbrev pub paid_in : SymmetricAuction → ℕ → Mechanism → ℕ → List ℕ → ℤ
paid_in a units m i t = pay_of (units_of a units) m i t

-- A mechanism of the units in which each bidder with each value wins one, on average over the values of the others, as often as
-- the odds over the denominator say.
pub record HasUnitOdds (a : SymmetricAuction) (units : ℕ) (m : Mechanism) (den : ℤ) (odds : List ℤ) : Type 0 where
  pub wins : (i v : ℕ) → i < a.bidders → v < value_count a
      → den *ℤ weighted_given (units_of a units) i v (win_in a units m i) ≡ m.den *ℤ (pos (weight_given a v) *ℤ number_at odds v)

-- A mechanism of the units in which each bidder with each value pays, on average over the values of the others, what the
-- payments over the denominator say.
pub record HasUnitPays (a : SymmetricAuction) (units : ℕ) (m : Mechanism) (den : ℤ) (pays : List ℤ) : Type 0 where
  pub paid : (i v : ℕ) → i < a.bidders → v < value_count a
      → den *ℤ weighted_given (units_of a units) i v (paid_in a units m i) ≡ m.den *ℤ (pos (weight_given a v) *ℤ number_at pays v)

-- the largest of the sets with the greatest excess, which is positive
abbrev pub IsWorstUnitSet : SymmetricAuction → ℕ → Interim → ℕ → Type 0
IsWorstUnitSet a units interim = IsWorstBy (value_count a) (unit_excess_of a units interim)

-- no set asks for more units than there are
abbrev pub MeetsUnitBorder : SymmetricAuction → ℕ → Interim → Type 0
MeetsUnitBorder a units interim = NoneOverBy (value_count a) (unit_excess_of a units interim)
