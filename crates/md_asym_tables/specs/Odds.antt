-- Interim odds of the pairs of a sale, which mechanisms have them, and by how much sets of pairs ask for the item more often
-- than there are some (Border 1991).
use Rattle.std.specs.Prelude.{◌≡◌, ℕ, ◌+◌, ◌<◌, ℤ, pos, ◌-ℤ◌, ◌*ℤ◌, ◌≤ℤ◌, List, length, slice_index}
use Rattle.md_math.specs.Lists.{number_at}
use Rattle.md_lp.specs.Worst.{IsWorstBy, NoneOverBy}
use Rattle.md_setting.specs.Setting.{GeneralSetting}
use Rattle.md_setting.specs.Meaning.{agent_count, sizes_of, marginal_of}
use Rattle.md_mech.specs.declared.mechanism.Mechanism.{Mechanism}
use Rattle.md_mech.specs.Accepted.{number_limit}
use Rattle.md_mech.specs.Mechanism.{chance_of, pay_of}
use Rattle.md_mech.specs.Utility.{weighted_given}
use Rattle.md_asym_sale.specs.Pairs.{pair_number}
use Rattle.md_asym_sale.specs.Sides.{demands_in, right_of}
use Rattle.md_asym_sale.specs.Values.{pairs_of}

-- for each pair how often its agent gets the item with its type, over the denominator
pub record AreOdds (s : GeneralSetting) (den : ℤ) (odds : List ℤ) : Type 0 where
  pub den_positive : pos 1 ≤ℤ den
  pub den_size : den ≤ℤ pos number_limit
  pub one_each : length odds ≡ pairs_of s
  pub each : (p : ℕ) → p < pairs_of s → (pos 0 ≤ℤ number_at odds p) × (number_at odds p ≤ℤ den)

-- A mechanism of the sale in which each agent with each type has the item, on average over the types of the others, as often
-- as the odds over the denominator say. Agent i, counted from 0, has it at outcome i + 1.
pub record HasOdds (s : GeneralSetting) (m : Mechanism) (den : ℤ) (odds : List ℤ) : Type 0 where
  pub wins : (i a : ℕ) → i < agent_count s → a < slice_index (sizes_of s) i
      → den *ℤ weighted_given s i a (λ t. chance_of s m t (i + 1)) ≡ m.den *ℤ (marginal_of s i a *ℤ number_at odds (pair_number (sizes_of s) i a))

-- A mechanism of the sale in which each agent with each type pays, on average over the types of the others, what the payments
-- over the denominator say.
pub record HasPays (s : GeneralSetting) (m : Mechanism) (den : ℤ) (pays : List ℤ) : Type 0 where
  pub paid : (i a : ℕ) → i < agent_count s → a < slice_index (sizes_of s) i
      → den *ℤ weighted_given s i a (λ t. pay_of s m i t) ≡ m.den *ℤ (marginal_of s i a *ℤ number_at pays (pair_number (sizes_of s) i a))

-- by how much the demands of a set are above its right side, in units of one over the denominator
abbrev pub excess_of : GeneralSetting → ℤ → List ℤ → ℕ → ℤ
excess_of s den odds set = demands_in s (number_at odds) set -ℤ den *ℤ right_of s set

-- the largest of the sets with the greatest excess, which is positive
abbrev pub IsWorstSet : GeneralSetting → ℤ → List ℤ → ℕ → Type 0
IsWorstSet s den odds = IsWorstBy (pairs_of s) (excess_of s den odds)

-- no set asks for more than there is
abbrev pub MeetsBorder : GeneralSetting → ℤ → List ℤ → Type 0
MeetsBorder s den odds = NoneOverBy (pairs_of s) (excess_of s den odds)
