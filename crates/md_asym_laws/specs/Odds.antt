-- Which mechanisms of a sale have some interim odds and payments. These are given by the numbers of the pairs of an agent and
-- one of its types, over a denominator.
use Rattle.std.specs.Prelude.{◌≡◌, ℕ, ◌+◌, ◌<◌, ℤ, ◌*ℤ◌, slice_index}
use Rattle.md_setting.specs.Setting.{GeneralSetting}
use Rattle.md_setting.specs.Meaning.{agent_count, sizes_of, marginal_of}
use Rattle.md_mech.specs.declared.mechanism.Mechanism.{Mechanism}
use Rattle.md_mech.specs.Mechanism.{chance_of, pay_of}
use Rattle.md_mech.specs.Utility.{weighted_given}
use Rattle.md_asym_sale.specs.Pairs.{pair_number}

-- Each agent with each type has the item, on average over the types of the others, as often as the odds over the denominator
-- say. Agent i, counted from 0, has it at outcome i + 1.
pub record HasPairOdds (s : GeneralSetting) (m : Mechanism) (den : ℤ) (odds : ℕ → ℤ) : Type 0 where
  pub wins : (i a : ℕ) → i < agent_count s → a < slice_index (sizes_of s) i
      → den *ℤ weighted_given s i a (λ t. chance_of s m t (i + 1)) ≡ m.den *ℤ (marginal_of s i a *ℤ odds (pair_number (sizes_of s) i a))

-- Each agent with each type pays, on average over the types of the others, what the payments over the denominator say.
pub record HasPairPays (s : GeneralSetting) (m : Mechanism) (den : ℤ) (pays : ℕ → ℤ) : Type 0 where
  pub paid : (i a : ℕ) → i < agent_count s → a < slice_index (sizes_of s) i
      → den *ℤ weighted_given s i a (λ t. pay_of s m i t) ≡ m.den *ℤ (marginal_of s i a *ℤ pays (pair_number (sizes_of s) i a))
