-- Profile tables of a sale: how often the item goes to each agent at each profile, by rank and then by agent.
use Rattle.std.specs.Prelude.{◌≡◌, ℕ, ◌+◌, ◌*◌, ◌<◌, ℤ, pos, ◌≤ℤ◌, List, length, slice_index, if◌then◌else◌}
use Rattle.md_math.specs.Lists.{number_at, list_to, up_to}
use Rattle.md_math.specs.Sums.{sum_to}
use Rattle.md_space.specs.Profiles.{profile_count, profile_at}
use Rattle.md_setting.specs.Setting.{GeneralSetting}
use Rattle.md_setting.specs.Meaning.{agent_count, sizes_of}
use Rattle.md_asym_tables.specs.PairNets.{cap_at, has_at}
use Rattle.md_asym_sale.specs.Pairs.{agent_of, pair_number}
use Rattle.md_asym_sale.specs.Sides.{demand_at}
use Rattle.md_asym_sale.specs.Values.{pairs_of}

-- the mass of an agent at the profile of a rank
abbrev pub mass_at : GeneralSetting → List ℤ → ℕ → ℕ → ℤ
mass_at s y r i = number_at y (r * agent_count s + i)

-- no mass is negative, and those of a profile add to no more than there is to give
pub record IsProfileTable (s : GeneralSetting) (den : ℤ) (y : List ℤ) : Type 0 where
  pub one_each : length y ≡ profile_count (sizes_of s) * agent_count s
  pub nonneg : (r i : ℕ) → r < profile_count (sizes_of s) → i < agent_count s → pos 0 ≤ℤ mass_at s y r i
  pub inside : (r : ℕ) → r < profile_count (sizes_of s) → sum_to (agent_count s) (mass_at s y r) ≤ℤ cap_at s den r

-- the mass of a pair at the profile of a rank: that of its agent where it has the pair's type
abbrev pub mass_where : GeneralSetting → List ℤ → ℕ → ℕ → ℤ
mass_where s y p r = if has_at s r p then mass_at s y r (agent_of (sizes_of s) p) else pos 0

-- what the masses of a pair add to
abbrev pub mass_of : GeneralSetting → List ℤ → ℕ → ℤ
mass_of s y p = sum_to (profile_count (sizes_of s)) (mass_where s y p)

-- the masses of each pair add to its demand, over the same denominator
pub record Implements (s : GeneralSetting) (odds y : List ℤ) : Type 0 where
  pub exact : (p : ℕ) → p < pairs_of s → mass_of s y p ≡ demand_at s (number_at odds) p

-- of amounts by rank and then by pair, those of the agents with their types, at a profile and at all
abbrev pub masses_in_at : GeneralSetting → List ℤ → ℕ → List ℤ
masses_in_at s amounts r =
    list_to (agent_count s) (λ i. number_at amounts (r * pairs_of s + pair_number (sizes_of s) i (slice_index (profile_at (sizes_of s) r) i)))

abbrev pub masses_in : GeneralSetting → List ℤ → List ℤ
masses_in s amounts = up_to (profile_count (sizes_of s)) (masses_in_at s amounts)
