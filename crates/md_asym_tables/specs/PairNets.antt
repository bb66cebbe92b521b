-- The net of a sale with interim odds: a node for each profile, and a demand for each pair.
use Rattle.std.specs.Prelude.{◌≡◌, ℕ, ◌<◌, ℤ, pos, ◌*ℤ◌, ◌≤ℤ◌, Bool, ◌==◌, if◌then◌else◌, List, slice_index}
use Rattle.md_math.specs.Lists.{list_to, number_at}
use Rattle.md_space.specs.Profiles.{profile_count, profile_at}
use Rattle.md_setting.specs.Setting.{GeneralSetting}
use Rattle.md_setting.specs.Meaning.{sizes_of, weight_of}
use Rattle.md_flow.specs.Network.{Network, node_count, demand_count, cap_of, room_of}
use Rattle.md_asym_sale.specs.Pairs.{agent_of, kind_of}
use Rattle.md_asym_sale.specs.Sides.{demand_at}
use Rattle.md_asym_sale.specs.Values.{pairs_of}

-- what there is to give at the profile of a rank, in units of one over the denominator
abbrev pub cap_at : GeneralSetting → ℤ → ℕ → ℤ
cap_at s den r = den *ℤ weight_of s (profile_at (sizes_of s) r)

-- whether the agent of a pair has its type at the profile of a rank
abbrev pub has_at : GeneralSetting → ℕ → ℕ → Bool
has_at s r p = slice_index (profile_at (sizes_of s) r) (agent_of (sizes_of s) p) == kind_of (sizes_of s) p

-- the cap of a node is what there is to give at its profile, and it may give all of this to each pair of an agent with its type, and nothing to another
pub record IsNetOf (s : GeneralSetting) (den : ℤ) (odds : List ℤ) (net : Network) : Type 0 where
  pub caps : net.caps ≡ list_to (profile_count (sizes_of s)) (cap_at s den)
  pub wants : net.wants ≡ list_to (pairs_of s) (demand_at s (number_at odds))
  pub nonneg : (u : ℕ) → u < node_count net → pos 0 ≤ℤ cap_of net u
  pub rooms : (u p : ℕ) → u < node_count net → p < demand_count net → room_of net u p ≡ (if has_at s u p then cap_of net u else pos 0)
