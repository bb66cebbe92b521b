-- By how much sets of pairs ask for the item more often than it can go to one of them (Border 1991). A set of pairs is a
-- number: the bit of a pair's number is 1 where the set has the pair.
use Rattle.std.specs.Prelude.{ℕ, ℤ, pos, ◌*ℤ◌, Bool, List, slice_index, if◌then◌else◌}
use Rattle.md_math.specs.Sets.{member}
use Rattle.md_math.specs.Sums.{sum_to, total_by}
use Rattle.md_space.specs.AllProfiles.{profiles_of}
use Rattle.md_setting.specs.Setting.{GeneralSetting}
use Rattle.md_setting.specs.Meaning.{agent_count, sizes_of, weight_of}
use Rattle.md_flow.specs.Over.{any_below}
use Rattle.md_asym_sale.specs.Pairs.{pair_number}
use Rattle.md_asym_sale.specs.Values.{pairs_of, marginal_at}

-- whether the pair of some agent and its type at a profile is in the set
abbrev pub has_some : GeneralSetting → ℕ → List ℕ → Bool
has_some s set t = any_below (agent_count s) (λ i. member set (pair_number (sizes_of s) i (slice_index t i)))

-- the weight of the profiles with some pair in the set
abbrev pub right_of : GeneralSetting → ℕ → ℤ
right_of s set = total_by (λ t. if has_some s set t then weight_of s t else pos 0) (profiles_of (sizes_of s))

-- how often a pair asks for the item by its odds, by weight
abbrev pub demand_at : GeneralSetting → (ℕ → ℤ) → ℕ → ℤ
demand_at s x p = marginal_at s p *ℤ x p

-- the same of the pairs of a set together
abbrev pub demands_in : GeneralSetting → (ℕ → ℤ) → ℕ → ℤ
demands_in s x set = sum_to (pairs_of s) (λ p. if member set p then demand_at s x p else pos 0)
