-- What is known of a setting that is not refused.
use Rattle.std.specs.Prelude.{◌≡◌, ℕ, ◌<◌, ◌≤◌, ℤ, pos, ◌≤ℤ◌, ◌<ℤ◌, List, [], length, None, Some, slice_index, slice_index_or}
use Rattle.md_math.specs.Lists.{number_at}
use Rattle.md_math.specs.Sizes.{IsWithin}
use Rattle.md_space.specs.Profiles.{IsProfile, profile_count}
use Rattle.md_space.specs.Sizes.{IsSpace}
use Rattle.md_setting.specs.Setting.{GeneralSetting}
use Rattle.md_setting.specs.Meaning.{agent_at, agent_count, outcome_count, sizes_of, utility_of, outside_of, weight_of, total_of, marginal_of, value_of}
use Rattle.md_setting.specs.Rows.{row_count, cell_count}

-- each list runs over what it should
pub record IsListed (s : GeneralSetting) : Type 0 where
  pub space : IsSpace (sizes_of s)
  pub some_outcome : 0 < outcome_count s
  pub few_outcomes : outcome_count s ≤ 16
  pub outside : (i : ℕ) → i < agent_count s → length (agent_at s i).outside ≡ slice_index (sizes_of s) i
  pub utility : (i : ℕ) → i < agent_count s → (agent_at s i).at ≡ None → length (agent_at s i).utility ≡ slice_index (sizes_of s) i
  pub row : (i a : ℕ) → i < agent_count s → a < length (agent_at s i).utility → length (slice_index_or (agent_at s i).utility a []) ≡ outcome_count s
  pub beside_at : (at : List (List ℤ)) (i : ℕ) → i < agent_count s → (agent_at s i).at ≡ Some at → length (agent_at s i).utility ≡ 0
  pub at : (at : List (List ℤ)) (i : ℕ) → i < agent_count s → (agent_at s i).at ≡ Some at → length at ≡ profile_count (sizes_of s)
  pub at_row : (at : List (List ℤ)) (i r : ℕ) → i < agent_count s → (agent_at s i).at ≡ Some at → r < length at → length (slice_index_or at r []) ≡ outcome_count s
  pub weights : s.prior ≡ None → (i : ℕ) → i < agent_count s → length (agent_at s i).weights ≡ slice_index (sizes_of s) i
  pub beside_prior : (prior : List ℤ) → s.prior ≡ Some prior → (i : ℕ) → i < agent_count s → length (agent_at s i).weights ≡ 0
  pub prior : (prior : List ℤ) → s.prior ≡ Some prior → length prior ≡ profile_count (sizes_of s)
  pub values : length s.values ≡ outcome_count s

-- a weight: 0 to 1,000,000
pub record IsWeight (z : ℤ) : Type 0 where
  pub nonneg : pos 0 ≤ℤ z
  pub within : IsWithin 1000000 z

-- each number that is written is within its limit
pub record IsSmall (s : GeneralSetting) : Type 0 where
  pub utility : (i : ℕ) (t : List ℕ) (o : ℕ) → IsWithin 1000000 (utility_of s i t o)
  pub outside : (i a : ℕ) → IsWithin 1000000 (outside_of s i a)
  pub value : (o : ℕ) → IsWithin 1000000 (number_at s.values o)
  pub welfare : IsWithin 1000 s.welfare
  pub revenue : IsWithin 1000 s.revenue
  pub weight : (i a : ℕ) → IsWeight (number_at (agent_at s i).weights a)
  pub prior : (prior : List ℤ) → s.prior ≡ Some prior → (r : ℕ) → IsWeight (number_at prior r)

-- a setting within the limits
pub record IsShaped (s : GeneralSetting) : Type 0 where
  pub listed : IsListed s
  pub small : IsSmall s
  pub value : (t : List ℕ) (o : ℕ) → IsProfile (sizes_of s) t → o < outcome_count s → IsWithin 10000000 (value_of s t o)
  pub weight : (t : List ℕ) → IsProfile (sizes_of s) t → IsWeight (weight_of s t)
  pub marginal : (i a : ℕ) → i < agent_count s → a < slice_index (sizes_of s) i → pos 0 <ℤ marginal_of s i a
  pub total : IsWeight (total_of s)
  pub few_rows : row_count s ≤ 4096
  pub few_cells : cell_count s ≤ 4000000
