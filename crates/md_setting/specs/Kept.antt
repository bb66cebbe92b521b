-- How a setting is kept.
use Rattle.std.specs.Prelude.{◌≡◌, ℕ, ℤ, List, None, map}
use Rattle.md_math.specs.Lists.{list_to}
use Rattle.md_space.specs.Profiles.{profile_count, profile_at}
use Rattle.md_setting.specs.declared.raw.RawSetting.{RawSetting}
use Rattle.md_setting.specs.Setting.{written}
use Rattle.md_setting.specs.Meaning.{sizes_of, weight_of, total_of}
use Rattle.md_setting.specs.Names.{agent_names}
use Rattle.md_setting.specs.Rows.{row_count}
use Rattle.md_setting.specs.Shaped.{IsShaped}
use Rattle.md_setting.specs.Refusals.{refusal_of}

-- the names that are numbered are those of the setting as written
pub record AreNumbered (raw : RawSetting) (agents outcomes : List (List ℕ)) (types : List (List (List ℕ))) : Type 0 where
  pub agents_are : agents ≡ agent_names (written raw)
  pub outcomes_are : outcomes ≡ (written raw).outcomes
  pub types_are : types ≡ map (λ agent. agent.types) (written raw).agents

-- what is kept beside the setting as written is right
pub record IsKept (raw : RawSetting) (sizes : List ℕ) (agents outcomes : List (List ℕ)) (types : List (List (List ℕ))) (weights : List ℤ) (total : ℤ) (rows : ℕ) : Type 0 where
  pub accepted : refusal_of (written raw) ≡ None
  pub shaped : IsShaped (written raw)
  pub sizes_are : sizes ≡ sizes_of (written raw)
  pub numbered : AreNumbered raw agents outcomes types
  pub weights_are : weights ≡ list_to (profile_count (sizes_of (written raw))) (λ r. weight_of (written raw) (profile_at (sizes_of (written raw)) r))
  pub total_is : total ≡ total_of (written raw)
  pub rows_are : rows ≡ row_count (written raw)
