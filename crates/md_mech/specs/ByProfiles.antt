-- Mechanisms that are given by functions of the reported profile.
use Rattle.std.specs.Prelude.{ℕ, ℤ, List}
use Rattle.md_math.specs.Lists.{list_to, up_to}
use Rattle.md_space.specs.Profiles.{profile_count, profile_at}
use Rattle.md_setting.specs.Setting.{GeneralSetting}
use Rattle.md_setting.specs.Meaning.{agent_count, outcome_count, sizes_of}
use Rattle.md_mech.specs.declared.mechanism.Mechanism.{Mechanism}

-- the mechanism with these chances of outcomes and these payments of agents at each profile, over the denominator
abbrev pub mechanism_by : GeneralSetting → ℤ → (List ℕ → ℕ → ℤ) → (ℕ → List ℕ → ℤ) → Mechanism
mechanism_by s den chance pay = record {
  den = den;
  chances = up_to (profile_count (sizes_of s)) (λ r. list_to (outcome_count s) (chance (profile_at (sizes_of s) r)));
  pays = up_to (profile_count (sizes_of s)) (λ r. list_to (agent_count s) (λ i. pay i (profile_at (sizes_of s) r)));
}
