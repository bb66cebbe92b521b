-- What an agent gets of a mechanism on average over all profiles.
use Rattle.std.specs.Prelude.{ℕ, ℤ, ◌*ℤ◌}
use Rattle.md_math.specs.Sums.{total_by}
use Rattle.md_space.specs.AllProfiles.{profiles_of}
use Rattle.md_setting.specs.Setting.{GeneralSetting}
use Rattle.md_setting.specs.Meaning.{sizes_of, weight_of}
use Rattle.md_mech.specs.declared.mechanism.Mechanism.{Mechanism}
use Rattle.md_mech.specs.Utility.{expected_utility}

-- what agent i gets over all profiles by weight, where all report their true types, in units of one over the denominator;
-- its expected utility is this over the denominator times the weight of all profiles
abbrev pub mean_of : GeneralSetting → Mechanism → ℕ → ℤ
mean_of s m i = total_by (λ t. weight_of s t *ℤ expected_utility s m i t t) (profiles_of (sizes_of s))
