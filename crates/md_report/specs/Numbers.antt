-- Numbers that a report can be about.
use Rattle.std.specs.Prelude.{◌≡◌, ◌*◌, pos, ◌≤ℤ◌, length}
use Rattle.md_math.specs.Sizes.{IsWithin, AllWithin}
use Rattle.md_space.specs.Profiles.{profile_count}
use Rattle.md_setting.specs.Setting.{GeneralSetting}
use Rattle.md_setting.specs.Meaning.{agent_count, outcome_count, sizes_of}
use Rattle.md_mech.specs.Accepted.{number_limit}
use Rattle.md_mech.specs.declared.mechanism.Mechanism.{Mechanism}

-- Numbers in the form of a mechanism of the setting, of at most 2^62 - 1 in size. The chances of a profile need not add to the
-- whole, and may be negative.
pub record AreNumbers (s : GeneralSetting) (m : Mechanism) : Type 0 where
  pub den : pos 1 ≤ℤ m.den
  pub chance_count : length m.chances ≡ profile_count (sizes_of s) * outcome_count s
  pub pay_count : length m.pays ≡ profile_count (sizes_of s) * agent_count s
  pub den_size : IsWithin number_limit m.den
  pub chance_size : AllWithin number_limit m.chances
  pub pay_size : AllWithin number_limit m.pays
