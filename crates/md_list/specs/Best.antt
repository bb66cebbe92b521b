-- Which mechanisms of an auction with groups are best, and among these best in welfare.
use Rattle.std.specs.Prelude.{◌≡◌, ℤ, ◌*ℤ◌, ◌≤ℤ◌}
use Rattle.md_math.specs.Sums.{sum_to, total_by}
use Rattle.md_space.specs.AllProfiles.{profiles_of}
use Rattle.md_setting.specs.Setting.{GeneralSetting}
use Rattle.md_setting.specs.Meaning.{outcome_count, sizes_of, weight_of, welfare_of}
use Rattle.md_mech.specs.declared.mechanism.Mechanism.{Mechanism}
use Rattle.md_mech.specs.Mechanism.{chance_of}
use Rattle.md_mech.specs.Admissible.{IsAdmissible}
use Rattle.md_mech.specs.Optimal.{IsOptimal, worth_of}
use Rattle.md_setting.specs.Grouped.{GroupedAuction}
use Rattle.md_bidders.specs.Setting.{setting_of}

-- what slots are worth to those who get them, payments left out, over all profiles by weight, in units of one over the denominator
abbrev pub welfare_in : GeneralSetting → Mechanism → ℤ
welfare_in s m =
    total_by (λ t. weight_of s t *ℤ sum_to (outcome_count s) (λ o. chance_of s m t o *ℤ welfare_of s t o)) (profiles_of (sizes_of s))

-- no admissible mechanism, with any denominator, has a greater objective, and none with the same objective has greater welfare
pub record IsBest (a : GroupedAuction) (m : Mechanism) : Type 0 where
  pub optimal : IsOptimal (setting_of a) m
  pub fullest : (other : Mechanism) → IsAdmissible (setting_of a) other
      → worth_of (setting_of a) other *ℤ m.den ≡ worth_of (setting_of a) m *ℤ other.den
      → (welfare_in (setting_of a) other *ℤ m.den) ≤ℤ (welfare_in (setting_of a) m *ℤ other.den)
