-- When a fraction is the value of a mechanism.
use Rattle.std.specs.Prelude.{◌≡◌, ◌*ℤ◌}
use Rattle.md_math.specs.Divisors.{IsLeastTerms}
use Rattle.md_num.specs.declared.frac.Frac.{Frac}
use Rattle.md_setting.specs.Setting.{GeneralSetting}
use Rattle.md_setting.specs.Meaning.{total_of}
use Rattle.md_mech.specs.declared.mechanism.Mechanism.{Mechanism}
use Rattle.md_mech.specs.Optimal.{worth_of}

-- it is what the designer gets over all profiles by weight, over the denominator times the weight of all profiles
abbrev pub HasValue : GeneralSetting → Mechanism → Frac → Type 0
HasValue s m value = value.num *ℤ (m.den *ℤ total_of s) ≡ worth_of s m *ℤ value.den

-- it is this value in least terms
pub record IsValueOf (s : GeneralSetting) (m : Mechanism) (value : Frac) : Type 0 where
  pub is_value : HasValue s m value
  pub least : IsLeastTerms value.num value.den
