-- Which admissible mechanisms are the fairest, and when there is none since the least has no bound.
use Rattle.std.specs.Prelude.{ℕ, ℤ, pos, ◌≤ℤ◌, ◌+ℤ◌, ◌*ℤ◌, List}
use Rattle.md_setting.specs.Setting.{GeneralSetting}
use Rattle.md_mech.specs.declared.mechanism.Mechanism.{Mechanism}
use Rattle.md_mech.specs.Admissible.{IsAdmissible}
use Rattle.md_mech.specs.Optimal.{raised}
use Rattle.md_fair.specs.Least.{IsLeast}

-- it is admissible, and no admissible mechanism, with any denominator, has a greater least
pub record IsOptimalFair (s : GeneralSetting) (m : Mechanism) : Type 0 where
  pub admissible : IsAdmissible s m
  pub least : ℤ
  pub is_least : IsLeast s m least
  pub best : (other : Mechanism) (theirs : ℤ) → IsAdmissible s other → IsLeast s other theirs → (theirs *ℤ m.den) ≤ℤ (least *ℤ other.den)

-- the mechanism with the payments has a least that is greater by at least k than the mechanism's
pub record GainsLeast (s : GeneralSetting) (m raised_m : Mechanism) (k : ℕ) : Type 0 where
  pub before : ℤ
  pub after : ℤ
  pub is_before : IsLeast s m before
  pub is_after : IsLeast s raised_m after
  pub gains : (before +ℤ pos k) ≤ℤ after

-- however often the ray is added to the payments, the mechanism stays admissible, and its least grows by at least 1 each time
abbrev pub GrowsFair : GeneralSetting → Mechanism → List ℤ → Type 0
GrowsFair s m ray = (k : ℕ) → IsAdmissible s (raised m k ray) × GainsLeast s m (raised m k ray) k
