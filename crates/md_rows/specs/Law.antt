-- What the points of a setting's program say of its mechanisms: of any denominator, with numbers of any size.
use Rattle.std.specs.Prelude.{ℕ, ℤ, ◌≡◌, ◌*ℤ◌, ◌↔◌}
use Rattle.md_math.specs.Lists.{number_at}
use Rattle.md_setting.specs.Setting.{GeneralSetting}
use Rattle.md_mech.specs.declared.mechanism.Mechanism.{Mechanism}
use Rattle.md_mech.specs.Mechanism.{IsMechanism}
use Rattle.md_mech.specs.Admissible.{IsAdmissible}
use Rattle.md_mech.specs.Optimal.{worth_of}
use Rattle.md_lp.specs.Program.{Program}
use Rattle.md_lp.specs.Point.{Meets, cost_sum}
use Rattle.md_rows.specs.Points.{mechanism_of, point_of}

-- the point of a mechanism meets the program exactly where the mechanism is admissible
abbrev pub AdmitsPoints : GeneralSetting → Program → Type 0
AdmitsPoints s p = (m : Mechanism) → IsMechanism s m → Meets p m.den (number_at (point_of s m)) ↔ IsAdmissible s m

-- the mechanism of each point that meets the program is admissible
abbrev pub AdmitsMechanisms : GeneralSetting → Program → Type 0
AdmitsMechanisms s p = (den : ℤ) (x : ℕ → ℤ) → Meets p den x → IsAdmissible s (mechanism_of s den x)

-- the cost of a mechanism's point, times the cost factor, is what the mechanism is worth
abbrev pub CostsPoints : GeneralSetting → Program → Type 0
CostsPoints s p = (m : Mechanism) → IsMechanism s m → p.factor *ℤ cost_sum p (number_at (point_of s m)) ≡ worth_of s m

-- the cost of a point, times the cost factor, is what its mechanism is worth
abbrev pub CostsMechanisms : GeneralSetting → Program → Type 0
CostsMechanisms s p = (den : ℤ) (x : ℕ → ℤ) → p.factor *ℤ cost_sum p x ≡ worth_of s (mechanism_of s den x)

-- the mechanism of a mechanism's point is this mechanism
abbrev pub ReturnsMechanisms : GeneralSetting → Type 0
ReturnsMechanisms s = (m : Mechanism) → IsMechanism s m → mechanism_of s m.den (number_at (point_of s m)) ≡ m
