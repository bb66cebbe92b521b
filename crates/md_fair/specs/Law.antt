-- What the points of the fair program say of mechanisms: of any denominator, with numbers of any size.
use Rattle.std.specs.Prelude.{ℕ, ◌<◌, ℤ, ◌≤ℤ◌, ◌↔◌}
use Rattle.md_math.specs.Lists.{number_at}
use Rattle.md_setting.specs.Setting.{GeneralSetting}
use Rattle.md_setting.specs.Meaning.{agent_count}
use Rattle.md_mech.specs.declared.mechanism.Mechanism.{Mechanism}
use Rattle.md_mech.specs.Mechanism.{IsMechanism}
use Rattle.md_mech.specs.Admissible.{IsAdmissible}
use Rattle.md_lp.specs.Program.{Program}
use Rattle.md_lp.specs.Point.{Meets}
use Rattle.md_rows.specs.Points.{mechanism_of}
use Rattle.md_fair.specs.FairPoints.{fair_point_of}
use Rattle.md_fair.specs.FairProgram.{level_in}
use Rattle.md_fair.specs.Mean.{mean_of}

-- each agent gets at least the level on average
abbrev pub ReachesLevel : GeneralSetting → Mechanism → ℤ → Type 0
ReachesLevel s m level = (i : ℕ) → i < agent_count s → level ≤ℤ mean_of s m i

-- the mechanism of each point that meets the program is admissible, and each agent gets at least the level of the point
abbrev pub AdmitsMechanisms : GeneralSetting → Program → Type 0
AdmitsMechanisms s p = (den : ℤ) (x : ℕ → ℤ) → Meets p den x → IsAdmissible s (mechanism_of s den x) × ReachesLevel s (mechanism_of s den x) (level_in s x)

-- the point of a mechanism and a level meets the program exactly where the mechanism is admissible and reaches the level
abbrev pub AdmitsLevels : GeneralSetting → Program → Type 0
AdmitsLevels s p =
    (m : Mechanism) (level : ℤ) → IsMechanism s m
    → Meets p m.den (number_at (fair_point_of s m level)) ↔ (IsAdmissible s m × ReachesLevel s m level)
