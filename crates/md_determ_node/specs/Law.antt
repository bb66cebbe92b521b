-- What the points of a node's program say of the setting's mechanisms: of any denominator, with numbers of any size.
use Rattle.std.specs.Prelude.{ℕ, ℤ, ◌↔◌, List, Option}
use Rattle.md_math.specs.Lists.{number_at}
use Rattle.md_setting.specs.Setting.{GeneralSetting}
use Rattle.md_mech.specs.declared.mechanism.Mechanism.{Mechanism}
use Rattle.md_mech.specs.Mechanism.{IsMechanism}
use Rattle.md_mech.specs.Admissible.{IsAdmissible}
use Rattle.md_lp.specs.Program.{Program}
use Rattle.md_lp.specs.Point.{Meets}
use Rattle.md_rows.specs.Law.{CostsPoints, CostsMechanisms}
use Rattle.md_rows.specs.Points.{mechanism_of, point_of}
use Rattle.md_determ_node.specs.NodeProgram.{IsNodeProgram, HasFixed}

-- The program of the node, whose points are the admissible mechanisms that have what is fixed, and cost what these are worth.
pub record IsNodeProgramWithLaws (s : GeneralSetting) (node : List (Option ℕ)) (p : Program) : Type 0 where
  pub program : IsNodeProgram s node p
  pub admits_points : (m : Mechanism) → IsMechanism s m → Meets p m.den (number_at (point_of s m)) ↔ (IsAdmissible s m × HasFixed s node m)
  pub admits_mechanisms : (den : ℤ) (x : ℕ → ℤ) → Meets p den x → IsAdmissible s (mechanism_of s den x) × HasFixed s node (mechanism_of s den x)
  pub costs_points : CostsPoints s p
  pub costs_mechanisms : CostsMechanisms s p
