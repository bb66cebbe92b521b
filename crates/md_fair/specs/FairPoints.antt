-- The points of the fair program that mechanisms and levels are, and the rays that payments are.
use Rattle.std.specs.Prelude.{ℤ, pos, List, [], ◌∷◌, ◌++◌}
use Rattle.md_setting.specs.Setting.{GeneralSetting}
use Rattle.md_mech.specs.declared.mechanism.Mechanism.{Mechanism}
use Rattle.md_cert.specs.declared.certificate.Certificate.{Certificate}
use Rattle.md_cert.specs.declared.certificate.Certificate.TheVariants.{Optimal, Infeasible, Unbounded}
use Rattle.md_rows.specs.Points.{point_of, plus_part, minus_part}
use Rattle.md_claims.specs.Rays.{ray_of}

-- numbers for the setting's columns, and the two parts of a level
abbrev pub with_level : List ℤ → ℤ → List ℤ
with_level numbers level = numbers ++ plus_part level ∷ minus_part level ∷ []

-- the point of the mechanism, and the level
abbrev pub fair_point_of : GeneralSetting → Mechanism → ℤ → List ℤ
fair_point_of s m level = with_level (point_of s m) level

-- the ray that adds these payments, and 1 to the level
abbrev pub fair_ray_of : GeneralSetting → List ℤ → List ℤ
fair_ray_of s pays = with_level (ray_of s pays) (pos 1)

-- the certificate with a level behind its point, and 1 behind its ray
abbrev pub leveled : Certificate → ℤ → Certificate
leveled (Optimal den point bound) level = Optimal den (with_level point level) bound
leveled (Infeasible face) level = Infeasible face
leveled (Unbounded den point ray) level = Unbounded den (with_level point level) (with_level ray (pos 1))
