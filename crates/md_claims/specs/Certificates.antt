-- What an answer says of a mechanism as a certificate of the setting's program.
use Rattle.std.specs.Prelude.{ℤ, List}
use Rattle.md_setting.specs.Setting.{GeneralSetting}
use Rattle.md_mech.specs.declared.mechanism.Mechanism.{Mechanism}
use Rattle.md_cert.specs.declared.bound.Bound.{Bound}
use Rattle.md_cert.specs.declared.certificate.Certificate.{Certificate}
use Rattle.md_cert.specs.declared.certificate.Certificate.TheVariants.{Optimal, Unbounded}
use Rattle.md_rows.specs.Points.{point_of}
use Rattle.md_claims.specs.Rays.{ray_of}

-- the point of the mechanism with these multipliers
abbrev pub optimal_certificate : GeneralSetting → Mechanism → Bound → Certificate
optimal_certificate s m bound = Optimal m.den (point_of s m) bound

-- the point of the mechanism with the ray of these payments
abbrev pub unbounded_certificate : GeneralSetting → Mechanism → List ℤ → Certificate
unbounded_certificate s m pays = Unbounded m.den (point_of s m) (ray_of s pays)
