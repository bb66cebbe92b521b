-- What is read off the taken path of a program whose points are mechanisms of a setting.
use Rattle.std.specs.Prelude.{◌≡◌, ◌≤◌, ℕ, ℤ, List}
use Rattle.md_math.specs.Lists.{number_at}
use Rattle.md_setting.specs.Setting.{GeneralSetting}
use Rattle.md_setting.specs.Rows.{column_count}
use Rattle.md_mech.specs.Accepted.{IsAccepted}
use Rattle.md_mech.specs.declared.mechanism.Mechanism.{Mechanism}
use Rattle.md_lp.specs.Program.{Program}
use Rattle.md_lp.specs.Point.{Meets}
use Rattle.md_cert.specs.Claims.{IsOptimalPoint}
use Rattle.md_cert.specs.Fitting.{FitsColumns}
use Rattle.md_cert.specs.declared.certificate.Certificate.{Certificate}
use Rattle.md_cert.specs.declared.certificate.Certificate.TheVariants as certificates
use Rattle.md_parts.specs.Fitting.{AreMultipliers, HasFraction, IsBoundOver, IsRayFor}
use Rattle.md_rows.specs.Points.{MeetsProgramOf, mechanism_of}
use Rattle.md_claims.specs.Rays.{pays_along}
use Rattle.md_simplex.specs.declared.end.End.{End}
use Rattle.md_simplex.specs.declared.simplex_error.SimplexError.{SimplexError}
use Rattle.md_simplex.specs.declared.simplex_error.SimplexError.TheVariants as errors
use Rattle.md_simplex.specs.Runs.{IsRun}
use Rattle.md_question_solve.specs.declared.reading.Reading.{Reading}
use Rattle.md_question_solve.specs.declared.reading.Reading.TheVariants.{Optimal, Infeasible, Unbounded}

-- the program has the setting's columns and maybe more behind them, and its points are points of the setting's program
pub record HasOwnPoints (s : GeneralSetting) (p : Program) : Type 0 where
  pub columns : column_count s ≤ p.columns
  pub meets : (den : ℤ) (x : ℕ → ℤ) → Meets p den x → MeetsProgramOf s den x

-- the reading tells the certificate: the mechanism of its point, the payments of its ray, and its multipliers as they are
abbrev pub TellsCertificate : GeneralSetting → Certificate → Reading → Type 0
TellsCertificate s (certificates.Optimal den point bound) (Optimal m told) = (m ≡ mechanism_of s den (number_at point)) × (told ≡ bound)
TellsCertificate s (certificates.Infeasible face) (Infeasible told) = told ≡ face
TellsCertificate s (certificates.Unbounded den point ray) (Unbounded m pays) = (m ≡ mechanism_of s den (number_at point)) × (pays ≡ pays_along s (number_at ray))
TellsCertificate s _ _ = ⊥

-- a path of the program is taken, and the reading tells what is read off its last dictionary
pub record TellsRun (s : GeneralSetting) (p : Program) (width : ℕ) (reading : Reading) : Type 0 where
  pub end : End
  pub run : IsRun p width end
  pub tells : TellsCertificate s end.certificate reading

-- the reading has the setting's sizes, and multipliers for so many rows
abbrev pub FitsReading : GeneralSetting → ℕ → Reading → Type 0
FitsReading s rows (Optimal m bound) = IsAccepted s m × IsBoundOver rows bound
FitsReading s rows (Infeasible face) = AreMultipliers rows face
FitsReading s rows (Unbounded m ray) = IsAccepted s m × IsRayFor s ray

-- this holds of the mechanism of a best point
abbrev pub WhereBest : (Mechanism → Type 0) → Reading → Type 0
WhereBest P (Optimal m bound) = P m
WhereBest P _ = Unit {0}

-- the mechanism is that of a best point of the program, with a number of at most 62 bits for each column
pub record IsOfBestPoint (s : GeneralSetting) (p : Program) (m : Mechanism) : Type 0 where
  pub den : ℤ
  pub point : List ℤ
  pub best : IsOptimalPoint p den (number_at point)
  pub fits : FitsColumns p point
  pub is : m ≡ mechanism_of s den (number_at point)

-- the first wide entry of each path is a fraction in its range
abbrev pub HasFractions : SimplexError → Type 0
HasFractions (errors.TooWide first second) = HasFraction first × HasFraction second
HasFractions errors.Memory = Unit {0}
