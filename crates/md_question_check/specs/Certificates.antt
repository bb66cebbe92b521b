-- How the faults of a certificate are told.
use Rattle.md_math.specs.Lists.{number_at}
use Rattle.md_lp.specs.Program.{Program}
use Rattle.md_lp.specs.Point.{Meets}
use Rattle.md_cert.specs.declared.certificate.Certificate.{Certificate}
use Rattle.md_cert.specs.declared.certificate.Certificate.TheVariants as certificate
use Rattle.md_cert.specs.declared.cert_fault.CertFault.{CertFault}
use Rattle.md_cert.specs.declared.cert_fault.CertFault.TheVariants as fault
use Rattle.md_cert.specs.Certified.{Certified}
use Rattle.md_cert.specs.Fault.{IsFirstFault}
use Rattle.md_question.specs.Question.{IsProgramFor, Question}
use Rattle.md_question_check.specs.declared.verdict.Reject.{Reject}
use Rattle.md_question_check.specs.declared.verdict.Reject.TheVariants.{Audit, Value, Pair, Column, FaceRight, MainRight, RayRow, RayGain, Masses, Reduced, Level, Unmet}
use Rattle.md_question_check.specs.declared.verdict.Verdict.{Verdict}
use Rattle.md_question_check.specs.declared.verdict.Verdict.TheVariants.{Valid, Undecided, Rejected}
use Rattle.md_question_check.specs.Programs.{OfProgram}

-- the point of the certificate, if it has one, meets the program
abbrev pub HasMetPoint : Program → Certificate → Type 0
HasMetPoint p (certificate.Optimal den point bound) = Meets p den (number_at point)
HasMetPoint p (certificate.Infeasible face) = Unit {0}
HasMetPoint p (certificate.Unbounded den point ray) = Meets p den (number_at point)

-- the fault is one of the multipliers or of the ray
abbrev pub IsBehindPoint : CertFault → Type 0
IsBehindPoint (fault.Point row left right) = ⊥
IsBehindPoint _ = Unit {0}

-- it tells the first condition of the certificate that fails, with its numbers
abbrev pub TellsFault : Program → Certificate → Reject → Type 0
TellsFault p c (Audit broken) = ⊥
TellsFault p c (Value right) = ⊥
TellsFault p c (Pair row face main) = IsFirstFault p c (fault.Pair row face main)
TellsFault p c (Column column face main) = IsFirstFault p c (fault.Column column face main)
TellsFault p c (FaceRight sum) = IsFirstFault p c (fault.FaceRight sum)
TellsFault p c (MainRight bound cost) = IsFirstFault p c (fault.MainRight bound cost)
TellsFault p c (RayRow row sum) = IsFirstFault p c (fault.RayRow row sum)
TellsFault p c (RayGain sum) = IsFirstFault p c (fault.RayGain sum)
TellsFault p c (Masses kind sum demand) = ⊥
TellsFault p c (Reduced row left right) = ⊥
TellsFault p c (Level level) = ⊥
TellsFault p c (Unmet unmet) = ⊥

-- valid where the certificate is certified, else rejected with the first condition that fails
abbrev pub Judges : Program → Certificate → Verdict → Type 0
Judges p c Valid = Certified p c
Judges p c Undecided = ⊥
Judges p c (Rejected reject) = TellsFault p c reject

-- the question's program judges so
abbrev pub IsJudged : Question → Certificate → Verdict → Type 0
IsJudged q c verdict = OfProgram (IsProgramFor q) (λ p. Judges p c verdict)
