-- What a finding claims, what shows it, and what it must be to be written.
use Rattle.md_mech.specs.Accepted.{IsAccepted}
use Rattle.md_lp.specs.Program.{Program}
use Rattle.md_cert.specs.Certified.{Certified}
use Rattle.md_cert.specs.declared.certificate.Certificate.{Certificate}
use Rattle.md_cert.specs.declared.certificate.Certificate.TheVariants as certificates
use Rattle.md_parts.specs.Fitting.{AreMultipliers, IsBoundOver, IsFraction, IsRayFor}
use Rattle.md_question.specs.Question.{AdmitsNone, Question, optimal_certificate, unbounded_certificate}
use Rattle.md_question.specs.declared.finding.Finding.{Finding}
use Rattle.md_question.specs.declared.finding.Finding.TheVariants.{Optimal, Infeasible, Unbounded}

-- what it claims is so, over mechanisms of any denominator
abbrev pub IsSo : Question → Finding → Type 0
IsSo q (Optimal value m bound) = q.is_optimal m × q.is_value m value
IsSo q (Infeasible face) = AdmitsNone q
IsSo q (Unbounded m ray) = q.grows m ray

-- what its numbers say as a certificate of the question's program
abbrev pub certificate_of : Question → Finding → Certificate
certificate_of q (Optimal value m bound) = optimal_certificate q m bound
certificate_of q (Infeasible face) = certificates.Infeasible face
certificate_of q (Unbounded m ray) = unbounded_certificate q m ray

-- they show the claim by a program of the question
abbrev pub IsShown : Question → Program → Finding → Type 0
IsShown q p finding = Certified p (certificate_of q finding)

-- it has the question's sizes, and its numbers are in their ranges
abbrev pub IsFindingTo : Question → Finding → Type 0
IsFindingTo q (Optimal value m bound) = IsFraction value.num value.den × IsAccepted q.setting m × IsBoundOver q.rows bound
IsFindingTo q (Infeasible face) = AreMultipliers q.rows face
IsFindingTo q (Unbounded m ray) = IsAccepted q.setting m × IsRayFor q.setting ray
