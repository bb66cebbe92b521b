-- What an answer says of itself as a certificate of the setting's program: of the point of its mechanism.
use Rattle.md_setting.specs.Setting.{GeneralSetting}
use Rattle.md_lp.specs.Program.{Program}
use Rattle.md_cert.specs.Certified.{Certified}
use Rattle.md_cert.specs.declared.certificate.Certificate.TheVariants as certificates
use Rattle.md_claims.specs.Certificates.{optimal_certificate, unbounded_certificate}
use Rattle.md_answer.specs.declared.answer.Answer.{Answer}
use Rattle.md_answer.specs.declared.answer.Answer.TheVariants.{Table, Optimal, Infeasible, Unbounded, AuctionOptimal, TooWide}

-- the point of the mechanism, with the answer's multipliers or with the ray of its payments, is certified; an answer about an
-- auction is none about a general setting
abbrev pub IsCertifiedAnswer : GeneralSetting → Program → Answer → Type 0
IsCertifiedAnswer s p (Table m) = Unit {0}
IsCertifiedAnswer s p (Optimal value m bound) = Certified p (optimal_certificate s m bound)
IsCertifiedAnswer s p (Infeasible face) = Certified p (certificates.Infeasible face)
IsCertifiedAnswer s p (Unbounded m pays) = Certified p (unbounded_certificate s m pays)
IsCertifiedAnswer s p (AuctionOptimal value interim masses cuts bound) = ⊥
IsCertifiedAnswer s p (TooWide cuts first second) = Unit {0}
