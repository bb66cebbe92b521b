-- What a verdict on interim odds and payments says, and what it shows.
use Rattle.std.proofs.Common.{◌≡◌, ◌≢◌, ◌↔◌, Option, Some, None, IfSome, IsNone, ℕ, ℤ, refl}
use Rattle.md_math.specs.Lists.{number_at}
use Rattle.md_num.specs.declared.frac.Frac.{Frac}
use Rattle.md_lp.specs.Program.{Program}
use Rattle.md_lp.specs.Point.{IsPoint, Meets}
use Rattle.md_lp.proofs.SamePrograms.{IsSameProgram}
use Rattle.md_cert.specs.declared.cert_fault.CertFault.{CertFault}
use Rattle.md_cert.specs.declared.cert_fault.CertFault.TheVariants as fault
use Rattle.md_cert.specs.Certified.{Certified}
use Rattle.md_cert.specs.Fault.{BreaksRow, IsFirstFault}
use Rattle.md_cert.specs.Fitting.{Fits}
use Rattle.md_claims.specs.AuctionCertificates.{point_of}
use Rattle.md_question_check.specs.declared.verdict.Reject.TheVariants.{Value, Masses, Reduced}
use Rattle.md_question_check.specs.declared.verdict.Verdict.{Verdict}
use Rattle.md_question_check.specs.declared.verdict.Verdict.TheVariants.{Valid, Undecided, Rejected}
use Rattle.md_question_check.specs.Certificates.{IsBehindPoint, Judges}
use Rattle.md_question_check.proofs.SameVerdict.{meets-to, row-first, judges-to}
use Rattle.md_cut_check.specs.CutClaims.{AddUp, BreaksCuts, CutClaim, IsCutVerdict, IsOtherWorth, IsRightly, MeetsCuts, OfCuts, certificate_of}

-- The programs of an answer are one, the odds and payments with the multipliers fit them, and have one value.
pub record IsCutClaim (q : CutClaim) : Type 0 where
  pub one_program : (p r : Program) → q.is_program p → q.is_program r → IsSameProgram p r
  pub fits : (p : Program) → q.is_program p → Fits p (certificate_of q)
  pub one_value : (v w : Frac) → q.is_value v → q.is_value w → v ≡ w

never : (q : CutClaim) (Has : Program → Type 0) → OfCuts q Has → ((p : Program) → Has p → ⊥) → ⊥
never q Has j none = none j.program (j.holds j.program j.is_program)

-- ---- the verdict on odds and payments whose masses, rows and value are right

rightly-verdict : (q : CutClaim) (v : Verdict) → IsRightly q → OfCuts q (λ p. Judges p (certificate_of q) v) → IsCutVerdict q v
rightly-verdict q (Rejected (Value right)) r j = absurd (never q (λ p. ⊥) j (λ p h. h))
rightly-verdict q (Rejected (Masses place sum demand)) r j = absurd (never q (λ p. ⊥) j (λ p h. h))
rightly-verdict q (Rejected (Reduced row left right)) r j = absurd (never q (λ p. ⊥) j (λ p h. h))
rightly-verdict q v r j = (r, j)

-- ---- something is decided

pub cut-decided : (q : CutClaim) (v : Verdict) → IsCutVerdict q v → v ≢ Undecided
cut-decided q Valid v = λ e. cc
cut-decided q Undecided v = absurd (never q (λ p. ⊥) v.1 (λ p h. h))
cut-decided q (Rejected reject) v = λ e. cc

module _ (q : CutClaim) (laws : IsCutClaim q) (p : Program) (is : q.is_program p) where
  -- ---- what is so of one program is so of all

  meets-all : Meets p q.interim.den (number_at (point_of q.interim)) → MeetsCuts q
  meets-all m = record { program = p; is_program = is; holds = λ r there. meets-to p r q.interim.den (number_at (point_of q.interim)) (laws.one_program r p there is) m }

  breaks-all : (row : ℕ) (left right : ℤ) → BreaksRow p q.interim.den (number_at (point_of q.interim)) row left right → BreaksCuts q row left right
  breaks-all row left right b = record {
    program = p;
    is_program = is;
    holds = λ r there. row-first p r q.interim.den (number_at (point_of q.interim)) row left right (laws.one_program r p there is) b;
  }

  judged-all : (v : Verdict) → Judges p (certificate_of q) v → OfCuts q (λ r. Judges r (certificate_of q) v)
  judged-all v j = record { program = p; is_program = is; holds = λ r there. judges-to p r (certificate_of q) v (laws.one_program r p there is) j }

  -- ---- the point

  point-is : IsPoint p q.interim.den (number_at (point_of q.interim))
  point-is = let fits = laws.fits p is in record { positive = fits.0.positive; nonneg = fits.1.nonneg }

  -- where the first fault is none of the point, the point meets the program
  met : (found : Option CertFault) → IfSome found IsBehindPoint → (IsNone found ↔ Certified p (certificate_of q)) → IfSome found (IsFirstFault p (certificate_of q))
      → Meets p q.interim.den (number_at (point_of q.interim))
  met None behind certified told = (certified.0 refl).meets
  met (Some (fault.Point row left right)) behind certified told = absurd behind
  met (Some (fault.Pair row f m)) behind certified told = record { point = point-is; rows = told.0 }
  met (Some (fault.Column column f m)) behind certified told = record { point = point-is; rows = told.0 }
  met (Some (fault.FaceRight sum)) behind certified told = record { point = point-is; rows = told.0 }
  met (Some (fault.MainRight limit cost)) behind certified told = record { point = point-is; rows = told.0 }
  met (Some (fault.RayRow row sum)) behind certified told = record { point = point-is; rows = told.0 }
  met (Some (fault.RayGain sum)) behind certified told = record { point = point-is; rows = told.0 }

  -- ---- the conditions in their order

  pub told-row : (row : ℕ) (left right : ℤ) → AddUp q → IsFirstFault p (certificate_of q) (fault.Point row left right) → IsCutVerdict q (Rejected (Reduced row left right))
  told-row row left right add_up told = (add_up, breaks-all row left right told)

  pub told-value : (right : Frac) (found : Option CertFault) → AddUp q → IfSome found IsBehindPoint → (IsNone found ↔ Certified p (certificate_of q)) → IfSome found (IsFirstFault p (certificate_of q))
      → IsOtherWorth q right → IsCutVerdict q (Rejected (Value right))
  told-value right found add_up behind certified told other = (add_up, meets-all (met found behind certified told), other)

  pub told-fault : (found : Option CertFault) (v : Verdict) → AddUp q → IfSome found IsBehindPoint → (IsNone found ↔ Certified p (certificate_of q)) → IfSome found (IsFirstFault p (certificate_of q))
      → q.has_value q.value → Judges p (certificate_of q) v → IsCutVerdict q v
  told-fault found v add_up behind certified told worth j =
      rightly-verdict q v (record { add_up = add_up; meets = meets-all (met found behind certified told); worth = worth }) (judged-all v j)

  -- ---- an answer that is certified is valid

  pub told-valid : AddUp q → q.has_value q.value → Certified p (certificate_of q) → IsCutVerdict q Valid
  told-valid add_up worth certified = (record { add_up = add_up; meets = meets-all certified.meets; worth = worth }, judged-all Valid certified)
