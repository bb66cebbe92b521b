-- What shows that a closed form of several units is best, and what it needs to be written.
use Rattle.std.specs.Prelude.{ℕ, length}
use Rattle.md_setting.specs.Auction.{SymmetricAuction, value_count}
use Rattle.md_lp.specs.Cuts.{AreCuts}
use Rattle.md_lp.specs.Program.{Program}
use Rattle.md_cert.specs.Certified.{Certified}
use Rattle.md_reduced.specs.Conditions.{conditions_of}
use Rattle.md_reduced.specs.ProgramOf.{IsReducedProgram}
use Rattle.md_parts.specs.Fitting.{IsBoundOver, IsFraction}
use Rattle.md_claims.specs.AuctionCertificates.{auction_certificate}
use Rattle.md_units.specs.declared.units_answer.UnitsAnswer.{UnitsAnswer}

-- in each program of its cuts the multipliers certify the point of the odds and payments
abbrev pub IsCertifiedForm : SymmetricAuction → ℕ → UnitsAnswer → Type 0
IsCertifiedForm a units answer = (p : Program) → IsReducedProgram a units answer.cuts p → Certified p (auction_certificate answer.interim answer.bound)

-- the value is a fraction of at most 126 bits, the cuts are sets, none twice, and there is a multiplier of at most 62 bits for each row
pub record IsWritableForm (a : SymmetricAuction) (answer : UnitsAnswer) : Type 0 where
  pub value : IsFraction answer.value.num answer.value.den
  pub cuts : AreCuts (value_count a) answer.cuts
  pub bound : IsBoundOver (length (conditions_of (value_count a) answer.cuts)) answer.bound
