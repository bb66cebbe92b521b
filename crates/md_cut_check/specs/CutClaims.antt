-- The verdict on interim odds and payments with a value, masses, cuts and multipliers, by conditions that are tried in their order:
--   9. the masses of each place add to its demand;
--  10. the odds and payments meet each row of the program with the cuts;
--   2. the value is that of the odds and payments;
--   and then the third to sixth of an optimal answer to a question, on the multipliers of the rows of that program.
-- Places, rows and columns are taken by their numbers, in ascending order. An answer all of whose conditions hold is valid; else it
-- is rejected with the first condition that fails, with its numbers.
use Rattle.std.specs.Prelude.{◌≡◌, ℕ, ℤ}
use Rattle.md_math.specs.FirstFailure.{HoldsBelow, IsFirstFailure}
use Rattle.md_math.specs.Lists.{number_at}
use Rattle.md_num.specs.declared.frac.Frac.{Frac}
use Rattle.md_lp.specs.Program.{Program}
use Rattle.md_lp.specs.Point.{Meets}
use Rattle.md_border.specs.declared.interim.Interim.{Interim}
use Rattle.md_cert.specs.declared.bound.Bound.{Bound}
use Rattle.md_cert.specs.declared.certificate.Certificate.{Certificate}
use Rattle.md_cert.specs.Fault.{BreaksRow}
use Rattle.md_claims.specs.AuctionCertificates.{auction_certificate, point_of}
use Rattle.md_question_check.specs.declared.verdict.Reject.TheVariants.{Value, Masses, Reduced}
use Rattle.md_question_check.specs.declared.verdict.Verdict.{Verdict}
use Rattle.md_question_check.specs.declared.verdict.Verdict.TheVariants.{Rejected}
use Rattle.md_question_check.specs.Certificates.{Judges}
use Rattle.md_question_check.specs.Programs.{OfProgram}

-- An answer: how many places there are, what the masses of each add to, and what its odds ask for; the programs with the cuts, in
-- whatever terms they are written; the odds and payments, the multipliers, and the printed value; and which fractions are the value
-- of the odds and payments, and which one is it in least terms.
pub record CutClaim : Type 1 where
  pub places : ℕ
  pub mass : ℕ → ℤ
  pub demand : ℕ → ℤ
  pub is_program : Program → Type 0
  pub interim : Interim
  pub bound : Bound
  pub value : Frac
  pub has_value : Frac → Type 0
  pub is_value : Frac → Type 0

-- the point of the odds and payments with the multipliers
abbrev pub certificate_of : CutClaim → Certificate
certificate_of q = auction_certificate q.interim q.bound

-- so it is with the programs of the answer
abbrev pub OfCuts : CutClaim → (Program → Type 0) → Type 0
OfCuts q Has = OfProgram q.is_program Has

-- ---- the conditions by themselves

-- the masses of a place are as much as its demand
abbrev pub HasMass : CutClaim → ℕ → Type 0
HasMass q place = q.mass place ≡ q.demand place

abbrev pub AddUp : CutClaim → Type 0
AddUp q = HoldsBelow q.places (HasMass q)

-- the first place whose masses are more or less than its demand, with both
pub record IsOtherMass (q : CutClaim) (place : ℕ) (sum demand : ℤ) : Type 0 where
  pub first : IsFirstFailure q.places (HasMass q) place
  pub sum_is : sum ≡ q.mass place
  pub demand_is : demand ≡ q.demand place

abbrev pub MeetsCuts : CutClaim → Type 0
MeetsCuts q = OfCuts q (λ p. Meets p q.interim.den (number_at (point_of q.interim)))

-- the first row that the odds and payments break, with both its sides
abbrev pub BreaksCuts : CutClaim → ℕ → ℤ → ℤ → Type 0
BreaksCuts q row left right = OfCuts q (λ p. BreaksRow p q.interim.den (number_at (point_of q.interim)) row left right)

-- the value is this one, in least terms, and not the printed fraction
pub record IsOtherWorth (q : CutClaim) (value : Frac) : Type 0 where
  pub other : ¬ q.has_value q.value
  pub right : q.is_value value

-- ---- the verdict

-- the conditions that come before those on the multipliers
pub record IsRightly (q : CutClaim) : Type 0 where
  pub add_up : AddUp q
  pub meets : MeetsCuts q
  pub worth : q.has_value q.value

abbrev pub IsCutVerdict : CutClaim → Verdict → Type 0
IsCutVerdict q (Rejected (Masses place sum demand)) = IsOtherMass q place sum demand
IsCutVerdict q (Rejected (Reduced row left right)) = AddUp q × BreaksCuts q row left right
IsCutVerdict q (Rejected (Value right)) = AddUp q × MeetsCuts q × IsOtherWorth q right
IsCutVerdict q verdict = IsRightly q × OfCuts q (λ p. Judges p (certificate_of q) verdict)
