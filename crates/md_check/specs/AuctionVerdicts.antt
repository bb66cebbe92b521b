-- The verdict on an answer about an auction, or about so many units of which each bidder wants one, by conditions that are tried
-- in their order; an auction sells one unit. Those of an optimal answer are:
--   9. the masses of each value add to its demand;
--  10. the odds and payments meet each row of the reduced program of the units with the answer's cuts;
--   2. the value is that of the odds and payments;
--   and then the third to sixth of an optimal answer to a general setting, on the multipliers of the rows of that program.
-- Values are taken by their places and rows and columns by their numbers, in ascending order. An answer all of whose conditions
-- hold is valid; else it is rejected with the first condition that fails, with its numbers.
use Rattle.std.specs.Prelude.{◌≡◌, ℕ, ℤ, List}
use Rattle.md_math.specs.FirstFailure.{HoldsBelow, IsFirstFailure}
use Rattle.md_math.specs.Lists.{number_at}
use Rattle.md_num.specs.declared.frac.Frac.{Frac}
use Rattle.md_setting.specs.Auction.{SymmetricAuction, value_count}
use Rattle.md_setting.specs.General.{general_of}
use Rattle.md_mech.specs.Value.{HasValue}
use Rattle.md_lp.specs.Program.{Program}
use Rattle.md_lp.specs.Point.{Meets}
use Rattle.md_border.specs.declared.interim.Interim.{Interim}
use Rattle.md_border.specs.Odds.{demand_of}
use Rattle.md_expost.specs.declared.masses.Masses.{Masses}
use Rattle.md_expost.specs.Masses.{mass_of}
use Rattle.md_unit_tables.specs.Worth.{HasUnitWorth, IsUnitWorthOf}
use Rattle.md_winners.specs.Setting.{units_of}
use Rattle.md_cert.specs.declared.bound.Bound.{Bound}
use Rattle.md_cert.specs.Certified.{Certified}
use Rattle.md_cert.specs.Fault.{BreaksRow}
use Rattle.md_reduced.specs.ProgramOf.{IsReducedProgram}
use Rattle.md_answer.specs.declared.answer.Answer.{Answer}
use Rattle.md_answer.specs.declared.answer.Answer.TheVariants.{AuctionOptimal, TooWide}
use Rattle.md_answer.specs.declared.supply.Supply.{Supply}
use Rattle.md_answer.specs.declared.supply.Supply.TheVariants.{Item, Units}
use Rattle.md_answer.specs.Supplies.{units_in}
use Rattle.md_claims.specs.AuctionCertificates.{auction_certificate, point_of}
use Rattle.md_claims.specs.AuctionClaims.{IsOptimalRule, mechanism_in}
use Rattle.md_question_check.specs.declared.verdict.Reject.TheVariants.{Value, Masses as OtherMass, Reduced}
use Rattle.md_question_check.specs.declared.verdict.Verdict.{Verdict}
use Rattle.md_question_check.specs.declared.verdict.Verdict.TheVariants.{Undecided, Rejected}
use Rattle.md_question_check.specs.Certificates.{Judges}
use Rattle.md_question_check.specs.Programs.{OfProgram}
use Rattle.md_check.specs.UnitClaims.{IsOptimalUnitRule, unit_mechanism_in}

-- ---- the conditions by themselves

-- the masses of a value are as much as its demand
abbrev pub HasMass : SymmetricAuction → Interim → Masses → ℕ → Type 0
HasMass a interim masses v = mass_of a masses v ≡ demand_of a interim v

abbrev pub AddUp : SymmetricAuction → Interim → Masses → Type 0
AddUp a interim masses = HoldsBelow (value_count a) (HasMass a interim masses)

-- the first value whose masses are more or less than its demand, with both
pub record IsOtherMass (a : SymmetricAuction) (interim : Interim) (masses : Masses) (kind : ℕ) (sum demand : ℤ) : Type 0 where
  pub first : IsFirstFailure (value_count a) (HasMass a interim masses) kind
  pub sum_is : sum ≡ mass_of a masses kind
  pub demand_is : demand ≡ demand_of a interim kind

-- so it is with the reduced program of the units that has these cuts
abbrev pub OfReduced : SymmetricAuction → ℕ → List ℕ → (Program → Type 0) → Type 0
OfReduced a units cuts Has = OfProgram (IsReducedProgram a units cuts) Has

abbrev pub MeetsCuts : SymmetricAuction → ℕ → Interim → List ℕ → Type 0
MeetsCuts a units interim cuts = OfReduced a units cuts (λ p. Meets p interim.den (number_at (point_of interim)))

-- the first row that the odds and payments break, with both its sides
abbrev pub BreaksCuts : SymmetricAuction → ℕ → Interim → List ℕ → ℕ → ℤ → ℤ → Type 0
BreaksCuts a units interim cuts row left right = OfReduced a units cuts (λ p. BreaksRow p interim.den (number_at (point_of interim)) row left right)

-- the value is this one, in least terms, and not the printed fraction
pub record IsOtherWorth (a : SymmetricAuction) (units : ℕ) (interim : Interim) (printed value : Frac) : Type 0 where
  pub other : ¬ HasUnitWorth a units interim printed
  pub right : IsUnitWorthOf a units interim value

-- ---- the verdict

-- the conditions that come before those on the multipliers
pub record IsRightlyAuction (a : SymmetricAuction) (units : ℕ) (printed : Frac) (interim : Interim) (masses : Masses) (cuts : List ℕ) : Type 0 where
  pub add_up : AddUp a interim masses
  pub meets : MeetsCuts a units interim cuts
  pub worth : HasUnitWorth a units interim printed

abbrev pub IsAuctionOptimalVerdict : SymmetricAuction → ℕ → Frac → Interim → Masses → List ℕ → Bound → Verdict → Type 0
IsAuctionOptimalVerdict a units value interim masses cuts bound (Rejected (OtherMass kind sum demand)) = IsOtherMass a interim masses kind sum demand
IsAuctionOptimalVerdict a units value interim masses cuts bound (Rejected (Reduced row left right)) = AddUp a interim masses × BreaksCuts a units interim cuts row left right
IsAuctionOptimalVerdict a units value interim masses cuts bound (Rejected (Value right)) = AddUp a interim masses × MeetsCuts a units interim cuts × IsOtherWorth a units interim value right
IsAuctionOptimalVerdict a units value interim masses cuts bound verdict =
    IsRightlyAuction a units value interim masses cuts × OfReduced a units cuts (λ p. Judges p (auction_certificate interim bound) verdict)

-- an answer that is too wide claims nothing that could be checked, and no other answer is about an auction
abbrev pub IsVerdictFor : Supply → SymmetricAuction → Answer → Verdict → Type 0
IsVerdictFor supply a (AuctionOptimal value interim masses cuts bound) verdict = IsAuctionOptimalVerdict a (units_in supply) value interim masses cuts bound verdict
IsVerdictFor supply a (TooWide cuts first second) verdict = verdict ≡ Undecided
IsVerdictFor supply a _ verdict = ⊥

-- the same about the auction of one item
abbrev pub IsAuctionVerdict : SymmetricAuction → Answer → Verdict → Type 0
IsAuctionVerdict a answer verdict = IsVerdictFor Item a answer verdict

-- ---- all conditions hold

pub record IsSoundAuctionOptimal (a : SymmetricAuction) (units : ℕ) (p : Program) (printed : Frac) (interim : Interim) (masses : Masses) (cuts : List ℕ) (bound : Bound) : Type 0 where
  pub add_up : AddUp a interim masses
  pub is_program : IsReducedProgram a units cuts p
  pub worth : HasUnitWorth a units interim printed
  pub certified : Certified p (auction_certificate interim bound)

abbrev pub IsSoundFor : Supply → SymmetricAuction → Program → Answer → Type 0
IsSoundFor supply a p (AuctionOptimal value interim masses cuts bound) = IsSoundAuctionOptimal a (units_in supply) p value interim masses cuts bound
IsSoundFor supply a p _ = ⊥

abbrev pub IsSoundAuction : SymmetricAuction → Program → Answer → Type 0
IsSoundAuction a p answer = IsSoundFor Item a p answer

-- ---- what is claimed

-- the claim of odds and payments with masses is so, over all mechanisms of what is sold; of how the cuts were found it asks nothing
abbrev pub IsClaimed : Supply → SymmetricAuction → Frac → Interim → Masses → Type 0
IsClaimed Item a value interim masses = IsOptimalRule a interim masses × HasValue (general_of a) (mechanism_in a interim masses) value
IsClaimed (Units units) a value interim masses = IsOptimalUnitRule a units interim masses × HasValue (units_of a units) (unit_mechanism_in a units interim masses) value

abbrev pub ClaimHoldsFor : Supply → SymmetricAuction → Answer → Type 0
ClaimHoldsFor supply a (AuctionOptimal value interim masses cuts bound) = IsClaimed supply a value interim masses
ClaimHoldsFor supply a _ = ⊥

-- the same about the auction of one item
abbrev pub AuctionClaimHolds : SymmetricAuction → Answer → Type 0
AuctionClaimHolds a answer = ClaimHoldsFor Item a answer
