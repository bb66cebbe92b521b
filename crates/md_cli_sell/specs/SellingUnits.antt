-- What `units` says of an auction of several units, of which each bidder wants one: the best mechanism, within a width.
use Rattle.std.specs.Prelude.{◌≡◌, ◌⊎◌, ℕ, List, Some, Ok}
use Rattle.md_setting.specs.Auction.{SymmetricAuction}
use Rattle.md_setting.specs.ByKind.{WhereAuction}
use Rattle.md_setting.specs.General.{general_of}
use Rattle.md_setting.specs.declared.file.SettingFile.{SettingFile}
use Rattle.md_lp.specs.Program.{Program}
use Rattle.md_lp.specs.declared.wide.Wide.{Wide}
use Rattle.md_mech.specs.declared.mechanism.Mechanism.{Mechanism}
use Rattle.md_mech.specs.Optimal.{IsOptimal}
use Rattle.md_mech.specs.Value.{IsValueOf}
use Rattle.md_border.specs.Odds.{IsInterim}
use Rattle.md_cert.specs.Certified.{Certified}
use Rattle.md_reduced.specs.ProgramOf.{IsReducedProgram}
use Rattle.md_cut_runs.specs.CutRuns.{EndsSettled, EndsWide}
use Rattle.md_cut_runs.specs.declared.optimum.Optimum.{Optimum}
use Rattle.md_winners.specs.Odds.{HasUnitOdds, HasUnitPays}
use Rattle.md_winners.specs.Setting.{units_of}
use Rattle.md_unit_tables.specs.Tables.{ImplementsUnits, IsUnitTable, table_of}
use Rattle.md_units.specs.Solved.{IsSolvedUnits, mechanism_in}
use Rattle.md_cuts.specs.AuctionCuts.{unit_cutting}
use Rattle.md_units.specs.declared.units_answer.UnitsAnswer.{UnitsAnswer}
use Rattle.md_claims.specs.AuctionCertificates.{auction_certificate}
use Rattle.md_answer.specs.AuctionAnswers.{answer_for}
use Rattle.md_answer.specs.AuctionRows.{text_for}
use Rattle.md_answer.specs.declared.answer.Answer.TheVariants.{TooWide}
use Rattle.md_answer.specs.declared.supply.Supply.TheVariants.{Units}
use Rattle.md_question_check.specs.declared.verdict.Verdict.TheVariants.{Valid}
use Rattle.md_check.specs.AuctionVerdicts.{IsVerdictFor}
use Rattle.md_cli_driver.specs.Saying.{Saying}
use Rattle.md_cli_sell.specs.UnitTexts.{sold_answer}

-- the cut run of the units ends with this answer, whose mechanism is optimal and has the value
pub record IsUnitsAnswer (a : SymmetricAuction) (units width : ℕ) (answer : UnitsAnswer) : Type 0 where
  pub solved : IsSolvedUnits a units width answer
  pub optimal : IsOptimal (units_of a units) (mechanism_in a units answer)
  pub value : IsValueOf (units_of a units) (mechanism_in a units answer) answer.value

-- two answers differ in nothing but their masses
pub record IsSameButMasses (answer other : UnitsAnswer) : Type 0 where
  pub value : answer.value ≡ other.value
  pub cuts : answer.cuts ≡ other.cuts
  pub interim : answer.interim ≡ other.interim
  pub bound : answer.bound ≡ other.bound

-- The cut run of the units ends with this answer, of which all but the masses is fixed. At each list of counts its masses add to
-- at most the weight of the profiles with the counts, times the units, and those of each value to at most one unit for each
-- bidder with it; over all counts they add to its demand. The mechanism of the masses, in which each bidder pays by its value,
-- has the odds and payments and the value, and no admissible mechanism of the units, of any denominator, has a greater objective,
-- be it one that treats bidders with the same value differently. The value is that of every optimal mechanism. The multipliers show it, in whatever terms the program of the
-- cuts is written. The text reads back as the answer, and the checker's verdict on it is that it is valid.
pub record IsSoldInUnits (a : SymmetricAuction) (units width : ℕ) (saying : Saying) : Type 0 where
  pub answer : UnitsAnswer
  pub solved : IsSolvedUnits a units width answer
  pub only : (other : UnitsAnswer) → IsUnitsAnswer a units width other → IsSameButMasses answer other
  pub fits : IsInterim a answer.interim
  pub table : IsUnitTable a units (table_of answer.interim answer.masses)
  pub implements : ImplementsUnits a answer.interim answer.masses
  pub optimal : IsOptimal (units_of a units) (mechanism_in a units answer)
  pub odds : HasUnitOdds a units (mechanism_in a units answer) answer.interim.den answer.interim.odds
  pub pays : HasUnitPays a units (mechanism_in a units answer) answer.interim.den answer.interim.pays
  pub value : IsValueOf (units_of a units) (mechanism_in a units answer) answer.value
  pub certified : (p : Program) → IsReducedProgram a units answer.cuts p → Certified p (auction_certificate answer.interim answer.bound)
  pub same_value : (m : Mechanism) → IsOptimal (units_of a units) m → IsValueOf (units_of a units) m answer.value
  -- one unit is worth what the item is worth in the auction itself
  pub one_unit : units ≡ 1 → (m : Mechanism) → IsOptimal (general_of a) m → IsValueOf (general_of a) m answer.value
  pub status : saying.status ≡ 0
  pub text : saying.text ≡ text_for (Units units) a (sold_answer answer)
  pub read_back : answer_for (Units units) a saying.text ≡ Ok (sold_answer answer)
  pub valid : IsVerdictFor (Units units) a (sold_answer answer) Valid

-- the cut run comes to a program each path of which has a wide basis: these are its cuts and the first such bases, and no others are
pub record IsUnitsTooWide (a : SymmetricAuction) (units width : ℕ) (saying : Saying) : Type 0 where
  pub cuts : List ℕ
  pub first : Wide
  pub second : Wide
  pub wide : EndsWide (unit_cutting a units) width cuts first second
  pub only : (others : List ℕ) (forward backward : Wide) → EndsWide (unit_cutting a units) width others forward backward → (cuts ≡ others) × (first ≡ forward) × (second ≡ backward)
  pub status : saying.status ≡ 12
  pub text : saying.text ≡ text_for (Units units) a (TooWide cuts first (Some second))
  pub read_back : answer_for (Units units) a saying.text ≡ Ok (TooWide cuts first (Some second))

-- An answer, or that there is none within the width. There is one cut run, and the status tells how it ends.
pub record IsUnitSelling (a : SymmetricAuction) (units width : ℕ) (saying : Saying) : Type 0 where
  pub told : IsSoldInUnits a units width saying ⊎ IsUnitsTooWide a units width saying
  pub settled : (cuts : List ℕ) (optimum : Optimum) → EndsSettled (unit_cutting a units) width cuts optimum → saying.status ≡ 0
  pub wide : (cuts : List ℕ) (first second : Wide) → EndsWide (unit_cutting a units) width cuts first second → saying.status ≡ 12

abbrev pub IsUnits : ℕ → ℕ → SettingFile → Saying → Type 0
IsUnits units width file saying = WhereAuction (λ a. IsUnitSelling a units width saying) file

-- the statuses of what is answered of an auction
abbrev pub IsUnitsStatus : ℕ → Type 0
IsUnitsStatus status = (status ≡ 0) ⊎ (status ≡ 12)
