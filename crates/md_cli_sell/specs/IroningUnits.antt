-- What `ironunits` says of an auction of several units, of which each bidder wants one.
use Rattle.std.specs.Prelude.{◌≡◌, ◌⊎◌, ℕ, pos, ◌≤ℤ◌, List, Ok}
use Rattle.md_math.specs.Sums.{sum_to}
use Rattle.md_space.specs.Profiles.{IsProfile}
use Rattle.md_setting.specs.Auction.{SymmetricAuction}
use Rattle.md_setting.specs.ByKind.{WhereAuction}
use Rattle.md_setting.specs.Meaning.{agent_count, sizes_of}
use Rattle.md_setting.specs.declared.file.SettingFile.{SettingFile}
use Rattle.md_mech.specs.declared.mechanism.Mechanism.{Mechanism}
use Rattle.md_mech.specs.Mechanism.{pay_of}
use Rattle.md_mech.specs.Optimal.{IsOptimal}
use Rattle.md_mech.specs.Value.{IsValueOf}
use Rattle.md_border.specs.Odds.{IsInterim}
use Rattle.md_winners.specs.Odds.{HasUnitOdds, HasUnitPays}
use Rattle.md_winners.specs.Setting.{units_of}
use Rattle.md_units.specs.Solved.{mechanism_in}
use Rattle.md_units.specs.declared.units_answer.UnitsAnswer.{UnitsAnswer}
use Rattle.md_iron.specs.ClosedForms.{IsClosedUnits, IsOneUnits, PaysWithinValue}
use Rattle.md_iron.specs.UnitForms.{IsCertifiedForm}
use Rattle.md_answer.specs.AuctionAnswers.{answer_for}
use Rattle.md_answer.specs.AuctionRows.{text_for}
use Rattle.md_answer.specs.declared.supply.Supply.TheVariants.{Units}
use Rattle.md_question_check.specs.declared.verdict.Verdict.TheVariants.{Valid}
use Rattle.md_check.specs.AuctionVerdicts.{IsVerdictFor}
use Rattle.md_cli_driver.specs.Saying.{Saying}
use Rattle.md_cli_sell.specs.Ironing.{IsUndecided}
use Rattle.md_cli_sell.specs.UnitTexts.{sold_answer}

-- An answer whose odds, payments, cuts and multipliers are those of the pools that the rule names, and all others differ from it in
-- nothing but their masses. The mechanism of the masses, in which each bidder pays by its value, has the odds and payments and
-- the value, and no admissible mechanism of the units, of any denominator, has a greater objective. The value is that of each
-- such mechanism. The multipliers show it, in whatever terms the program of the cuts is written. Each value pays from nothing to
-- what a unit is worth to it, as often as it has one; so payments add to at least 0 at each profile. The text reads back as the
-- answer, and the checker's verdict on it is that it is valid.
pub record IsClosedSale (a : SymmetricAuction) (units : ℕ) (saying : Saying) : Type 0 where
  pub answer : UnitsAnswer
  pub closed : IsClosedUnits a units answer
  pub one : IsOneUnits a units answer
  pub fits : IsInterim a answer.interim
  pub optimal : IsOptimal (units_of a units) (mechanism_in a units answer)
  pub odds : HasUnitOdds a units (mechanism_in a units answer) answer.interim.den answer.interim.odds
  pub pays : HasUnitPays a units (mechanism_in a units answer) answer.interim.den answer.interim.pays
  pub value : IsValueOf (units_of a units) (mechanism_in a units answer) answer.value
  pub same_value : (m : Mechanism) → IsOptimal (units_of a units) m → IsValueOf (units_of a units) m answer.value
  pub certified : IsCertifiedForm a units answer
  pub within : PaysWithinValue a answer.interim
  pub no_deficit : (t : List ℕ) → IsProfile (sizes_of (units_of a units)) t
      → pos 0 ≤ℤ sum_to (agent_count (units_of a units)) (λ i. pay_of (units_of a units) (mechanism_in a units answer) i t)
  pub status : saying.status ≡ 0
  pub text : saying.text ≡ text_for (Units units) a (sold_answer answer)
  pub read_back : answer_for (Units units) a saying.text ≡ Ok (sold_answer answer)
  pub valid : IsVerdictFor (Units units) a (sold_answer answer) Valid

-- an answer with 0; or that nothing is answered with 22, and then the multipliers are too long
abbrev pub IsUnitIroning : SymmetricAuction → ℕ → Saying → Type 0
IsUnitIroning a units saying = IsClosedSale a units saying ⊎ IsUndecided a units saying

abbrev pub IsIronUnits : ℕ → SettingFile → Saying → Type 0
IsIronUnits units file saying = WhereAuction (λ a. IsUnitIroning a units saying) file
