-- What is said of a sale of several units in closed form.
use Rattle.std.proofs.Common.{◌≡◌, ℕ, ◌<◌, pos, ◌*ℤ◌, ◌≤ℤ◌, List, Ok, refl, sym, subst, arith}
use Rattle.std.specs.Prelude.{slice_index}
use Rattle.std.proofs.lemmas.Int.{ints}
use Rattle.md_math.specs.Lists.{number_at}
use Rattle.md_math.specs.Sums.{sum_to}
use Rattle.md_math.proofs.Order.{nonneg-*ℤ}
use Rattle.md_math.proofs.SumLaws.{sum_to-nonneg}
use Rattle.md_space.specs.Profiles.{IsProfile}
use Rattle.md_setting.specs.Auction.{SymmetricAuction, value_count}
use Rattle.md_setting.specs.Meaning.{agent_count, sizes_of}
use Rattle.md_mech.specs.Mechanism.{pay_of}
use Rattle.md_mech.specs.Optimal.{IsOptimal}
use Rattle.md_mech.specs.Value.{IsValueOf}
use Rattle.md_mech.proofs.ByProfileLaws.{pay_of-mechanism_by}
use Rattle.md_border.specs.Odds.{IsInterim}
use Rattle.md_border.proofs.MechanismWorth.{has-values}
use Rattle.md_expost.specs.Mechanisms.{all_orders, whole_of}
use Rattle.md_winners.specs.Odds.{HasUnitOdds, HasUnitPays}
use Rattle.md_winners.specs.Setting.{units_of}
use Rattle.md_winners.proofs.SettingLaws.{agent_count-units, sizes_of-units}
use Rattle.md_unit_tables.specs.Mechanisms.{unit_lottery_of}
use Rattle.md_unit_tables.specs.Tables.{table_of}
use Rattle.md_units.specs.Solved.{mechanism_in}
use Rattle.md_units.specs.declared.units_answer.UnitsAnswer.{UnitsAnswer}
use Rattle.md_iron.specs.ClosedForms.{IsClosedUnits, IsOneUnits, PaysWithinValue}
use Rattle.md_iron.specs.UnitForms.{IsCertifiedForm, IsWritableForm}
use Rattle.md_reduced.specs.ProgramOf.{IsReducedProgram}
use Rattle.md_answer.specs.AuctionAnswerTo.{IsAnswerFor}
use Rattle.md_answer.specs.AuctionAnswers.{answer_for}
use Rattle.md_answer.specs.AuctionRows.{text_for}
use Rattle.md_answer.specs.declared.supply.Supply.TheVariants.{Units}
use Rattle.md_question_check.specs.declared.verdict.Verdict.TheVariants.{Valid}
use Rattle.md_check.specs.AuctionVerdicts.{IsVerdictFor}
use Rattle.md_cli_driver.specs.Saying.{Saying}
use Rattle.md_cli_sell.specs.IroningUnits.{IsClosedSale}
use Rattle.md_cli_sell.specs.UnitTexts.{sold_answer}
use Rattle.md_cli_sell.proofs.UnitsTold.{valid-units}
use Rattle.md_check.proofs.OptimalValues.{value-of_each}

-- the answer can be written
pub closed-fits : (a : SymmetricAuction) (units : ℕ) (answer : UnitsAnswer) → IsClosedUnits a units answer → IsInterim a answer.interim → IsWritableForm a answer → IsAnswerFor (Units units) a (sold_answer answer)
closed-fits a units answer h fits w = (w.value, fits, h.table, refl, w.cuts, w.bound)

-- the program of the cuts certifies it
closed-valid : (a : SymmetricAuction) (units : ℕ) (answer : UnitsAnswer) → IsClosedUnits a units answer → IsCertifiedForm a units answer → IsVerdictFor (Units units) a (sold_answer answer) Valid
closed-valid a units answer h certified =
    let bound = h.form.bound_is in
    valid-units a units answer bound.program (subst (λ xs. IsReducedProgram a units xs bound.program) (sym h.form.cuts_are) bound.is_program) certified h.implements h.value_is

-- payments by value, none of which is below 0, add to at least 0 at each profile
no-deficit : (a : SymmetricAuction) (units : ℕ) (answer : UnitsAnswer) → PaysWithinValue a answer.interim → (t : List ℕ) → IsProfile (sizes_of (units_of a units)) t
    → pos 0 ≤ℤ sum_to (agent_count (units_of a units)) (λ i. pay_of (units_of a units) (mechanism_in a units answer) i t)
no-deficit a units answer within t p =
    let s = units_of a units in
    let masses = table_of answer.interim answer.masses in
    sum_to-nonneg (agent_count (units_of a units)) (λ i. pay_of (units_of a units) (mechanism_in a units answer) i t)
    (λ i b.
    subst (λ z. pos 0 ≤ℤ z)
    (sym (pay_of-mechanism_by s (whole_of a masses) (unit_lottery_of a units masses) (λ j u. number_at answer.interim.pays (slice_index u j) *ℤ pos (all_orders a)) t i p b))
    (nonneg-*ℤ (number_at answer.interim.pays (slice_index t i)) (pos (all_orders a))
    (within.nonneg (slice_index t i) ((has-values a t (subst (λ sizes. IsProfile sizes t) (sizes_of-units a units) p)).value i (subst (λ n. i < n) (agent_count-units a units) b))) (above (all_orders a))))
  where
    above : (n : ℕ) → pos 0 ≤ℤ pos n
    above n = omega (arith, ints)

pub closed-sale : (a : SymmetricAuction) (units : ℕ) (answer : UnitsAnswer) (saying : Saying) → IsClosedUnits a units answer → IsOneUnits a units answer → IsInterim a answer.interim → IsOptimal (units_of a units) (mechanism_in a units answer)
    → HasUnitOdds a units (mechanism_in a units answer) answer.interim.den answer.interim.odds → HasUnitPays a units (mechanism_in a units answer) answer.interim.den answer.interim.pays
    → IsValueOf (units_of a units) (mechanism_in a units answer) answer.value → IsCertifiedForm a units answer → PaysWithinValue a answer.interim → saying.status ≡ 0
    → saying.text ≡ text_for (Units units) a (sold_answer answer) → answer_for (Units units) a saying.text ≡ Ok (sold_answer answer) → IsClosedSale a units saying
closed-sale a units answer saying closed one fits optimal odds pays value certified within status text reads = record {
  answer = answer;
  closed = closed;
  one = one;
  fits = fits;
  optimal = optimal;
  odds = odds;
  pays = pays;
  value = value;
  same_value = λ m best. value-of_each (units_of a units) (mechanism_in a units answer) m answer.value optimal value best;
  certified = certified;
  within = within;
  no_deficit = no-deficit a units answer within;
  status = status;
  text = text;
  read_back = reads;
  valid = closed-valid a units answer closed certified;
}
