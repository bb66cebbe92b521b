-- What is said of a sale of several units, from how its cut run ends.
use Rattle.std.proofs.Common.{◌≡◌, ℕ, ◌^◌, ◌≤◌, pos, ◌<ℤ◌, List, Ok, Some, sym, ap, ◌∙◌, subst, arith, inl, inr}
use Rattle.std.proofs.Math.Nat.{one-le-pow}
use Rattle.md_math.specs.Lists.{number_at}
use Rattle.md_math.proofs.Order.{positive_pos}
use Rattle.md_setting.specs.Auction.{SymmetricAuction, total_weight, value_count}
use Rattle.md_setting.specs.AuctionShaped.{IsAuction}
use Rattle.md_setting.specs.Meaning.{total_of}
use Rattle.md_setting.proofs.GeneralLaws.{total_of-general}
use Rattle.md_lp.specs.Cuts.{AreCuts}
use Rattle.md_lp.specs.Program.{Program}
use Rattle.md_lp.specs.declared.wide.Wide.{Wide}
use Rattle.md_mech.specs.Optimal.{IsOptimal}
use Rattle.md_mech.specs.Value.{IsValueOf}
use Rattle.md_border.specs.declared.interim.Interim.{Interim}
use Rattle.md_border.specs.Odds.{IsInterim}
use Rattle.md_border.proofs.DemandLaws.{total-positive}
use Rattle.md_border.proofs.Sales.{sale-total}
use Rattle.md_cert.specs.Certified.{Certified}
use Rattle.md_reduced.specs.Points.{interim_in}
use Rattle.md_reduced.specs.ProgramOf.{IsReducedProgram}
use Rattle.md_cut_runs.specs.CutRuns.{EndsSettled, EndsWide, HasSmallEntries, HasSmallEntry, TellsWide}
use Rattle.md_cut_runs.specs.declared.cuts_error.CutsError.TheVariants as errors
use Rattle.md_cut_runs.specs.declared.optimum.Optimum.{Optimum}
use Rattle.md_winners.specs.Odds.{HasUnitOdds, HasUnitPays}
use Rattle.md_winners.specs.Setting.{units_of}
use Rattle.md_winners.proofs.UnitSales.{unit_sale, unit-sale}
use Rattle.md_unit_tables.specs.Tables.{ImplementsUnits, IsUnitTable, table_of}
use Rattle.md_unit_tables.specs.Worth.{HasUnitWorth}
use Rattle.md_units.specs.Solved.{IsSolvedUnits, TellsUnits, mechanism_in}
use Rattle.md_cuts.specs.AuctionCuts.{unit_cutting}
use Rattle.md_units.specs.declared.units_answer.UnitsAnswer.{UnitsAnswer}
use Rattle.md_cli_driver.specs.Saying.{Saying}
use Rattle.md_claims.specs.AuctionCertificates.{auction_certificate}
use Rattle.md_claims.proofs.AuctionCertificates.{certified-at_interim}
use Rattle.md_parts.specs.Fitting.{HasFraction, IsBoundOver}
use Rattle.md_answer.specs.AuctionAnswerTo.{IsAnswerFor}
use Rattle.md_answer.specs.AuctionAnswers.{answer_for}
use Rattle.md_answer.specs.AuctionRows.{text_for}
use Rattle.md_answer.specs.ReducedRows.{reduced_rows}
use Rattle.md_answer.proofs.ReducedRows.{bound-fits}
use Rattle.md_answer.specs.declared.answer.Answer.TheVariants.{TooWide}
use Rattle.md_answer.specs.declared.supply.Supply.TheVariants.{Units}
use Rattle.md_cli_sell.specs.SellingUnits.{IsSameButMasses, IsUnitSelling, IsUnitsAnswer}
use Rattle.md_cli_sell.specs.UnitTexts.{sold_answer}
use Rattle.md_cli_sell.proofs.UnitsTold.{valid-units}
use Rattle.md_cli_sell.proofs.OneUnit.{if-one_unit}
use Rattle.md_check.proofs.OptimalValues.{one_value, value-of_each}
use Rattle.md_cli_sell.proofs.Sold.{not_memory}

-- the weight of all profiles is positive
total-units : (a : SymmetricAuction) (units : ℕ) → IsAuction a → pos 0 <ℤ total_of (units_of a units)
total-units a units shaped =
    let power : 1 ≤ total_weight a.weights ^ a.bidders = one-le-pow a.bidders (total_weight a.weights) (total-positive a shaped) in
    subst (λ z. pos 0 <ℤ z) (sym (sale-total a (unit_sale a units) (unit-sale a units) ∙ total_of-general a shaped.one_each)) (positive_pos (total_weight a.weights ^ a.bidders) (omega (arith, power)))

-- another answer with which the run ends is the same but for its masses
same-units : (a : SymmetricAuction) (units width : ℕ) (answer other : UnitsAnswer) → IsAuction a → IsOptimal (units_of a units) (mechanism_in a units answer) → IsValueOf (units_of a units) (mechanism_in a units answer) answer.value
    → (is : IsUnitsAnswer a units width other) → TellsUnits a other.cuts is.solved.optimum answer → IsSameButMasses answer other
same-units a units width answer other shaped optimal value is tells =
    let theirs = is.solved.tells in
    record {
      value = one_value (units_of a units) (mechanism_in a units answer) (mechanism_in a units other) answer.value other.value (total-units a units shaped) optimal value is.optimal is.value;
      cuts = tells.same_cuts;
      interim = tells.interim ∙ sym theirs.interim;
      bound = tells.bound ∙ sym theirs.bound;
    }

-- the bound certifies the odds and payments
certified-units : (a : SymmetricAuction) (units width : ℕ) (answer : UnitsAnswer) → IsSolvedUnits a units width answer → IsInterim a answer.interim
    → (p : Program) → IsReducedProgram a units answer.cuts p → Certified p (auction_certificate answer.interim answer.bound)
certified-units a units width answer solved fits p is =
    let o = solved.optimum in
    let tells = solved.tells in
    let there : IsInterim a (interim_in a o.den (number_at o.point)) = subst (IsInterim a) tells.interim fits in
    let certified : Certified p (auction_certificate (interim_in a o.den (number_at o.point)) o.bound) = certified-at_interim a o.den o.point there units answer.cuts p o.bound is (solved.shown.certified p is) in
    subst (λ i. Certified p (auction_certificate i answer.bound)) (sym tells.interim)
    (subst (λ b. Certified p (auction_certificate (interim_in a o.den (number_at o.point)) b)) (sym tells.bound) certified)

-- there is a number for each row of the program
pub bound-sold : (a : SymmetricAuction) (units width : ℕ) (answer : UnitsAnswer) → IsSolvedUnits a units width answer → IsBoundOver (reduced_rows a answer.cuts) answer.bound
bound-sold a units width answer solved =
    let p = solved.ends.optimum_of.program in
    let is = solved.ends.optimum_of.is_program in
    subst (IsBoundOver (reduced_rows a answer.cuts)) (sym solved.tells.bound) (bound-fits a units answer.cuts p solved.optimum.bound is (solved.shown.fits p is).2)

-- what is told of a program that is too wide can be written
pub wide-fits : (a : SymmetricAuction) (units : ℕ) (cuts : List ℕ) (first second : Wide) → HasSmallEntries (errors.TooWide cuts first second) → AreCuts (value_count a) cuts
    → IsAnswerFor (Units units) a (TooWide cuts first (Some second))
wide-fits a units cuts first second small are = (are, fraction first small.0, fraction second small.1)
  where
    fraction : (wide : Wide) → HasSmallEntry wide → HasFraction wide
    fraction wide h = record { positive = h.positive; num_size = h.num_size; den_size = h.den_size }

-- the run ends at odds and payments
pub of_answer : (a : SymmetricAuction) (units width : ℕ) (saying : Saying) (answer : UnitsAnswer) → IsAuction a → IsSolvedUnits a units width answer
    → IsInterim a answer.interim → IsUnitTable a units (table_of answer.interim answer.masses) → ImplementsUnits a answer.interim answer.masses
    → IsOptimal (units_of a units) (mechanism_in a units answer) → HasUnitOdds a units (mechanism_in a units answer) answer.interim.den answer.interim.odds → HasUnitPays a units (mechanism_in a units answer) answer.interim.den answer.interim.pays → IsValueOf (units_of a units) (mechanism_in a units answer) answer.value
    → HasUnitWorth a units answer.interim answer.value
    → ((cuts : List ℕ) (optimum : Optimum) → EndsSettled (unit_cutting a units) width cuts optimum → TellsUnits a cuts optimum answer)
    → ((cuts : List ℕ) (first second : Wide) → EndsWide (unit_cutting a units) width cuts first second → ⊥)
    → saying.status ≡ 0 → saying.text ≡ text_for (Units units) a (sold_answer answer) → answer_for (Units units) a saying.text ≡ Ok (sold_answer answer) → IsUnitSelling a units width saying
of_answer a units width saying answer shaped solved fits table implements optimal odds pays value worth settled none status text reads = record {
  told = inl (record {
    answer = answer;
    solved = solved;
    only = λ other is. same-units a units width answer other shaped optimal value is (settled other.cuts is.solved.optimum is.solved.ends);
    fits = fits;
    table = table;
    implements = implements;
    optimal = optimal;
    odds = odds;
    pays = pays;
    value = value;
    certified = certified-units a units width answer solved fits;
    same_value = λ m best. value-of_each (units_of a units) (mechanism_in a units answer) m answer.value optimal value best;
    one_unit = if-one_unit a width answer shaped fits implements units (record { solved = solved; table = table; optimal = optimal; odds = odds; pays = pays; value = value });
    status = status;
    text = text;
    read_back = reads;
    valid = valid-units a units answer solved.ends.optimum_of.program solved.ends.optimum_of.is_program (certified-units a units width answer solved fits) implements worth;
  });
  settled = λ cuts optimum ends. status;
  wide = λ cuts first second ends. absurd (none cuts first second ends);
}

-- it ends at a program each path of which has a wide basis
pub of_wide : (a : SymmetricAuction) (units width : ℕ) (saying : Saying) (cuts : List ℕ) (first second : Wide) → EndsWide (unit_cutting a units) width cuts first second
    → ((others : List ℕ) (forward backward : Wide) → EndsWide (unit_cutting a units) width others forward backward → TellsWide others forward backward (errors.TooWide cuts first second))
    → ((others : List ℕ) (optimum : Optimum) → EndsSettled (unit_cutting a units) width others optimum → errors.TooWide cuts first second ≡ errors.Memory)
    → saying.status ≡ 12 → saying.text ≡ text_for (Units units) a (TooWide cuts first (Some second)) → answer_for (Units units) a saying.text ≡ Ok (TooWide cuts first (Some second)) → IsUnitSelling a units width saying
of_wide a units width saying cuts first second wide only settled status text reads = record {
  told = inr (record {
    cuts = cuts;
    first = first;
    second = second;
    wide = wide;
    only = only;
    status = status;
    text = text;
    read_back = reads;
  });
  settled = λ others optimum ends. absurd (not_memory cuts first second (settled others optimum ends));
  wide = λ others one other ends. status;
}
