use Rattle.std.proofs.Common.{arith}
use Rattle.md_iron.proofs.AnswerLaws.{fraction}
use Rattle.md_iron.proofs.FormLaws.{form-border, form-bound, form-certified, form-cuts, form-fits, form-pays}
use Rattle.md_iron.proofs.OneForm.{one-units}
use Rattle.md_iron.proofs.ShareLaws.{where-some}
use Rattle.md_iron.proofs.UnitForms.{units-odds, units-optimal, units-pays, units-value}
use Rattle.md_iron.proofs.units.iron_units.Goals as goal

pub masses_of-requires-clause-fits : goal.masses_of-requires-clause-fits
masses_of-requires-clause-fits c =
    let f = c.in-Some.form in
    form-fits c.args.auction.now c.args.units f.interim f.cuts f.bound c.in_ok-form.ensures.shaped (where-some c.in_ok-form.field-0 c.in-Some.form _ _ c.in-Some.is c.in_ok-form.ensures.closed)

pub masses_of-requires-clause-none_over : goal.masses_of-requires-clause-none_over
masses_of-requires-clause-none_over c =
    let f = c.in-Some.form in
    form-border c.args.auction.now c.args.units f.interim f.cuts f.bound c.in_ok-form.ensures.shaped (where-some c.in_ok-form.field-0 c.in-Some.form _ _ c.in-Some.is c.in_ok-form.ensures.closed)

pub unit_worth-requires-clause-fits : goal.unit_worth-requires-clause-fits
unit_worth-requires-clause-fits c =
    let f = c.in-Some.form in
    form-fits c.args.auction.now c.args.units f.interim f.cuts f.bound c.in_ok-form.ensures.shaped (where-some c.in_ok-form.field-0 c.in-Some.form _ _ c.in-Some.is c.in_ok-form.ensures.closed)

pub returns-clause-closed : goal.returns-clause-closed
returns-clause-closed c = record {
  form = where-some c.in_ok-form.field-0 c.in-Some.form _ _ c.in-Some.is c.in_ok-form.ensures.closed;
  value_is = c.unit_worth.ensures.value;
  least = c.unit_worth.ensures.least;
  table = c.in_ok-masses.ensures.table;
  implements = c.in_ok-masses.ensures.implements;
}

pub returns-clause-one : goal.returns-clause-one
returns-clause-one c = one-units c.args.auction.now c.args.units _ c.in_ok-form.ensures.shaped (omega (arith, c.requires.some)) (returns-clause-closed c)

pub returns-clause-own : goal.returns-clause-own
returns-clause-own c =
    let f = c.in-Some.form in
    form-pays c.args.auction.now c.args.units f.interim f.cuts f.bound c.in_ok-form.ensures.shaped (where-some c.in_ok-form.field-0 c.in-Some.form _ _ c.in-Some.is c.in_ok-form.ensures.closed)

pub returns-clause-optimal : goal.returns-clause-optimal
returns-clause-optimal c = units-optimal c.args.auction.now c.args.units _ c.in_ok-form.ensures.shaped (returns-clause-closed c)

pub returns-clause-odds : goal.returns-clause-odds
returns-clause-odds c = units-odds c.args.auction.now c.args.units _ c.in_ok-form.ensures.shaped (returns-clause-closed c)

pub returns-clause-pays : goal.returns-clause-pays
returns-clause-pays c = units-pays c.args.auction.now c.args.units _ c.in_ok-form.ensures.shaped (returns-clause-closed c)

pub returns-clause-value : goal.returns-clause-value
returns-clause-value c = units-value c.args.auction.now c.args.units _ c.in_ok-form.ensures.shaped (returns-clause-closed c)

pub returns-clause-certified : goal.returns-clause-certified
returns-clause-certified c =
    let f = c.in-Some.form in
    form-certified c.args.auction.now c.args.units f.interim f.cuts f.bound c.in_ok-form.ensures.shaped (where-some c.in_ok-form.field-0 c.in-Some.form _ _ c.in-Some.is c.in_ok-form.ensures.closed) (omega (arith, c.requires.some))

pub returns-clause-fits : goal.returns-clause-fits
returns-clause-fits c =
    let f = c.in-Some.form in
    form-fits c.args.auction.now c.args.units f.interim f.cuts f.bound c.in_ok-form.ensures.shaped (where-some c.in_ok-form.field-0 c.in-Some.form _ _ c.in-Some.is c.in_ok-form.ensures.closed)

pub returns-clause-writable : goal.returns-clause-writable
returns-clause-writable c =
    let f = c.in-Some.form in
    let closed = where-some c.in_ok-form.field-0 c.in-Some.form _ _ c.in-Some.is c.in_ok-form.ensures.closed in
    record {
      value = fraction c.unit_worth.result c.unit_worth.ensures.least.positive c.unit_worth.ensures.num_size c.unit_worth.ensures.den_size;
      cuts = form-cuts c.args.auction.now c.args.units f.interim f.cuts f.bound c.in_ok-form.ensures.shaped closed;
      bound = form-bound c.args.auction.now c.args.units f.interim f.cuts f.bound c.in_ok-form.ensures.shaped closed;
    }
