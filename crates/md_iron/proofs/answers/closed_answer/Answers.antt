use Rattle.md_iron.proofs.AnswerLaws.{item-border, item-writable}
use Rattle.md_iron.proofs.FormLaws.{form-fits, form-pays}
use Rattle.md_iron.proofs.OneForm.{one-item}
use Rattle.md_iron.proofs.ShareLaws.{where-some}
use Rattle.md_iron.proofs.answers.closed_answer.Goals as goal

pub masses_of-requires-clause-fits : goal.masses_of-requires-clause-fits
masses_of-requires-clause-fits c =
    let f = c.in-Some.form in
    form-fits c.args.auction.now 1 f.interim f.cuts f.bound c.in_ok-form.ensures.shaped (where-some c.in_ok-form.field-0 c.in-Some.form _ _ c.in-Some.is c.in_ok-form.ensures.closed)

pub masses_of-requires-clause-none_over : goal.masses_of-requires-clause-none_over
masses_of-requires-clause-none_over c =
    let f = c.in-Some.form in
    item-border c.args.auction.now f.interim f.cuts f.bound c.in_ok-form.ensures.shaped (where-some c.in_ok-form.field-0 c.in-Some.form _ _ c.in-Some.is c.in_ok-form.ensures.closed)

pub auction_worth-requires : goal.auction_worth-requires
auction_worth-requires c =
    let f = c.in-Some.form in
    record { fits = form-fits c.args.auction.now 1 f.interim f.cuts f.bound c.in_ok-form.ensures.shaped (where-some c.in_ok-form.field-0 c.in-Some.form _ _ c.in-Some.is c.in_ok-form.ensures.closed) }

pub returns-clause-closed : goal.returns-clause-closed
returns-clause-closed c = record {
  form = where-some c.in_ok-form.field-0 c.in-Some.form _ _ c.in-Some.is c.in_ok-form.ensures.closed;
  value_is = record { has_worth = c.auction_worth.ensures.value; least = c.auction_worth.ensures.least };
  implements = c.in_ok-masses.ensures.implements;
}

pub returns-clause-one : goal.returns-clause-one
returns-clause-one c =
    let f = c.in-Some.form in
    one-item c.args.auction.now c.auction_worth.result f.interim c.in_ok-masses.masses f.cuts f.bound c.in_ok-form.ensures.shaped (returns-clause-closed c)

pub returns-clause-pays : goal.returns-clause-pays
returns-clause-pays c =
    let f = c.in-Some.form in
    form-pays c.args.auction.now 1 f.interim f.cuts f.bound c.in_ok-form.ensures.shaped (where-some c.in_ok-form.field-0 c.in-Some.form _ _ c.in-Some.is c.in_ok-form.ensures.closed)

pub returns-clause-writable : goal.returns-clause-writable
returns-clause-writable c =
    let f = c.in-Some.form in
    let worth = c.auction_worth.ensures in
    item-writable c.args.auction.now c.auction_worth.result f.interim c.in_ok-masses.masses f.cuts f.bound c.in_ok-form.ensures.shaped
    (where-some c.in_ok-form.field-0 c.in-Some.form _ _ c.in-Some.is c.in_ok-form.ensures.closed)
    worth.least.positive worth.num_size worth.den_size c.in_ok-masses.ensures.masses c.in_ok-masses.ensures.implements.same_den
