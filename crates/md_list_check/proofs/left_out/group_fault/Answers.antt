use Rattle.std.proofs.Common.{refl, ◌∙◌, arith}
use Rattle.md_math.proofs.Bits.{read_result}
use Rattle.md_math.proofs.Readings.{read}
use Rattle.md_list.specs.Lists.{ranks_of}
use Rattle.md_list_gains.proofs.Crosswise.{read-small}
use Rattle.md_list_check.proofs.LeftOutLaws.{unlisted-below, all-nothing}
use Rattle.md_list_check.proofs.VerdictLaws.{gain-multiple, benefit-multiple, group-fault}
use Rattle.md_list_check.proofs.left_out.group_fault.Goals as goal

pub first_gain-requires-clause-inside : goal.first_gain-requires-clause-inside
first_gain-requires-clause-inside c =
    let below = unlisted-below c.args.auction.now (ranks_of c.args.ranks.now) c.requires.form c.args.group in
    rw c.deref.ensures.value (omega (arith, c.unlisted-stop.ensures, below, c.in_ok-places.ensures.sums.long))

pub returns-in_default : goal.returns-in_default
returns-in_default c =
    all-nothing c.args.auction.now (ranks_of c.args.ranks.now) c.requires.form c.args.group c.in_ok-places.places.items c.in_ok-places.ensures.sums c.unlisted-stop.result c.unlisted-stop.ensures
    (rw c.deref.ensures.value at c.in_default.ensures)

pub between-sums-requires-clause-stop : goal.between-sums-requires-clause-stop
between-sums-requires-clause-stop c =
    let below = unlisted-below c.args.auction.now (ranks_of c.args.ranks.now) c.requires.form c.args.group in
    rw c.deref-2.ensures.value (omega (arith, c.unlisted-stop.ensures, below, c.in_ok-places.ensures.sums.long))

pub in_least_terms-requires-clause-exact : goal.in_least_terms-requires-clause-exact
in_least_terms-requires-clause-exact c =
    rw (read _ _ (read-small _ _ c.from.type_inv c.between-sums.ensures.size.gain c.from.ensures))
    (gain-multiple c.args.auction.now (ranks_of c.args.ranks.now) c.requires.form c.args.group c.requires.group c.in_ok-places.places.items c.in_ok-places.ensures.sums c.in-Some.value c.unlisted-stop.result c.unlisted-stop.ensures
    c.in-Some.ensures.below c.between-sums.result.gain (rw c.deref-2.ensures.value at c.between-sums.ensures.gain))

pub in_least_terms-requires-2-clause-exact : goal.in_least_terms-requires-2-clause-exact
in_least_terms-requires-2-clause-exact c =
    rw (read _ _ (read-small _ _ c.from-2.type_inv c.between-sums.ensures.size.benefit c.from-2.ensures))
    (benefit-multiple c.args.auction.now (ranks_of c.args.ranks.now) c.requires.form c.args.group c.requires.group c.in_ok-places.places.items c.in_ok-places.ensures.sums c.in-Some.value c.unlisted-stop.result c.unlisted-stop.ensures
    c.in-Some.ensures.below c.between-sums.result.benefit (rw c.deref-2.ensures.value at c.between-sums.ensures.benefit))

pub returns : goal.returns
returns c = (
  refl,
  rw (read_result c.in_least_terms.result c.in_least_terms.type_inv, read_result c.in_least_terms-2.result c.in_least_terms-2.type_inv)
      (group-fault c.args.auction.now (ranks_of c.args.ranks.now) c.requires.form c.args.group c.requires.group c.in_ok-places.places.items c.in_ok-places.ensures.sums c.in-Some.value c.unlisted-stop.result c.unlisted-stop.ensures
      c.in-Some.ensures.below c.between-sums.result.gain c.between-sums.result.benefit c.in_least_terms.result c.in_least_terms-2.result (rw c.deref.ensures.value at c.in-Some.ensures)
      (rw c.deref-2.ensures.value at c.between-sums.ensures.gain) (rw c.deref-2.ensures.value at c.between-sums.ensures.benefit)
      (c.in_least_terms.ensures ∙ read _ _ (read-small _ _ c.from.type_inv c.between-sums.ensures.size.gain c.from.ensures))
      (c.in_least_terms-2.ensures ∙ read _ _ (read-small _ _ c.from-2.type_inv c.between-sums.ensures.size.benefit c.from-2.ensures))),
)
