use Rattle.std.proofs.Common.{pos, ◌<ℤ◌, subst, arith}
use Rattle.std.proofs.lemmas.Int.{ints}
use Rattle.md_setting.specs.Meaning.{total_of}
use Rattle.md_mech.specs.Optimal.{worth_of}
use Rattle.md_tree.proofs.WorthLaws.{same-order}
use Rattle.md_tree.proofs.worths.is_worth_at_most.Goals as goal

pub returns : goal.returns
returns c =
    let s = c.args.setting.now in
    let m = c.args.mechanism.now in
    let other = c.args.other.now in
    let first = c.worth.result in
    let second = c.worth-2.result in
    let den : pos 0 <ℤ m.den = (let one = c.requires.accepted.mechanism.den in omega (arith, ints, one)) in
    let other_den : pos 0 <ℤ other.den = (let one = c.requires.other.mechanism.den in omega (arith, ints, one)) in
    let total : pos 0 <ℤ total_of s = subst (λ z. pos 0 <ℤ z) c.total-weight.ensures.value c.total-weight.ensures.positive in
    let order =
    same-order first.num first.den (worth_of s m) m.den second.num second.den (worth_of s other) other.den (total_of s) c.worth.ensures.value.least.positive c.worth-2.ensures.value.least.positive den other_den total
    c.worth.ensures.value.is_value c.worth-2.ensures.value.is_value in
    (λ h. order.0 (c.at_most.ensures.0 h), λ h. c.at_most.ensures.1 (order.1 h))
