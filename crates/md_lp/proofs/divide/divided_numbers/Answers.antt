use Rattle.std.proofs.Common.{◌≡◌, ◌^◌, to_z, of_z, lit<, sym}
use mir.Syntax.{w128}
use Rattle.std.proofs.lemmas.Int.{to_z-of_z}
use Rattle.md_math.specs.Lists.{number_at}
use Rattle.md_math.proofs.Bits.{read_within, read_result}
use Rattle.md_lp.proofs.Dividing.{IsDividedList-more}
use Rattle.md_lp.proofs.divide.divided_numbers.Goals as goal

pub exact_quotient-requires-clause-exact : goal.exact_quotient-requires-clause-exact
exact_quotient-requires-clause-exact c =
    let i = c.loop-number.number-index in
    let item = number_at c.args.cost.now i in
    rw (to_z-of_z w128 c.args.by c.ranges.by, read_within (2 ^ 44) item (c.requires.sizes.at i c.loop-number-test.true) (lit< tt)) (c.requires.exact i c.loop-number-test.true)

pub loop-number-preserved : goal.loop-number-preserved
loop-number-preserved c =
    let i = c.loop-number.number-index in
    let item = number_at c.args.cost.now i in
    let back : to_z w128 (of_z w128 item) ≡ item = read_within (2 ^ 44) item (c.requires.sizes.at i c.loop-number-test.true) (lit< tt) in
    let by : to_z w128 (of_z w128 c.args.by) ≡ c.args.by = to_z-of_z w128 c.args.by c.ranges.by in
    let quotient = rw (by, back) at c.exact_quotient.ensures.value in
    let before = rw by at c.loop-number.invariant in
    rw (c.in_ok-push.ensures.ok, by, read_result c.exact_quotient.result c.exact_quotient.type_inv)
    (IsDividedList-more c.args.by c.args.cost.now c.loop-number.divided i c.exact_quotient.result c.loop-number-test.true before (sym quotient))
