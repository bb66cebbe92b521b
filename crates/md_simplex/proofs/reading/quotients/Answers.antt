use Rattle.std.proofs.Common.{◌≡◌, to_z, of_z}
use mir.Syntax.{w128}
use Rattle.std.proofs.lemmas.Int.{to_z-of_z}
use Rattle.md_math.specs.Lists.{number_at}
use Rattle.md_math.proofs.Bits.{read_result}
use Rattle.md_simplex.proofs.Reduced.{AreQuotients-more}
use Rattle.md_simplex.proofs.ReadSteps.{read_small}
use Rattle.md_simplex.proofs.reading.quotients.Goals as goal

pub exact_quotient-requires-clause-exact : goal.exact_quotient-requires-clause-exact
exact_quotient-requires-clause-exact c =
    let i = c.loop-number.number-index in
    let item = number_at c.args.numbers.now i in
    rw (to_z-of_z w128 c.args.by c.ranges.by, read_small item (c.requires.sizes.at i c.loop-number-test.true)) (c.requires.exact i c.loop-number-test.true)

pub loop-number-preserved : goal.loop-number-preserved
loop-number-preserved c =
    let i = c.loop-number.number-index in
    let item = number_at c.args.numbers.now i in
    let back : to_z w128 (of_z w128 item) ≡ item = read_small item (c.requires.sizes.at i c.loop-number-test.true) in
    let by : to_z w128 (of_z w128 c.args.by) ≡ c.args.by = to_z-of_z w128 c.args.by c.ranges.by in
    let quotient = rw (by, back) at c.exact_quotient.ensures.value in
    let before = rw by at c.loop-number.invariant in
    rw (c.in_ok-push.ensures.ok, by, read_result c.exact_quotient.result c.exact_quotient.type_inv)
    (AreQuotients-more i c.args.by (number_at c.args.numbers.now) c.loop-number.divided c.exact_quotient.result before quotient)
