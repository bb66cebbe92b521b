use Rattle.std.proofs.Common.{arith}
use Rattle.std.proofs.lemmas.Int.{ints}
use Rattle.md_math.proofs.Bits.{read_result}
use Rattle.md_list_find.proofs.Weighed.{less-gain, no-more-benefit}
use Rattle.md_list_find.proofs.order.brings_more.Goals as goal

pub returns-then-gain-lt0-clause-no_more : goal.returns-then-gain-lt0-clause-no_more
returns-then-gain-lt0-clause-no_more c = λ _.
    less-gain c.args.sums c.args.other c.more_gain-gain.result c.more_gain-gain.ensures (omega (arith, ints, read_result c.more_gain-gain.result c.more_gain-gain.type_inv, c.if-gain-lt0.true))

pub returns-clause-no_more : goal.returns-clause-no_more
returns-clause-no_more c = λ no.
    no-more-benefit c.args.sums c.args.other c.more_gain-gain.result c.more_gain-gain.ensures c.more_benefit.result c.more_benefit.ensures
    (omega (arith, ints, read_result c.more_gain-gain.result c.more_gain-gain.type_inv, c.if-gain-gt0.false))
    (omega (arith, ints, read_result c.more_gain-gain.result c.more_gain-gain.type_inv, c.if-gain-lt0.false))
    (omega (arith, ints, read_result c.more_benefit.result c.more_benefit.type_inv, no))
