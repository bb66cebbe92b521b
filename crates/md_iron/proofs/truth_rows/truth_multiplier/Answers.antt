use Rattle.std.proofs.Common.{arith}
use Rattle.std.proofs.lemmas.Int.{to_z-of_z}
use mir.Syntax.{w128}
use Rattle.md_iron_pools.specs.Pooling.{pools_of}
use Rattle.md_iron.proofs.MultiplierLaws.{multiplier-up}
use Rattle.md_iron.proofs.ShareLaws.{zero-least}
use Rattle.md_iron.proofs.truth_rows.truth_multiplier.Goals as goal

pub overflow_add-kind : goal.overflow_add-kind
overflow_add-kind c = record { fits = omega (arith, c.requires.kind_in, c.kinds-shaped.ensures.shaped.few_values) }

pub overflow_add-other : goal.overflow_add-other
overflow_add-other c = record { fits = omega (arith, c.requires.other_in, c.kinds-shaped.ensures.shaped.few_values) }

pub returns-clause-least : goal.returns-clause-least
returns-clause-least c = zero-least

pub returns-then-other-kind-clause-multiplier : goal.returns-then-other-kind-clause-multiplier
returns-then-other-kind-clause-multiplier c = λ divisor.
    multiplier-up c.args.auction.now (pools_of c.args.pools.now) c.args.factor divisor c.args.kind c.args.other c.upward.result c.if-other-kind.true
    (rw (to_z-of_z w128 c.args.factor c.ranges.factor) at c.upward.ensures.value)
