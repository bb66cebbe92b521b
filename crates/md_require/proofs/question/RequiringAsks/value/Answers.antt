use Rattle.std.proofs.Common.{arith}
use Rattle.std.proofs.lemmas.Int.{ints}
use Rattle.md_require.proofs.question.RequiringAsks.value.Goals as goal

pub returns-clause-fraction : goal.returns-clause-fraction
returns-clause-fraction c =
    let positive = c.worth.ensures.value.least.positive in
    record { positive = omega (arith, ints, positive); num_size = c.worth.ensures.num_size; den_size = c.worth.ensures.den_size }
