use Rattle.std.proofs.Common.{arith}
use Rattle.std.proofs.lemmas.Int.{ints}
use Rattle.md_fair.proofs.question.least_value.Goals as goal

pub returns-clause-fraction : goal.returns-clause-fraction
returns-clause-fraction c =
    let positive = c.least.ensures.value.least_terms.positive in
    record { positive = omega (arith, ints, positive); num_size = c.least.ensures.num_size; den_size = c.least.ensures.den_size }
