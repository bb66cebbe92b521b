-- The code's quotient is the one that divides with no rest.
use Rattle.std.proofs.lemmas.Int.{quot_is, quot_fits}
use mir.Syntax.{w128}
use Rattle.md_math.proofs.Division.{Divides-int_div}
use Rattle.md_num.proofs.division.exact_quotient.Goals as goal

pub returns-clause-value : goal.returns-clause-value
returns-clause-value c =
    let fits = quot_fits w128 c.args.x c.args.divisor c.ranges.x c.requires.positive in
    rw (quot_is w128 c.args.x c.args.divisor c.ranges.x c.ranges.divisor fits) (Divides-int_div c.args.divisor c.args.x c.requires.exact)
