use Rattle.std.proofs.Common.{arith}
use Rattle.std.proofs.lemmas.Int.{to_z-of_z}
use mir.Syntax.{w128}
use Rattle.md_iron.proofs.truth_rows.least_terms.Goals as goal

pub returns-clause-least : goal.returns-clause-least
returns-clause-least c =
    let num = rw (to_z-of_z w128 c.args.num c.ranges.num) at c.reduced.ensures.num_size in
    let den = rw (to_z-of_z w128 c.args.den c.ranges.den) at c.reduced.ensures.den_size in
    record { least = c.reduced.ensures.least; num_size = omega (arith, num, c.requires.num_size); den_size = omega (arith, den, c.requires.den_size) }

pub returns-clause-value : goal.returns-clause-value
returns-clause-value c = rw (to_z-of_z w128 c.args.num c.ranges.num, to_z-of_z w128 c.args.den c.ranges.den) at c.reduced.ensures.value
