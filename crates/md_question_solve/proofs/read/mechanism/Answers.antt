use Rattle.std.proofs.Common.{arith}
use mir.Syntax.{w128}
use Rattle.std.proofs.lemmas.Int.{to_z-of_z}
use Rattle.md_math.specs.Lists.{number_at}
use Rattle.md_question_solve.proofs.read.mechanism.Goals as goal

pub mechanism_of-requires-clause-one_each : goal.mechanism_of-requires-clause-one_each
mechanism_of-requires-clause-one_each c = omega (arith, c.requires.point_fits.one_each, c.requires.program.columns)

pub mechanism_of-requires-clause-meets : goal.mechanism_of-requires-clause-meets
mechanism_of-requires-clause-meets c = rw (to_z-of_z w128 c.args.den c.ranges.den) (c.requires.program.meets c.args.den (number_at c.args.point.now) c.requires.meets)
