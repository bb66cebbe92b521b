use Rattle.md_math.specs.Lists.{number_at}
use Rattle.md_simplex.specs.ReadingSteps.{AreQuotients}
use Rattle.md_simplex.proofs.reading.quotients.Given as goal

abbrev pub invariant-loop-number : goal.invariant-loop-number
invariant-loop-number l = AreQuotients l.number-index l.by (number_at l.numbers) l.divided
