use Rattle.std.proofs.Common.{◌≡◌, pos, Ok}
use Rattle.md_answer.specs.MassReading.{masses_to}
use Rattle.md_answer.proofs.mass_reading.read_masses.Given as goal

abbrev pub invariant-loop-rank : goal.invariant-loop-rank
invariant-loop-rank l = masses_to l.supply l.auction (pos l.den) l.rank l.fn.reader ≡ Ok (l.rows, l.reader)
