use Rattle.md_reduced.specs.ProgramOf.{GrowsByRows}
use Rattle.md_reduced.proofs.reduced.push_rows.Given as goal

abbrev pub invariant-loop-row : goal.invariant-loop-row
invariant-loop-row l = GrowsByRows l.auction l.units l.cuts l.row l.fn.lp l.lp
