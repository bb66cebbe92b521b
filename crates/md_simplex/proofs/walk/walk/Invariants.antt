use Rattle.md_dict.specs.Condensed.{entry_at}
use Rattle.md_simplex.specs.Rules.{IsNext}
use Rattle.md_simplex.specs.Walk.{IsReached}
use Rattle.md_simplex.proofs.WalkLaws.{left_over}
use Rattle.md_simplex.proofs.walk.walk.Given as goal

abbrev pub invariant-loop-step : goal.invariant-loop-step
invariant-loop-step l = record {
  reached : IsReached l.fn.order l.fn.lp l.fn.width l.path l.dict;
  next : IsNext l.fn.order l.dict.rows l.dict.columns (entry_at l.dict) l.step;
}

abbrev pub decreases-loop-step : goal.decreases-loop-step
decreases-loop-step l = left_over l.fn.lp l.path
