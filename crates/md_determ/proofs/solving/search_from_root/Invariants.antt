use Rattle.md_determ_branching.specs.Tour.{left_of}
use Rattle.md_determ.specs.Way.{IsUnderWay}
use Rattle.md_determ.proofs.solving.search_from_root.Given as goal

abbrev pub invariant-loop-alloc : goal.invariant-loop-alloc
invariant-loop-alloc l = IsUnderWay l.fn.setting l.fn.width l.search

abbrev pub decreases-loop-alloc : goal.decreases-loop-alloc
decreases-loop-alloc l = left_of l.search.walk
