use Rattle.std.proofs.Common.{◌≡◌, ◌≤◌, length}
use Rattle.md_determ_branching.specs.Path.{IsTrail, behind}
use Rattle.md_determ_branching.proofs.walk.go_on.Given as goal

abbrev pub invariant-loop-left : goal.invariant-loop-left
invariant-loop-left l = record {
  room : l.left ≤ l.depth;
  ranks : length l.fixed ≡ length l.fn.fixed;
  trail : IsTrail l.outcomes l.fixed l.path.items l.left;
  same : behind l.outcomes l.fixed l.path.items l.left ≡ behind l.outcomes l.fn.fixed l.path.items l.depth;
}

abbrev pub decreases-loop-left : goal.decreases-loop-left
decreases-loop-left l = l.left
