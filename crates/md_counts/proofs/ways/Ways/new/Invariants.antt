use Rattle.md_counts.specs.Ways.{HasWays}
use Rattle.md_counts.proofs.ways.Ways.new.Given as goal

abbrev pub invariant-loop-place : goal.invariant-loop-place
invariant-loop-place l = HasWays l.table l.place
