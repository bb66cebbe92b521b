use Rattle.md_list_gains.proofs.Gathered.{AreGathered}
use Rattle.md_list_gains.proofs.gains.places.Given as goal

abbrev pub invariant-loop-value : goal.invariant-loop-value
invariant-loop-value l = AreGathered l.auction l.group l.value l.places.items l.sums
