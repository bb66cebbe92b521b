use Rattle.md_list.specs.ByRule.{IsPoolEnd}
use Rattle.md_list_gains.specs.Places.{weight_to, gain_to}
use Rattle.md_list_find.proofs.chords.pool_end.Given as goal

abbrev pub invariant-loop-place : goal.invariant-loop-place
invariant-loop-place l = IsPoolEnd l.place (weight_to l.places) (gain_to l.places) l.first l.stop
