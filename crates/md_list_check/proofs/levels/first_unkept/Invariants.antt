use Rattle.md_list_check.specs.Levels.{KeepsFrom}
use Rattle.md_list_gains.specs.Places.{weight_to, gain_to}
use Rattle.md_list_check.proofs.levels.first_unkept.Given as goal

abbrev pub invariant-loop-value : goal.invariant-loop-value
invariant-loop-value l = KeepsFrom (weight_to l.places) (gain_to l.places) l.first l.stop l.level l.value
