use Rattle.md_list_find.specs.Levels.{AreLevelsOf}
use Rattle.md_list_find.proofs.virtual_values.levels.Given as goal

abbrev pub invariant-loop-place : goal.invariant-loop-place
invariant-loop-place l = AreLevelsOf l.pools l.place l.levels.items
