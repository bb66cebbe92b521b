use Rattle.std.proofs.Common.{take}
use Rattle.std.specs.Prelude.{flat_map}
use Rattle.md_forms.specs.Built.{Extends}
use Rattle.md_require.specs.RequireProgram.{condition_forms}
use Rattle.md_require.proofs.program.push_conditions.Given as goal

abbrev pub invariant-loop-condition : goal.invariant-loop-condition
invariant-loop-condition l = Extends (flat_map (condition_forms l.setting) (take l.condition-index l.conditions)) l.fn.lp l.lp
