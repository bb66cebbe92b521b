use Rattle.std.proofs.Common.{◌≡◌, ◌++◌, take}
use Rattle.md_conditions_text.specs.ConditionRows.{condition_rows}
use Rattle.md_conditions_text.proofs.condition_writing.push_rows.Given as goal

abbrev pub invariant-loop-condition : goal.invariant-loop-condition
invariant-loop-condition l = l.to.items ≡ l.fn.to.items ++ condition_rows l.setting (take l.condition-index l.conditions)
