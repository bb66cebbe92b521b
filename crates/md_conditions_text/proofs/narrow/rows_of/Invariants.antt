use Rattle.std.proofs.Common.{◌≡◌, take}
use Rattle.md_require.specs.RequireQuestion.{require_rows}
use Rattle.md_conditions_text.proofs.narrow.rows_of.Given as goal

abbrev pub invariant-loop-condition : goal.invariant-loop-condition
invariant-loop-condition l = l.rows ≡ require_rows l.setting (take l.condition-index l.conditions)
