use Rattle.std.proofs.Common.{◌≡◌, ◌+◌, length, take}
use Rattle.std.specs.Prelude.{flat_map}
use Rattle.md_math.specs.Lists.{number_at}
use Rattle.md_mech.specs.Rows.{conditions_of}
use Rattle.md_rows.specs.ProgramOf.{forms_of}
use Rattle.md_require.specs.RequireProgram.{condition_forms}
use Rattle.md_require.specs.Shadows.{AreToldShadows, from}
use Rattle.md_require.proofs.shadow_prices.told_shadows.Given as goal

abbrev pub invariant-loop-condition : goal.invariant-loop-condition
invariant-loop-condition l = record {
  row : l.first ≡ length (forms_of l.setting (conditions_of l.setting)) + length (flat_map (condition_forms l.setting) (take l.condition-index l.conditions));
  told : AreToldShadows l.setting (take l.condition-index l.conditions) l.bound.den (from (length (forms_of l.setting (conditions_of l.setting))) (number_at l.bound.main)) (from (length (forms_of l.setting (conditions_of l.setting))) (number_at l.bound.face)) l.shadows.items;
}
