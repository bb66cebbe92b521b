use Rattle.std.specs.Prelude.{flat_map}
use Rattle.md_setting.specs.Rows.{column_count}
use Rattle.md_mech.specs.Rows.{conditions_of}
use Rattle.md_forms.proofs.BuiltLaws.{program-more}
use Rattle.md_rows.specs.ProgramOf.{forms_of}
use Rattle.md_rows.specs.Sides.{cost_in}
use Rattle.md_require.specs.RequireProgram.{condition_forms}
use Rattle.md_require.proofs.ConditionRows.{room-behind}
use Rattle.md_require.proofs.program.require_program.Goals as goal

pub push_conditions-requires-clause-room : goal.push_conditions-requires-clause-room
push_conditions-requires-clause-room c = room-behind c.args.setting.now c.args.conditions.now c.in_ok-lp.lp c.requires c.in_ok-lp.ensures.program

pub push_conditions-requires-clause-columns : goal.push_conditions-requires-clause-columns
push_conditions-requires-clause-columns c = c.in_ok-lp.ensures.program.columns

pub returns : goal.returns
returns c =
    let s = c.args.setting.now in
    program-more (column_count s) (forms_of s (conditions_of s)) (flat_map (condition_forms s) c.args.conditions.now) (cost_in s) c.in_ok-lp.lp c.push_conditions.new.lp
    c.in_ok-lp.ensures.program c.in_ok-push_conditions.ensures
