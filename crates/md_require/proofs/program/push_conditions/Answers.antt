use Rattle.std.proofs.Common.{◌≡◌, take, ◌∙◌, subst, arith}
use Rattle.std.specs.Prelude.{flat_map}
use Rattle.std.proofs.lemmas.List.{take_all}
use Rattle.md_forms.specs.Built.{Extends}
use Rattle.md_forms.proofs.BuiltLaws.{same_columns}
use Rattle.md_require.specs.RequireProgram.{condition_forms}
use Rattle.md_require.proofs.ConditionRows.{extends-next, nothing_asked, room-next}
use Rattle.md_require.proofs.program.push_conditions.Goals as goal

pub push_condition-requires-clause-condition : goal.push_condition-requires-clause-condition
push_condition-requires-clause-condition c = c.requires.conditions.each c.loop-condition.condition-index nothing_asked c.loop-condition-test.true

pub push_condition-requires-clause-columns : goal.push_condition-requires-clause-columns
push_condition-requires-clause-columns c =
    same_columns (flat_map (condition_forms c.args.setting.now) (take c.loop-condition.condition-index c.args.conditions.now)) c.args.lp.now c.loop-condition.lp c.loop-condition.invariant ∙ c.requires.columns

pub push_condition-requires-clause-room : goal.push_condition-requires-clause-room
push_condition-requires-clause-room c =
    room-next c.args.setting.now c.args.conditions.now c.loop-condition.condition-index nothing_asked c.args.lp.now c.loop-condition.lp c.loop-condition-test.true c.requires.room c.loop-condition.invariant

pub loop-condition-preserved : goal.loop-condition-preserved
loop-condition-preserved c =
    extends-next c.args.setting.now c.args.conditions.now c.loop-condition.condition-index nothing_asked c.args.lp.now c.loop-condition.lp c.push_condition.new.lp c.loop-condition-test.true c.loop-condition.invariant c.in_ok-push_condition.ensures

pub returns : goal.returns
returns c =
    let whole : take c.loop-condition.condition-index c.args.conditions.now ≡ c.args.conditions.now = take_all c.loop-condition.condition-index c.args.conditions.now (omega (arith, c.loop-condition-test.false)) in
    subst (λ cs. Extends (flat_map (condition_forms c.args.setting.now) cs) c.args.lp.now c.loop-condition.lp) whole c.loop-condition.invariant
