use Rattle.std.proofs.Common.{ap, sym, ◌∙◌, arith}
use Rattle.std.proofs.lemmas.List.{take_all}
use Rattle.md_require.specs.RequireQuestion.{require_rows}
use Rattle.md_require.proofs.ConditionRows.{nothing_asked}
use Rattle.md_conditions_text.proofs.LoopLaws.{no-rows}
use Rattle.md_conditions_text.proofs.NarrowLaws.{taken-few, taken-more}
use Rattle.md_conditions_text.proofs.narrow.rows_of.Goals as goal

pub loop-condition-init : goal.loop-condition-init
loop-condition-init c = c.rows-rows.ensures.count ∙ sym (no-rows c.args.setting.now)

pub row_count-rows-requires : goal.row_count-rows-requires
row_count-rows-requires c = (c.requires.each c.loop-condition.condition-index nothing_asked c.loop-condition-test.true).place

pub overflow_add-rows : goal.overflow_add-rows
overflow_add-rows c =
    let few = taken-few c.args.setting.now c.args.conditions.now c.loop-condition.condition-index c.requires.few_rows in
    omega (arith, few, c.loop-condition.invariant, c.row_count-rows.ensures.few)

pub loop-condition-preserved : goal.loop-condition-preserved
loop-condition-preserved c =
    taken-more c.args.setting.now c.args.conditions.now c.loop-condition.condition-index nothing_asked c.loop-condition.rows c.row_count-rows.result c.loop-condition-test.true c.loop-condition.invariant c.row_count-rows.ensures.count

pub returns-clause-count : goal.returns-clause-count
returns-clause-count c =
    c.loop-condition.invariant ∙ ap (require_rows c.args.setting.now) (take_all c.loop-condition.condition-index c.args.conditions.now (omega (arith, c.loop-condition-test.false)))

pub returns-clause-few : goal.returns-clause-few
returns-clause-few c =
    let few = taken-few c.args.setting.now c.args.conditions.now c.loop-condition.condition-index c.requires.few_rows in
    omega (arith, few, c.loop-condition.invariant)
