use Rattle.std.proofs.Common.{◌≡◌, ◌<◌, length, take, arith}
use Rattle.md_asym_sale.specs.Conditions.{conditions_of}
use Rattle.md_asym_sale.proofs.BuiltLaws.{extends-next, extends-all, room-next, columns-kept}
use Rattle.md_asym_sale.proofs.sale_program.push_rows.Goals as goal

pub condition_at-requires-clause-row : goal.condition_at-requires-clause-row
condition_at-requires-clause-row c = omega (arith, c.loop-row-test.true, c.row_count-row-end.ensures)

pub push_condition-requires-clause-columns : goal.push_condition-requires-clause-columns
push_condition-requires-clause-columns c =
    let s = c.args.setting.now in
    columns-kept s (take c.loop-row.row (conditions_of s c.args.cuts.now)) c.args.lp.now c.loop-row.lp c.loop-row.invariant c.requires.columns

pub push_condition-requires-clause-room : goal.push_condition-requires-clause-room
push_condition-requires-clause-room c =
    let s = c.args.setting.now in
    let cs = conditions_of s c.args.cuts.now in
    let below : c.loop-row.row < length cs = omega (arith, c.loop-row-test.true, c.row_count-row-end.ensures) in
    room-next s cs c.loop-row.row c.args.lp.now c.loop-row.lp below c.requires.room c.loop-row.invariant

pub loop-row-preserved : goal.loop-row-preserved
loop-row-preserved c =
    let s = c.args.setting.now in
    extends-next s (conditions_of s c.args.cuts.now) c.loop-row.row c.condition_at.result c.args.lp.now c.loop-row.lp c.push_condition.new.lp c.condition_at.ensures.is c.loop-row.invariant c.in_ok-push_condition.ensures

pub returns : goal.returns
returns c =
    let s = c.args.setting.now in
    let cs = conditions_of s c.args.cuts.now in
    let whole : c.loop-row.row ≡ length cs = omega (arith, c.loop-row-test.false, c.loop-row.auto.row-end, c.row_count-row-end.ensures) in
    extends-all s cs c.loop-row.row c.args.lp.now c.loop-row.lp whole c.loop-row.invariant
