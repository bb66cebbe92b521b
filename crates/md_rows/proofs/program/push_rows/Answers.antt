use Rattle.std.proofs.Common.{◌≡◌, ◌<◌, length, arith}
use Rattle.md_mech.specs.Conditions.{named}
use Rattle.md_mech.specs.Rows.{conditions_of}
use Rattle.md_mech.proofs.CountLaws.{conditions-length}
use Rattle.md_rows.proofs.BuiltLaws.{extends-next, extends-all, room-next}
use Rattle.md_rows.proofs.program.push_rows.Goals as goal

pub condition_at-requires : goal.condition_at-requires
condition_at-requires c = omega (arith, c.loop-row-test.true, c.rows-row-end.ensures.count, conditions-length c.args.setting.now)

pub push_condition-requires-clause-room : goal.push_condition-requires-clause-room
push_condition-requires-clause-room c =
    let s = c.args.setting.now in
    let below : c.loop-row.row < length (conditions_of s) = omega (arith, c.loop-row-test.true, c.rows-row-end.ensures.count, conditions-length s) in
    room-next s (conditions_of s) c.loop-row.row (named s c.condition_at.result) c.args.lp.now c.loop-row.lp below c.requires c.loop-row.invariant

pub loop-row-preserved : goal.loop-row-preserved
loop-row-preserved c =
    let s = c.args.setting.now in
    extends-next s (conditions_of s) c.loop-row.row (named s c.condition_at.result) c.args.lp.now c.loop-row.lp c.push_condition.new.lp c.condition_at.ensures.row c.loop-row.invariant c.in_ok-push_condition.ensures.ok

pub returns-clause-ok : goal.returns-clause-ok
returns-clause-ok c =
    let s = c.args.setting.now in
    let whole : c.loop-row.row ≡ length (conditions_of s) = omega (arith, c.loop-row-test.false, c.loop-row.auto.row-end, c.rows-row-end.ensures.count, conditions-length s) in
    extends-all s (conditions_of s) c.loop-row.row c.args.lp.now c.loop-row.lp whole c.loop-row.invariant
