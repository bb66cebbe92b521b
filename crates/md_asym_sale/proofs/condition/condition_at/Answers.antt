use Rattle.std.proofs.Common.{◌-◌, arith}
use Rattle.md_asym_sale.proofs.ConditionLaws.{conditions-length, own-among, cut-at}
use Rattle.md_asym_sale.proofs.condition.condition_at.Goals as goal

pub own_condition_at-requires-clause-row : goal.own_condition_at-requires-clause-row
own_condition_at-requires-clause-row c = omega (arith, c.if-row-own.true, c.own_count-own.ensures.count)

pub returns-then-row-own : goal.returns-then-row-own
returns-then-row-own c = own-among c.args.setting.now c.args.cuts.now c.args.row c.own_condition_at.result c.own_condition_at.ensures

pub get-set-requires : goal.get-set-requires
get-set-requires c = omega (arith, c.requires.row, c.if-row-own.false, c.own_count-own.ensures.count, conditions-length c.args.setting.now c.args.cuts.now)

pub returns : goal.returns
returns c =
    cut-at c.args.setting.now c.args.cuts.now c.args.row (c.args.row - c.own_count-own.result) c.get-set.result
    (omega (arith, c.requires.row, c.if-row-own.false, c.own_count-own.ensures.count, conditions-length c.args.setting.now c.args.cuts.now))
    (omega (arith, c.if-row-own.false, c.own_count-own.ensures.count)) c.get-set.ensures c.requires.cuts
