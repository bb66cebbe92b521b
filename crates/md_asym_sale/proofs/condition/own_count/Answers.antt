use Rattle.std.proofs.Common.{arith}
use Rattle.md_asym_sale.proofs.ConditionLaws.{own-count}
use Rattle.md_asym_sale.proofs.condition.own_count.Goals as goal

pub overflow_sub-result : goal.overflow_sub-result
overflow_sub-result c = omega (arith, c.rows.ensures.count, c.profiles.ensures.count, own-count c.args.setting.now c.requires)

pub returns-clause-count : goal.returns-clause-count
returns-clause-count c = omega (arith, c.rows.ensures.count, c.profiles.ensures.count, own-count c.args.setting.now c.requires)

pub returns-clause-few : goal.returns-clause-few
returns-clause-few c = omega (arith, c.rows.ensures.count, c.rows.ensures.shaped.few_rows)
