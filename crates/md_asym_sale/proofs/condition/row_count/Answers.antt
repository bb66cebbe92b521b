use Rattle.std.proofs.Common.{arith}
use Rattle.md_asym_sale.specs.Values.{pairs_of}
use Rattle.md_asym_sale.proofs.ConditionLaws.{conditions-length}
use Rattle.md_lp.proofs.CutLaws.{cuts-at_most}
use Rattle.md_asym_sale.proofs.condition.row_count.Goals as goal

pub overflow_cast-result : goal.overflow_cast-result
overflow_cast-result c = record { fits = omega (arith, c.len.ensures, cuts-at_most (pairs_of c.args.setting.now) c.args.cuts.now c.requires.cuts c.requires.sale.few_types) }

pub overflow_add-result : goal.overflow_add-result
overflow_add-result c = record {
  fits = omega (arith, c.len.ensures, c.own_count.ensures.few, cuts-at_most (pairs_of c.args.setting.now) c.args.cuts.now c.requires.cuts c.requires.sale.few_types);
}

pub returns : goal.returns
returns c = omega (arith, c.len.ensures, c.own_count.ensures.count, conditions-length c.args.setting.now c.args.cuts.now)
