use Rattle.std.proofs.Common.{arith}
use Rattle.md_math.proofs.Bits.{read_result}
use Rattle.md_dict_division.proofs.Reading.{two_products_small, widened}
use Rattle.md_dict_rows.proofs.combination.Combination.mixed.Goals as goal

pub cross_difference-requires : goal.cross_difference-requires
cross_difference-requires c =
    rw (widened c.args.self.now.multiplier c.from.result c.requires.multiplier c.from.ensures, widened c.args.own c.from-2.result c.requires.own c.from-2.ensures, widened c.args.self.now.factor c.from-3.result c.requires.factor c.from-3.ensures, widened c.args.taken c.from-4.result c.requires.taken c.from-4.ensures)
    (two_products_small c.args.self.now.multiplier c.args.own c.args.self.now.factor c.args.taken c.requires.multiplier c.requires.own c.requires.factor c.requires.taken)

pub returns-clause-value : goal.returns-clause-value
returns-clause-value c =
    rw (read_result c.cross_difference.result c.cross_difference.type_inv)
    (rw (widened c.args.self.now.multiplier c.from.result c.requires.multiplier c.from.ensures, widened c.args.own c.from-2.result c.requires.own c.from-2.ensures, widened c.args.self.now.factor c.from-3.result c.requires.factor c.from-3.ensures, widened c.args.taken c.from-4.result c.requires.taken c.from-4.ensures) at c.cross_difference.ensures.value)

pub returns-clause-size : goal.returns-clause-size
returns-clause-size c =
    let size = rw (widened c.args.self.now.multiplier c.from.result c.requires.multiplier c.from.ensures, widened c.args.own c.from-2.result c.requires.own c.from-2.ensures, widened c.args.self.now.factor c.from-3.result c.requires.factor c.from-3.ensures, widened c.args.taken c.from-4.result c.requires.taken c.from-4.ensures) at c.cross_difference.ensures.size in
    let small = two_products_small c.args.self.now.multiplier c.args.own c.args.self.now.factor c.args.taken c.requires.multiplier c.requires.own c.requires.factor c.requires.taken in
    rw (read_result c.cross_difference.result c.cross_difference.type_inv) (omega (arith, size, small))
