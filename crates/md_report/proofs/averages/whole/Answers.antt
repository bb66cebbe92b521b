use Rattle.std.proofs.Common.{pos, ◌<ℤ◌, sym, subst, lit<}
use Rattle.md_math.proofs.Order.{positive-*ℤ}
use Rattle.md_math.proofs.Bits.{read_result, read_within}
use Rattle.md_mech.specs.Accepted.{number_limit}
use Rattle.md_report.proofs.MissedLaws.{den-positive}
use Rattle.md_report.proofs.averages.whole.Goals as goal

pub returns-clause-positive : goal.returns-clause-positive
returns-clause-positive c =
    let den = c.args.mechanism.now.den in
    rw (read_result c.product.result c.product.type_inv)
    (subst (λ z. pos 0 <ℤ z)
    (sym (rw (read_within number_limit den c.requires.den_size (lit< tt), read_result c.total.result c.total.type_inv) at c.product.ensures.value))
    (positive-*ℤ den c.total.result (den-positive c.args.mechanism.now c.requires.den) c.total.ensures.positive))
