use Rattle.std.proofs.Common.{◌*◌, ◌≤◌, arith, lit<, unsigned_abs, mul-le-mul}
use Rattle.md_math.proofs.Bits.{read_result, read_within}
use Rattle.md_mech.specs.Accepted.{number_limit}
use Rattle.md_report.proofs.measures.outside.Goals as goal

pub returns-clause-size : goal.returns-clause-size
returns-clause-size c =
    let den = c.args.mechanism.now.den in
    let size = rw (read_within number_limit den c.requires.numbers.den_size (lit< tt), read_result c.outside.result c.outside.type_inv) at c.product.ensures.size in
    let part : unsigned_abs den * unsigned_abs c.outside.result ≤ number_limit * 1000000 = mul-le-mul c.requires.numbers.den_size.within c.outside.ensures.size.within in
    rw (read_result c.product.result c.product.type_inv) (record { within = omega (arith, size, part) })
