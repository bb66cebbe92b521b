use Rattle.std.proofs.lemmas.Int.{to_z-of_z}
use mir.Syntax.{w64}
use Rattle.md_math.proofs.Bits.{read_result}
use Rattle.md_setting.proofs.Divisors.{divisor_cast}
use Rattle.md_list_check.proofs.divisors.common_divisor.Goals as goal

pub overflow_cast-result : goal.overflow_cast-result
overflow_cast-result c =
    let divisor = rw (
      read_result c.from.result c.from.type_inv,
      read_result c.from-2.result c.from-2.type_inv,
      c.from.ensures,
      c.from-2.ensures,
      to_z-of_z w64 c.args.weight c.ranges.weight,
    ) at c.gcd.ensures.divisor in
    let cast = divisor_cast c.args.divisor c.args.weight c.gcd.result c.ranges.divisor.fits c.ranges.weight.sfits divisor in
    rw (read_result c.gcd.result c.gcd.type_inv) (cast.0, record { fits = cast.1 })
