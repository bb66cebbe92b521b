use Rattle.std.proofs.Common.{pos}
use Rattle.md_math.proofs.Gcds.{IsGcdOfTwo-from_IsGcd}
use Rattle.md_dict_division.proofs.divider.Divider.short_common.Goals as goal

pub returns-clause-divisor : goal.returns-clause-divisor
returns-clause-divisor c =
    rw (c.requires.low, c.short.ensures.value)
    (IsGcdOfTwo-from_IsGcd (pos c.args.self.now.low) (pos c.args.size) c.binary_gcd.result c.binary_gcd.ensures)
