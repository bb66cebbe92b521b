use Rattle.std.proofs.Common.{refl}
use Rattle.md_dict_division.proofs.Reading.{read_wide}
use Rattle.md_dict_division.proofs.Divisors.{Divides-sizes}
use Rattle.md_dict_division.proofs.divider.quotient.Goals as goal

pub exact_quotient-requires-clause-exact : goal.exact_quotient-requires-clause-exact
exact_quotient-requires-clause-exact c =
    rw (read_wide c.args.divisor c.requires.divisor_size, read_wide c.args.x c.requires.size)
    (Divides-sizes c.args.divisor c.args.x
    (rw (c.unsigned_abs.ensures.value, c.unsigned_abs-2.ensures.value, read_wide c.args.x c.requires.size, read_wide c.args.divisor c.requires.divisor_size) at c.if-is_multiple.ensures.0 refl))

pub returns-else-is_multiple : goal.returns-else-is_multiple
returns-else-is_multiple c = λ h.
    let clash = (rw (c.unsigned_abs.ensures.value, c.unsigned_abs-2.ensures.value, read_wide c.args.x c.requires.size, read_wide c.args.divisor c.requires.divisor_size) at c.if-is_multiple.ensures.1) (record { divides = h.divides }) in
    cc
