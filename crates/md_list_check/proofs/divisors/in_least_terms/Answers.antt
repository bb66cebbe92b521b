use Rattle.std.proofs.Common.{◌^◌, lit<}
use Rattle.md_math.proofs.Bits.{read_result, read_within}
use Rattle.md_list_check.proofs.divisors.in_least_terms.Goals as goal

pub exact_quotient-requires-clause-exact : goal.exact_quotient-requires-clause-exact
exact_quotient-requires-clause-exact c =
    rw (read_result c.from.result c.from.type_inv, c.from.ensures, c.group_divisor.ensures.value, read_within (2 ^ 121) c.args.sum c.requires.size (lit< tt)) c.requires.exact
