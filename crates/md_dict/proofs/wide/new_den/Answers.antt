use Rattle.md_math.proofs.Bits.{read_result}
use Rattle.md_dict_division.proofs.Reading.{read_wide, read_small, sizes_small}
use Rattle.md_dict_rows.proofs.Quotients.{quotient_is}
use Rattle.md_dict.proofs.wide.new_den.Goals as goal

pub product-requires : goal.product-requires
product-requires c =
    rw (read_small c.args.step.now.den c.requires.den, read_small c.args.step.now.pivot c.requires.pivot)
    (sizes_small c.args.step.now.den c.args.step.now.pivot c.requires.den c.requires.pivot)

pub exact_quotient-requires-clause-exact : goal.exact_quotient-requires-clause-exact
exact_quotient-requires-clause-exact c =
    rw (read_wide c.args.step.now.divisor c.requires.divisor_size, read_result c.product.result c.product.type_inv, c.product.ensures.value, read_small c.args.step.now.den c.requires.den, read_small c.args.step.now.pivot c.requires.pivot) c.requires.exact

pub returns : goal.returns
returns c =
    rw (read_result c.exact_quotient.result c.exact_quotient.type_inv)
    (quotient_is c.args.step.now.divisor _ c.exact_quotient.result c.requires.positive c.requires.exact
    (rw (read_wide c.args.step.now.divisor c.requires.divisor_size, read_result c.product.result c.product.type_inv, c.product.ensures.value, read_small c.args.step.now.den c.requires.den, read_small c.args.step.now.pivot c.requires.pivot) at c.exact_quotient.ensures.value))
