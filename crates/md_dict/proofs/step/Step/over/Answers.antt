use Rattle.std.proofs.Common.{◌≡◌, ◌*ℤ◌, ◌∙◌}
use lib.IntN.{*ℤ_comm}
use Rattle.md_math.proofs.Bits.{read_result}
use Rattle.md_dict_division.proofs.Reading.{read_small, read_wide}
use Rattle.md_dict.proofs.step.Step.over.Goals as goal

pub exact_quotient-requires-clause-exact : goal.exact_quotient-requires-clause-exact
exact_quotient-requires-clause-exact c =
    rw (read_wide c.args.den c.requires.size, read_result c.product.result c.product.type_inv, c.product.ensures.value, read_small c.args.self.now.den c.requires.den_size, read_small c.args.self.now.pivot c.requires.pivot_size) c.requires.divides

pub returns-clause-divisor : goal.returns-clause-divisor
returns-clause-divisor c =
    let exact : c.args.den *ℤ c.exact_quotient.result ≡ c.args.self.now.den *ℤ c.args.self.now.pivot = rw (read_wide c.args.den c.requires.size, read_result c.product.result c.product.type_inv, c.product.ensures.value, read_small c.args.self.now.den c.requires.den_size, read_small c.args.self.now.pivot c.requires.pivot_size) at c.exact_quotient.ensures.value in
    rw (read_result c.exact_quotient.result c.exact_quotient.type_inv) (*ℤ_comm c.exact_quotient.result c.args.den ∙ exact)
