use Rattle.std.proofs.Common.{ap₂, ◌∙◌}
use Rattle.md_math.proofs.Bits.{read_result}
use Rattle.md_asym_sale.specs.Values.{surplus_of}
use Rattle.md_asym_sale.proofs.worth.surplus_at.Goals as goal

pub returns-clause-value : goal.returns-clause-value
returns-clause-value c =
    read_result c.surplus.result c.surplus.type_inv
    ∙ c.surplus.ensures.value
    ∙ ap₂ (λ i a. surplus_of c.args.setting.now i a) c.pair_at-pair.ensures.agent c.pair_at-pair.ensures.kind
