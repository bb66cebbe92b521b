use Rattle.std.proofs.Common.{ap₂, ◌∙◌}
use Rattle.md_math.proofs.Bits.{read_result}
use Rattle.md_setting.specs.Meaning.{marginal_of}
use Rattle.md_asym_sale.proofs.worth.marginal_at.Goals as goal

pub returns-clause-value : goal.returns-clause-value
returns-clause-value c =
    read_result c.marginal.result c.marginal.type_inv
    ∙ c.marginal.ensures.value
    ∙ ap₂ (λ i a. marginal_of c.args.setting.now i a) c.pair_at-pair.ensures.agent c.pair_at-pair.ensures.kind
