use Rattle.std.proofs.Common.{◌≡◌, ◌+◌, ◌*◌, ◌∙◌, ap}
use Rattle.md_math.specs.Lists.{number_at}
use Rattle.md_math.proofs.Bits.{read_result}
use Rattle.md_setting.specs.Meaning.{agent_count}
use Rattle.md_mech.proofs.UtilityLaws.{agents_are, payment-at_rank}
use Rattle.md_report.proofs.measures.payment.Goals as goal

pub returns-clause-value : goal.returns-clause-value
returns-clause-value c =
    let count : c.agents.result ≡ agent_count c.args.setting.now =
    agents_are c.args.setting.now c.agents.result c.space.result.now c.agents.ensures.count c.space.ensures.sizes in
    read_result c.get.result c.get.type_inv ∙ c.get.ensures
    ∙ ap (λ n. number_at c.args.mechanism.now.pays (c.args.rank * n + c.args.agent)) count
    ∙ payment-at_rank c.args.setting.now c.args.mechanism.now c.args.rank c.args.agent c.requires.rank_in
