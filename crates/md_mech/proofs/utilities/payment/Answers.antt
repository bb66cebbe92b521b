use Rattle.std.proofs.Common.{◌≡◌, ◌+◌, ◌*◌, ◌∙◌, length, ap}
use Rattle.std.proofs.lemmas.List.{length-map}
use Rattle.md_math.specs.Lists.{number_at}
use Rattle.md_math.proofs.Bits.{read_result}
use Rattle.md_setting.specs.Meaning.{agent_count}
use Rattle.md_mech.proofs.UtilityLaws.{payment-at_rank}
use Rattle.md_mech.proofs.utilities.payment.Goals as goal

pub returns-clause-value : goal.returns-clause-value
returns-clause-value c =
    let count : c.agents.result ≡ agent_count c.args.setting.now =
    c.agents.ensures.count ∙ ap length c.space.ensures.sizes ∙ length-map c.args.setting.now.agents _ in
    read_result c.get.result c.get.type_inv ∙ c.get.ensures
    ∙ ap (λ n. number_at c.args.mechanism.now.pays (c.args.rank * n + c.args.agent)) count
    ∙ payment-at_rank c.args.setting.now c.args.mechanism.now c.args.rank c.args.agent c.requires.rank_in
