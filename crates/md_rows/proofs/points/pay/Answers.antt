use Rattle.std.proofs.Common.{◌≡◌, ◌+◌, ◌*◌, ap, sym, ◌∙◌}
use Rattle.md_math.specs.Lists.{number_at}
use Rattle.md_math.proofs.Bits.{read_result}
use Rattle.md_space.proofs.Ranks.{rank_of-profile_at}
use Rattle.md_setting.specs.Meaning.{agent_count, sizes_of}
use Rattle.md_mech.proofs.UtilityLaws.{agents_are}
use Rattle.md_rows.proofs.points.pay.Goals as goal

pub returns-clause-value : goal.returns-clause-value
returns-clause-value c =
    let s = c.args.setting.now in
    let m = c.args.mechanism.now in
    let count : c.agents.result ≡ agent_count s = agents_are s c.agents.result _ c.agents.ensures.count c.space.ensures.sizes in
    read_result c.get.result c.get.type_inv
    ∙ c.get.ensures
    ∙ ap (λ n. number_at m.pays (c.args.rank * n + c.args.agent)) count
    ∙ ap (λ r. number_at m.pays (r * agent_count s + c.args.agent)) (sym (rank_of-profile_at (sizes_of s) c.args.rank c.requires.rank_in))
