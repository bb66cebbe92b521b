use Rattle.std.proofs.Common.{◌≡◌, ◌<◌, ◌++◌, ◌∷◌, [], ap, length, ◌∙◌, arith, List, ℕ}
use Rattle.md_setting.specs.Meaning.{agent_count}
use Rattle.md_parts.proofs.TableSteps.{agent_count-sizes}
use Rattle.md_parts.proofs.MadeRows.{names-more, names-all}
use Rattle.md_parts.proofs.profiles.with_names.Goals as goal

pub loop-agent-preserved : goal.loop-agent-preserved
loop-agent-preserved c =
    let count : c.agents-agent-end.result ≡ agent_count c.args.setting.now = c.agents-agent-end.ensures.count ∙ ap length c.space.ensures.sizes ∙ agent_count-sizes c.args.setting.now in
    let below : c.loop-agent.agent < agent_count c.args.setting.now = omega arith in
    let one : c.in_ok-named.named ≡ c.loop-agent.named ++ c.name_at.result.now ∷ [] = c.in_ok-named.ensures ∙ ap (λ (n : List ℕ). c.loop-agent.named ++ n ∷ []) c.as_bytes.ensures.value in
    names-more c.args.setting.now c.args.rank c.loop-agent.agent c.args.row c.loop-agent.named c.in_ok-named.named c.name_at.result.now c.requires below c.name_at.ensures c.loop-agent.invariant one

pub returns : goal.returns
returns c =
    let count : c.agents-agent-end.result ≡ agent_count c.args.setting.now = c.agents-agent-end.ensures.count ∙ ap length c.space.ensures.sizes ∙ agent_count-sizes c.args.setting.now in
    names-all c.args.setting.now c.args.rank c.loop-agent.agent c.args.row c.loop-agent.named c.requires (omega arith) c.loop-agent.invariant
