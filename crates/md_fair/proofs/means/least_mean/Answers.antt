use Rattle.std.proofs.Common.{◌≡◌, ◌<◌, length, ap, ◌∙◌, to_z, arith}
use Rattle.std.proofs.lemmas.List.{length-map}
use mir.Syntax.{w128}
use Rattle.md_math.proofs.Bits.{read_result}
use Rattle.md_setting.specs.Meaning.{agent_count}
use Rattle.md_fair.specs.Least.{least_of}
use Rattle.md_fair.proofs.LeastLaws.{is-least, least-all, least-step, one-least}
use Rattle.md_fair.proofs.Sizes.{some-agent}
use Rattle.md_fair.proofs.means.least_mean.Goals as goal

pub mean-least-requires-clause-agent_in : goal.mean-least-requires-clause-agent_in
mean-least-requires-clause-agent_in c = some-agent c.args.setting.now c.space.ensures.shaped

pub loop-agent-preserved : goal.loop-agent-preserved
loop-agent-preserved c =
    let s = c.args.setting.now in
    rw (read_result c.lesser-least.result c.lesser-least.type_inv)
    (least-step s c.args.mechanism.now c.loop-agent.agent (to_z w128 c.loop-agent.least-bits) c.mean.result c.lesser-least.result c.loop-agent.invariant c.mean.ensures.value c.mean.ensures.size
    (rw (read_result c.mean.result c.mean.type_inv) at c.lesser-least.ensures))

pub returns-clause-is : goal.returns-clause-is
returns-clause-is c =
    let s = c.args.setting.now in
    let m = c.args.mechanism.now in
    let least = to_z w128 c.loop-agent.least-bits in
    let some : 0 < agent_count s = some-agent s c.space.ensures.shaped in
    let count : c.agents-agents.result ≡ agent_count s = c.agents-agents.ensures.count ∙ ap length c.space.ensures.sizes ∙ length-map s.agents (λ a. length a.types) in
    let end : c.loop-agent.agent ≡ agent_count s = omega (arith, c.loop-agent-test.false, c.loop-agent.auto.agent-end, count, some) in
    one-least s m least (least_of s m) (least-all s m c.loop-agent.agent least end c.loop-agent.invariant.0) (is-least s m some)
