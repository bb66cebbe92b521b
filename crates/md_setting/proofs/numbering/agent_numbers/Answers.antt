use Rattle.std.proofs.Common.{ap, ◌∙◌, string_bytes, map, arith}
use Rattle.md_setting.specs.declared.raw.RawAgent.{RawAgent}
use Rattle.md_setting.proofs.NumberLaws.{numbered_more, numbered_all}
use Rattle.md_setting.proofs.numbering.agent_numbers.Goals as goal

pub loop-agent-preserved : goal.loop-agent-preserved
loop-agent-preserved c =
    ap (map string_bytes) c.in_ok-insert.ensures.keys
    ∙ numbered_more (λ (agent : RawAgent). string_bytes agent.name) c.args.agents.now c.loop-agent.agent-index c.agent-item.result c.loop-agent.set.keys c.in_ok-from_str.field-0 c.loop-agent-test.true c.requires c.loop-agent.invariant
    (c.in_ok-from_str.ensures.ok ∙ c.as_str.ensures.value ∙ ap (λ (agent : RawAgent). string_bytes agent.name) c.agent-item.is)

pub returns : goal.returns
returns c = numbered_all (λ (agent : RawAgent). string_bytes agent.name) c.args.agents.now c.loop-agent.agent-index c.loop-agent.set.keys (omega arith) c.loop-agent.invariant
