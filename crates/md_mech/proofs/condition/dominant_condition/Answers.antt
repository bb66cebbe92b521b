use Rattle.std.proofs.Common.{◌<◌, length, ap, arith}
use Rattle.std.proofs.lemmas.List.{length-map}
use Rattle.md_setting.specs.Meaning.{agent_count}
use Rattle.md_mech.specs.Rows.{dominant_rows}
use Rattle.md_mech.proofs.ConditionLaws.{at_block}
use Rattle.md_mech.proofs.condition.dominant_condition.Goals as goal

pub returns-in-Ok : goal.returns-in-Ok
returns-in-Ok c =
    let s = c.args.setting.now in
    let below : c.loop-agent.agent < agent_count s = omega (arith, c.loop-agent-test.true, c.agents-agent-end.ensures.count, ap length c.space.ensures.sizes, length-map s.agents (λ a. length a.types)) in
    at_block s (agent_count s) c.loop-agent.agent c.args.row c.loop-agent.rest (dominant_rows s) c.in-Ok.condition below c.loop-agent.invariant c.in-Ok.ensures
