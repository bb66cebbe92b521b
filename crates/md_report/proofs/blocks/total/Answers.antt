use Rattle.std.proofs.Common.{◌≡◌, length, ap, arith}
use Rattle.md_math.specs.Lists.{up_to}
use Rattle.md_setting.specs.Meaning.{agent_count}
use Rattle.md_mech.proofs.UtilityLaws.{agents_are}
use Rattle.md_report.specs.Blocks.{rows_of}
use Rattle.md_report.proofs.BlockLaws.{few-rows}
use Rattle.md_report.proofs.blocks.total.Goals as goal

pub returns-clause-few : goal.returns-clause-few
returns-clause-few c =
    let s = c.args.setting.now in
    let end : c.loop-agent.agent ≡ agent_count s = agents_are s c.loop-agent.agent c.space.result.now (omega (arith, c.agents-agent-end.ensures.count)) c.space.ensures.sizes in
    omega (arith, c.loop-agent.invariant.0, ap (λ n. length (up_to n (rows_of s c.args.demand))) end, few-rows s c.args.demand c.space.ensures.shaped)
