use Rattle.md_parts.proofs.MadeRows.{listed-more}
use Rattle.md_asym.specs.SaleRows.{agent_row}
use Rattle.md_asym.proofs.pair_numbers.push_agents.Goals as goal

pub loop-agent-preserved : goal.loop-agent-preserved
loop-agent-preserved c =
    listed-more (agent_row c.args.word.now c.args.setting.now c.args.numbers.now) c.args.rows.now.items c.loop-agent.rows.items c.push_agent.new.rows.items c.loop-agent.agent c.loop-agent.invariant c.in_ok-push_agent.ensures
