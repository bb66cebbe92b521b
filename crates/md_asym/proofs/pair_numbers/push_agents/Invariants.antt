use Rattle.std.proofs.Common.{◌≡◌, ◌++◌}
use Rattle.md_math.specs.Lists.{list_to}
use Rattle.md_asym.specs.SaleRows.{agent_row}
use Rattle.md_asym.proofs.pair_numbers.push_agents.Given as goal

abbrev pub invariant-loop-agent : goal.invariant-loop-agent
invariant-loop-agent l = l.rows.items ≡ l.fn.rows.items ++ list_to l.agent (agent_row l.word l.setting l.numbers)
