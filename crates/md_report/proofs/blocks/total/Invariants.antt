use Rattle.std.proofs.Common.{◌≡◌, ◌≤◌, ◌*◌, length}
use Rattle.md_math.specs.Lists.{up_to}
use Rattle.md_report.specs.Blocks.{rows_of}
use Rattle.md_report.proofs.blocks.total.Given as goal

abbrev pub invariant-loop-agent : goal.invariant-loop-agent
invariant-loop-agent l = (l.rows ≡ length (up_to l.agent (rows_of l.setting l.demand))) × (l.rows ≤ l.agent * 16384)
