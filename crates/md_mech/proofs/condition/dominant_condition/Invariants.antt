use Rattle.std.proofs.Common.{◌≡◌, ◌+◌, length}
use Rattle.md_math.specs.Lists.{up_to}
use Rattle.md_mech.specs.Rows.{dominant_rows}
use Rattle.md_mech.proofs.condition.dominant_condition.Given as goal

abbrev pub invariant-loop-agent : goal.invariant-loop-agent
invariant-loop-agent l = l.row ≡ length (up_to l.agent (dominant_rows l.setting)) + l.rest
