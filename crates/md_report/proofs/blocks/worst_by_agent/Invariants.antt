use Rattle.std.proofs.Common.{◌≡◌, ◌≤◌, ◌<◌, ◌+◌, ◌*◌, ℕ, length, None}
use Rattle.std.specs.Prelude.{slice_index_or}
use Rattle.md_math.specs.Lists.{up_to}
use Rattle.md_report.specs.Blocks.{rows_of, start_of}
use Rattle.md_report.specs.Worst.{IsWorstOf}
use Rattle.md_report.proofs.blocks.worst_by_agent.Given as goal

abbrev pub invariant-loop-agent : goal.invariant-loop-agent
invariant-loop-agent l =
    (l.row ≡ start_of l.setting l.demand + length (up_to l.agent (rows_of l.setting l.demand)))
    × (l.row ≤ 4096 + l.agent * 16384)
    × (length l.worst.items ≡ l.agent)
    × ((i : ℕ) → i < l.agent → IsWorstOf l.setting l.mechanism (rows_of l.setting l.demand i) (slice_index_or l.worst.items i None))
