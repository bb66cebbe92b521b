use Rattle.std.proofs.Common.{◌≡◌, ◌+◌, ◌*◌, ◌≤◌, length}
use Rattle.md_dict.specs.FirstTable.{slacks_before}
use Rattle.md_dict.specs.Start.{IsBuilt}
use Rattle.md_dict.proofs.first.first_numbers.Given as goal

abbrev pub invariant-loop-row : goal.invariant-loop-row
invariant-loop-row l =
    IsBuilt l.lp l.kept.items × (length l.kept.items ≡ l.row * (l.columns + 1))
    × (l.slack ≡ l.lp.columns + slacks_before l.lp l.row) × (l.slack ≤ 65536 + l.row)
