use Rattle.std.proofs.Common.{◌≡◌, ◌+◌, ◌*◌, length}
use Rattle.md_lp.specs.Program.{row_count}
use Rattle.md_dict.specs.Start.{IsBuilt}
use Rattle.md_dict.proofs.first.push_main_row.Given as goal

abbrev pub invariant-loop-place : goal.invariant-loop-place
invariant-loop-place l = IsBuilt l.lp l.kept.items × (length l.kept.items ≡ (row_count l.lp + 1) * (l.columns + 1) + l.place)
