use Rattle.std.proofs.Common.{◌≡◌, ◌*◌, ◌≤◌, take}
use Rattle.std.specs.List.{sum_by}
use Rattle.md_setting.proofs.rows.type_count.Given as goal

abbrev pub invariant-loop-agent : goal.invariant-loop-agent
invariant-loop-agent l = (l.types ≡ sum_by (λ n. n) (take l.agent l.space)) × (l.types ≤ l.agent * 16)
