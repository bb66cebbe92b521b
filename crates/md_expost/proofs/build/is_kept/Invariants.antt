use Rattle.std.proofs.Common.{◌≡◌, ◌+◌, ◌*◌, pos, ◌≤ℤ◌}
use Rattle.std.specs.Prelude.{◌-ℤ◌}
use Rattle.md_math.specs.Lists.{number_at}
use Rattle.md_math.specs.Sums.{sum_to}
use Rattle.md_expost.proofs.build.is_kept.Given as goal

abbrev pub invariant-loop-kind : goal.invariant-loop-kind
invariant-loop-kind l =
    (l.left ≡ l.whole -ℤ sum_to l.kind (λ v. number_at l.rows (l.rank * l.kinds + v))) × (pos 0 ≤ℤ l.left)
