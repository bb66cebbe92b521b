use Rattle.std.proofs.Common.{◌≡◌, ◌+◌, ◌*◌, pos, ◌≤ℤ◌}
use Rattle.std.specs.Prelude.{◌-ℤ◌}
use Rattle.md_math.specs.Lists.{number_at}
use Rattle.md_math.specs.Sums.{sum_to}
use Rattle.md_mech.proofs.build.is_whole.Given as goal

abbrev pub invariant-loop-outcome : goal.invariant-loop-outcome
invariant-loop-outcome l =
    (l.left ≡ l.den -ℤ sum_to l.outcome (λ o. number_at l.chances (l.rank * l.outcomes + o))) × (pos 0 ≤ℤ l.left)
