use Rattle.std.proofs.Common.{◌≡◌, ◌+◌, ◌%◌, ◌==◌}
use Rattle.md_flow.specs.Over.{any_below}
use Rattle.md_threshold.proofs.draws.comes_to.Given as goal

abbrev pub invariant-loop-unit : goal.invariant-loop-unit
invariant-loop-unit l = l.comes ≡ any_below l.unit (λ unit. (l.draw + unit) % l.bidders == l.place)
