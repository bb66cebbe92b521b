use Rattle.std.proofs.Common.{◌≡◌}
use Rattle.md_math.specs.Sums.{sum_to}
use Rattle.md_expost.specs.Masses.{mass_at}
use Rattle.md_unit_tables.proofs.sums.mass_sum.Given as goal

abbrev pub invariant-loop-rank : goal.invariant-loop-rank
invariant-loop-rank l = l.sum ≡ sum_to l.rank (λ rank. mass_at l.auction l.masses rank l.kind)
