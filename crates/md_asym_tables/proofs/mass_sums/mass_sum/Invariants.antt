use Rattle.std.proofs.Common.{◌≡◌}
use Rattle.md_math.specs.Sums.{sum_to}
use Rattle.md_asym_tables.specs.Tables.{mass_where}
use Rattle.md_asym_tables.proofs.mass_sums.mass_sum.Given as goal

abbrev pub invariant-loop-rank : goal.invariant-loop-rank
invariant-loop-rank l = l.sum ≡ sum_to l.rank (mass_where l.setting l.masses l.number)
