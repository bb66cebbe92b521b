use Rattle.std.proofs.Common.{◌≡◌, ◌++◌}
use Rattle.md_math.specs.Lists.{list_to}
use Rattle.md_answer.specs.MassRecords.{mass_row}
use Rattle.md_answer.proofs.mass_records.push_masses.Given as goal

abbrev pub invariant-loop-rank : goal.invariant-loop-rank
invariant-loop-rank l = l.rows.items ≡ l.fn.rows.items ++ list_to l.rank (mass_row l.auction l.masses)
