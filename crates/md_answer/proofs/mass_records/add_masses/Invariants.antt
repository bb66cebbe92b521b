use Rattle.std.proofs.Common.{◌≡◌, ◌++◌}
use Rattle.md_math.specs.Lists.{list_to}
use Rattle.md_expost.specs.Masses.{mass_at}
use Rattle.md_answer.proofs.mass_records.add_masses.Given as goal

abbrev pub invariant-loop-kind : goal.invariant-loop-kind
invariant-loop-kind l = l.numbers ≡ l.fn.numbers ++ list_to l.kind (mass_at l.auction l.masses l.rank)
