use Rattle.std.proofs.Common.{◌≡◌, pos, ◌*ℤ◌}
use Rattle.md_math.specs.Lists.{list_to}
use Rattle.md_expost.specs.Masses.{cap_at}
use Rattle.md_unit_tables.proofs.unit_net.caps.Given as goal

abbrev pub invariant-loop-rank : goal.invariant-loop-rank
invariant-loop-rank l = l.caps ≡ list_to l.rank (λ rank. pos l.units *ℤ cap_at l.auction l.den rank)
