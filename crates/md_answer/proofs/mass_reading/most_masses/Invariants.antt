use Rattle.std.proofs.Common.{◌≡◌, pos}
use Rattle.std.specs.Prelude.{slice_index}
use Rattle.md_math.specs.Lists.{list_to}
use Rattle.md_expost.specs.Masses.{counts_in}
use Rattle.md_answer.specs.MassReading.{most_mass, weight_at}
use Rattle.md_answer.proofs.mass_reading.most_masses.Given as goal

abbrev pub invariant-loop-kind : goal.invariant-loop-kind
invariant-loop-kind l = l.mosts.items ≡ list_to l.kind (λ v. most_mass l.supply (weight_at l.auction (pos l.den) l.rank) (slice_index (counts_in l.auction l.rank) v))
