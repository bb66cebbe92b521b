use Rattle.std.proofs.Common.{◌≡◌, pos}
use Rattle.std.specs.Prelude.{slice_index}
use Rattle.md_math.specs.Lists.{list_to}
use Rattle.md_expost.specs.Masses.{counts_in}
use Rattle.md_answer.proofs.mass_records.counts_at.Given as goal

abbrev pub invariant-loop-kind : goal.invariant-loop-kind
invariant-loop-kind l = l.numbers ≡ list_to l.kind (λ v. pos (slice_index (counts_in l.auction l.rank) v))
