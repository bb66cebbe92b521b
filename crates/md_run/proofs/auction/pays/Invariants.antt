use Rattle.std.proofs.Common.{◌≡◌}
use Rattle.std.specs.Prelude.{slice_index}
use Rattle.md_math.specs.Lists.{list_to, number_at}
use Rattle.md_run.proofs.auction.pays.Given as goal

abbrev pub invariant-loop-report : goal.invariant-loop-report
invariant-loop-report l = l.pays ≡ list_to l.report-index (λ i. number_at l.interim.pays (slice_index l.profile i))
