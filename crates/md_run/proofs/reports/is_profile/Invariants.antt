use Rattle.std.proofs.Common.{◌<◌}
use Rattle.std.specs.Prelude.{slice_index}
use Rattle.md_math.specs.FirstFailure.{HoldsBelow}
use Rattle.md_run.proofs.reports.is_profile.Given as goal

abbrev pub invariant-loop-agent : goal.invariant-loop-agent
invariant-loop-agent l = HoldsBelow l.agent (λ i. slice_index l.reports i < slice_index l.space i)
