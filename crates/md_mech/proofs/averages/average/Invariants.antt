use Rattle.std.proofs.Common.{◌≡◌}
use Rattle.md_math.specs.Sums.{sum_to}
use Rattle.md_space.specs.Profiles.{profile_at}
use Rattle.md_setting.specs.Meaning.{sizes_of}
use Rattle.md_mech.specs.Utility.{average_term}
use Rattle.md_mech.proofs.averages.average.Given as goal

abbrev pub invariant-loop-rank : goal.invariant-loop-rank
invariant-loop-rank l =
    l.sum ≡ sum_to l.rank (λ r. average_term l.setting l.mechanism l.agent l.kind l.report (profile_at (sizes_of l.setting) r))
