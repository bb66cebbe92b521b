use Rattle.std.proofs.Common.{◌≡◌, ◌*ℤ◌}
use Rattle.md_math.specs.Sums.{sum_to}
use Rattle.md_space.specs.Profiles.{profile_at}
use Rattle.md_setting.specs.Meaning.{sizes_of, weight_of}
use Rattle.md_mech.specs.Optimal.{objective_at}
use Rattle.md_mech.proofs.gains.weighted_objective.Given as goal

abbrev pub invariant-loop-rank : goal.invariant-loop-rank
invariant-loop-rank l =
    l.sum ≡ sum_to l.rank (λ r. weight_of l.setting (profile_at (sizes_of l.setting) r) *ℤ objective_at l.setting l.mechanism (profile_at (sizes_of l.setting) r))
