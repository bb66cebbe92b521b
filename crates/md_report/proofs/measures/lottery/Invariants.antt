use Rattle.std.proofs.Common.{◌≡◌, ◌*ℤ◌}
use Rattle.md_math.specs.Sums.{sum_to}
use Rattle.md_space.specs.Profiles.{profile_at}
use Rattle.md_setting.specs.Meaning.{sizes_of, utility_of}
use Rattle.md_mech.specs.Mechanism.{chance_of}
use Rattle.md_report.proofs.measures.lottery.Given as goal

abbrev pub invariant-loop-outcome : goal.invariant-loop-outcome
invariant-loop-outcome l =
    l.sum ≡ sum_to l.outcome (λ o. chance_of l.setting l.mechanism (profile_at (sizes_of l.setting) l.rank) o *ℤ utility_of l.setting l.agent (profile_at (sizes_of l.setting) l.truth) o)
