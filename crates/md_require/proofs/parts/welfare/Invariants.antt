use Rattle.std.proofs.Common.{◌≡◌}
use Rattle.md_math.specs.Sums.{sum_to}
use Rattle.md_space.specs.Profiles.{profile_at}
use Rattle.md_setting.specs.Meaning.{sizes_of, utility_of}
use Rattle.md_require.proofs.parts.welfare.Given as goal

abbrev pub invariant-loop-agent : goal.invariant-loop-agent
invariant-loop-agent l = l.sum ≡ sum_to l.agent (λ i. utility_of l.setting i (profile_at (sizes_of l.setting) l.rank) l.outcome)
