use Rattle.std.proofs.Common.{◌≡◌}
use Rattle.std.specs.Prelude.{◌+ℤ◌, ◌*ℤ◌}
use Rattle.md_math.specs.Lists.{number_at}
use Rattle.md_math.specs.Sums.{sum_to}
use Rattle.md_space.specs.Profiles.{profile_at}
use Rattle.md_setting.specs.Setting.{written}
use Rattle.md_setting.specs.Meaning.{sizes_of, utility_of}
use Rattle.md_setting.proofs.values.value_in.Given as goal

abbrev pub invariant-loop-agent : goal.invariant-loop-agent
invariant-loop-agent l =
    l.value ≡ number_at (written l.raw).values l.outcome
    +ℤ sum_to l.agent (λ i. (written l.raw).welfare *ℤ utility_of (written l.raw) i (profile_at (sizes_of (written l.raw)) l.rank) l.outcome)
