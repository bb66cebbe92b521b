use Rattle.std.proofs.Common.{◌≡◌, ◌*ℤ◌}
use Rattle.md_math.specs.Sums.{sum_to}
use Rattle.md_space.specs.Profiles.{profile_at}
use Rattle.md_setting.specs.Meaning.{sizes_of}
use Rattle.md_mech.specs.Mechanism.{chance_of}
use Rattle.md_require.specs.Named.{named}
use Rattle.md_require.specs.Parts.{chance_part}
use Rattle.md_require.proofs.told.chances_told.Given as goal

abbrev pub invariant-loop-outcome : goal.invariant-loop-outcome
invariant-loop-outcome l =
    l.sum ≡ sum_to l.outcome (λ o. (l.scaled.scale *ℤ chance_part l.setting (named l.setting l.scaled.amount) l.rank o) *ℤ chance_of l.setting l.mechanism (profile_at (sizes_of l.setting) l.rank) o)
