use Rattle.std.proofs.Common.{◌≡◌, ◌*ℤ◌}
use Rattle.md_math.specs.Sums.{sum_to}
use Rattle.md_space.specs.Profiles.{profile_at}
use Rattle.md_setting.specs.Meaning.{sizes_of}
use Rattle.md_mech.specs.Mechanism.{pay_of}
use Rattle.md_require.specs.Named.{named}
use Rattle.md_require.specs.Parts.{pay_part}
use Rattle.md_require.proofs.told.pays_told.Given as goal

abbrev pub invariant-loop-agent : goal.invariant-loop-agent
invariant-loop-agent l =
    l.sum ≡ sum_to l.agent (λ i. (l.scaled.scale *ℤ pay_part l.setting (named l.setting l.scaled.amount) l.rank i) *ℤ pay_of l.setting l.mechanism i (profile_at (sizes_of l.setting) l.rank))
