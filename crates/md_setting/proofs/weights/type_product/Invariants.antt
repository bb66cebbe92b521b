use Rattle.std.proofs.Common.{◌≡◌, ◌^◌, drop}
use Rattle.std.specs.Prelude.{◌*ℤ◌}
use Rattle.md_math.specs.Sizes.{IsWithin}
use Rattle.md_space.specs.Profiles.{profile_at}
use Rattle.md_setting.specs.Setting.{written}
use Rattle.md_setting.specs.Meaning.{sizes_of, type_weights}
use Rattle.md_setting.proofs.weights.type_product.Given as goal

abbrev pub invariant-loop-agent : goal.invariant-loop-agent
invariant-loop-agent l =
    (l.weight *ℤ type_weights (drop l.agent (written l.raw).agents) (drop l.agent (profile_at (sizes_of (written l.raw)) l.rank))
    ≡ type_weights (written l.raw).agents (profile_at (sizes_of (written l.raw)) l.rank))
    × IsWithin (1000000 ^ l.agent) l.weight
