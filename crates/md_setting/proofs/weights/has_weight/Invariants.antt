use Rattle.std.proofs.Common.{◌≡◌, ◌==◌, if◌then◌else◌, slice_index}
use Rattle.std.specs.Prelude.{pos}
use Rattle.md_math.specs.Sums.{sum_to}
use Rattle.md_space.specs.Profiles.{profile_at}
use Rattle.md_setting.specs.Setting.{written}
use Rattle.md_setting.specs.Meaning.{sizes_of, weight_of}
use Rattle.md_setting.proofs.weights.has_weight.Given as goal

abbrev pub invariant-loop-rank : goal.invariant-loop-rank
invariant-loop-rank l =
    sum_to l.rank (λ r. if slice_index (profile_at (sizes_of (written l.raw)) r) l.agent == l.kind
    then weight_of (written l.raw) (profile_at (sizes_of (written l.raw)) r) else pos 0)
    ≡ pos 0
