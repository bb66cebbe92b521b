use Rattle.std.proofs.Common.{◌≡◌}
use Rattle.md_math.specs.Sums.{sum_to}
use Rattle.md_space.specs.Profiles.{profile_at}
use Rattle.md_space.specs.ByType.{where_type}
use Rattle.md_setting.specs.Meaning.{sizes_of, weight_of}
use Rattle.md_setting.proofs.setting.Setting.marginal.Given as goal

abbrev pub invariant-loop-rank : goal.invariant-loop-rank
invariant-loop-rank l = l.sum ≡ sum_to l.rank (λ r. where_type l.agent l.kind (weight_of l.self) (profile_at (sizes_of l.self) r))
