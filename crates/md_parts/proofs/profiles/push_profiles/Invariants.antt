use Rattle.std.proofs.Common.{◌≡◌, ◌++◌}
use Rattle.md_math.specs.Lists.{list_to}
use Rattle.md_space.specs.Profiles.{profile_at}
use Rattle.md_setting.specs.Meaning.{sizes_of}
use Rattle.md_parts.specs.Rows.{profile_row}
use Rattle.md_parts.proofs.profiles.push_profiles.Given as goal

abbrev pub invariant-loop-rank : goal.invariant-loop-rank
invariant-loop-rank l = l.to.items ≡ l.fn.to.items ++ list_to l.rank (λ r. profile_row l.word l.setting l.numbers l.count (profile_at (sizes_of l.setting) r))
