use Rattle.std.proofs.Common.{◌≡◌, ◌++◌, take}
use Rattle.md_space.specs.Profiles.{profile_at}
use Rattle.md_setting.specs.Meaning.{sizes_of}
use Rattle.md_mech.specs.RowName.{type_names}
use Rattle.md_parts.proofs.profiles.with_names.Given as goal

abbrev pub invariant-loop-agent : goal.invariant-loop-agent
invariant-loop-agent l = l.named ≡ l.fn.row ++ take l.agent (type_names (l.setting).agents (profile_at (sizes_of l.setting) l.rank))
