use Rattle.std.proofs.Common.{◌≡◌, take}
use Rattle.std.specs.List.{join_with_byte}
use Rattle.std.specs.Prelude.{string_bytes}
use Rattle.md_space.specs.Profiles.{profile_at}
use Rattle.md_setting.specs.Meaning.{sizes_of}
use Rattle.md_mech.specs.RowName.{type_names}
use Rattle.md_conditions_text.proofs.names.profile_name.Given as goal

abbrev pub invariant-loop-agent : goal.invariant-loop-agent
invariant-loop-agent l = string_bytes l.name ≡ join_with_byte 43 (take l.agent (type_names l.setting.agents (profile_at (sizes_of l.setting) l.rank)))
