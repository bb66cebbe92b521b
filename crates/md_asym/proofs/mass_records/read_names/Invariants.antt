use Rattle.std.proofs.Common.{◌≤◌, ◌+◌, length, pos, replicate, take}
use Rattle.md_space.specs.Profiles.{profile_at}
use Rattle.md_setting.specs.Meaning.{agent_count, sizes_of}
use Rattle.md_parts.specs.FieldsRead.{Reads}
use Rattle.md_parts.specs.Table.{profile_fields}
use Rattle.md_asym.proofs.mass_records.read_names.Given as goal

abbrev pub invariant-loop-agent : goal.invariant-loop-agent
invariant-loop-agent l =
    (agent_count l.setting ≤ l.agent + length l.fields.texts)
    × Reads (take l.agent (profile_fields l.setting (profile_at (sizes_of l.setting) l.rank))) l.fn.fields l.fields (replicate l.agent (pos 0))
