use Rattle.std.proofs.Common.{◌≡◌, drop, map}
use Rattle.md_setting.specs.Grouped.{written_group}
use Rattle.md_toml.specs.Values.{members_of_all, read_each}
use Rattle.md_toml.specs.GroupedText.{group_of}
use Rattle.md_toml.proofs.Each.{after}
use Rattle.md_toml.proofs.grouped.read_groups.Given as goal

abbrev pub invariant-loop-members : goal.invariant-loop-members
invariant-loop-members l =
    after (map written_group l.groups.items) (read_each group_of (members_of_all (drop l.members-index l.tables)))
    ≡ read_each group_of (members_of_all l.tables)
