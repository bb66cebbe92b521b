use Rattle.std.proofs.Common.{◌≡◌, drop}
use Rattle.std.specs.List.{list_all}
use Rattle.md_toml.specs.Known.{has_only}
use Rattle.md_toml.specs.Values.{members_of_all}
use Rattle.md_toml.proofs.known.have_only.Given as goal

-- what is left decides
abbrev pub invariant-loop-table : goal.invariant-loop-table
invariant-loop-table l = list_all (has_only l.keys) (members_of_all (drop l.table-index l.tables)) ≡ list_all (has_only l.keys) (members_of_all l.tables)
