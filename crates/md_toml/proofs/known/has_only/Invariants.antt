use Rattle.std.proofs.Common.{◌≡◌, string_bytes}
use Rattle.std.specs.List.{list_all}
use Rattle.toml.specs.View.{table_view}
use Rattle.md_toml.specs.Known.{has_only, is_among}
use Rattle.md_toml.proofs.known.has_only.Given as goal

-- what is left decides
abbrev pub invariant-loop-name : goal.invariant-loop-name
invariant-loop-name l =
    list_all (λ name. is_among l.keys (string_bytes name)) l.name-iterator ≡ has_only l.keys (table_view l.table)
