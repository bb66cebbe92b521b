use Rattle.std.proofs.Common.{◌≡◌, take}
use Rattle.md_cli_tell.specs.Standings.{standing_records}
use Rattle.md_cli_tell.proofs.conditions.standing_records.Given as goal

abbrev pub invariant-loop-index : goal.invariant-loop-index
invariant-loop-index l = l.rows.items ≡ standing_records 0 (take l.index l.standings)
