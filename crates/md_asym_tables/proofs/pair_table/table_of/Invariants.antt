use Rattle.std.proofs.Common.{◌≡◌}
use Rattle.md_math.specs.Lists.{up_to}
use Rattle.md_asym_tables.specs.Tables.{masses_in_at}
use Rattle.md_asym_tables.proofs.pair_table.table_of.Given as goal

abbrev pub invariant-loop-rank : goal.invariant-loop-rank
invariant-loop-rank l = l.table ≡ up_to l.rank (masses_in_at l.setting l.amounts)
