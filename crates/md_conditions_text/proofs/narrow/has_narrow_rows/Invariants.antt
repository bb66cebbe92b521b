use Rattle.std.proofs.Common.{◌≡◌, true}
use Rattle.std.specs.List.{list_all}
use Rattle.md_math.specs.Lists.{up_to}
use Rattle.md_require.specs.Named.{amounts_at}
use Rattle.md_conditions_text.specs.Narrow.{has_narrow_row}
use Rattle.md_conditions_text.proofs.narrow.has_narrow_rows.Given as goal

abbrev pub invariant-loop-rank : goal.invariant-loop-rank
invariant-loop-rank l = list_all (has_narrow_row l.setting l.condition) (up_to l.rank (amounts_at l.setting l.condition.measured)) ≡ true
