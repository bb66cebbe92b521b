use Rattle.std.proofs.Common.{◌≡◌, ◌≤◌, length}
use Rattle.md_math.specs.Lists.{up_to}
use Rattle.md_require.specs.Named.{amounts_at}
use Rattle.md_conditions_text.proofs.narrow.row_count.Given as goal

abbrev pub invariant-loop-rank : goal.invariant-loop-rank
invariant-loop-rank l =
    record {
      count : l.count ≡ length (up_to l.rank (amounts_at l.setting l.measured));
      few : l.count ≤ l.rank;
    }
