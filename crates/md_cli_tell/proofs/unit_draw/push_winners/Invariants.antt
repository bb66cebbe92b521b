use Rattle.std.proofs.Common.{◌≡◌, ◌++◌}
use Rattle.std.specs.Prelude.{false, slice_index_or}
use Rattle.md_math.specs.Lists.{up_to}
use Rattle.md_cli_tell.specs.AwardTexts.{win_rows}
use Rattle.md_cli_tell.proofs.unit_draw.push_winners.Given as goal

abbrev pub invariant-loop-bidder : goal.invariant-loop-bidder
invariant-loop-bidder l = l.rows.items ≡ l.fn.rows.items ++ up_to l.bidder (λ i. win_rows i (slice_index_or l.wins i false))
