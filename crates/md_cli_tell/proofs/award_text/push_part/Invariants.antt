use Rattle.std.proofs.Common.{◌≡◌, ◌++◌}
use Rattle.md_math.specs.Lists.{up_to}
use Rattle.md_cli_tell.specs.AwardTexts.{share_at, share_rows}
use Rattle.md_cli_tell.proofs.award_text.push_part.Given as goal

abbrev pub invariant-loop-bidder : goal.invariant-loop-bidder
invariant-loop-bidder l = l.rows.items ≡ l.fn.rows.items ++ up_to l.bidder (λ i. share_rows l.part i (share_at l.shares i))
