use Rattle.std.proofs.Common.{◌≡◌}
use Rattle.md_math.specs.Lists.{up_to}
use Rattle.md_auction_report.specs.Tight.{tight_at}
use Rattle.md_auction_report.proofs.tight.tight.Given as goal

abbrev pub invariant-loop-row : goal.invariant-loop-row
invariant-loop-row l = l.rows.items ≡ up_to l.row (tight_at l.auction l.units l.interim l.cuts)
