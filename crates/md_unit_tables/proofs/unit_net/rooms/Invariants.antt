use Rattle.std.proofs.Common.{◌≡◌}
use Rattle.md_math.specs.Lists.{list_to, up_to}
use Rattle.md_setting.specs.Auction.{value_count}
use Rattle.md_unit_tables.specs.Tables.{room_at}
use Rattle.md_unit_tables.proofs.unit_net.rooms.Given as goal

abbrev pub invariant-loop-rank : goal.invariant-loop-rank
invariant-loop-rank l = l.rooms ≡ up_to l.rank (λ rank. list_to (value_count l.auction) (room_at l.auction l.den rank))
