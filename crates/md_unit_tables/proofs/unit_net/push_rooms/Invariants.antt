use Rattle.std.proofs.Common.{◌≡◌, ◌++◌}
use Rattle.md_math.specs.Lists.{list_to}
use Rattle.md_unit_tables.specs.Tables.{room_at}
use Rattle.md_unit_tables.proofs.unit_net.push_rooms.Given as goal

abbrev pub invariant-loop-kind : goal.invariant-loop-kind
invariant-loop-kind l = l.rooms ≡ l.fn.rooms ++ list_to l.kind (room_at l.auction l.den l.rank)
