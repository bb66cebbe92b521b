use Rattle.std.proofs.Common.{◌≡◌, ◌+◌, ◌*◌, length, arith}
use Rattle.std.proofs.lemmas.Int.{ints}
use Rattle.md_math.specs.Lists.{number_at}
use Rattle.md_flow.specs.Network.{room_in, OneEach}
use Rattle.md_flow.proofs.Cells.{in_list}
use Rattle.md_trials_programs.proofs.SmallSums.{small_sum}
use Rattle.md_trials_programs.proofs.room_tests.net_of.Goals as goal

pub with_rooms-requires : goal.with_rooms-requires
unfolding room_in OneEach
with_rooms-requires c =
    let nodes = c.in_ok-caps.ensures.length in
    let demands = c.in_ok-wants.ensures.length in
    let rooms = c.in_ok-rooms.ensures.length in
    let pairs : length c.in_ok-rooms.rooms ≡ length c.in_ok-caps.caps * length c.in_ok-wants.wants = rw (nodes, demands, rooms) c.requires.one_room in
    record {
      one_each = pairs;
      few_nodes = omega (arith, nodes, c.requires.few_nodes);
      few_demands = omega (arith, demands, c.requires.few_demands);
      caps = c.in_ok-caps.ensures.nonneg;
      wants = c.in_ok-wants.ensures.nonneg;
      rooms = λ u d b k. c.in_ok-rooms.ensures.nonneg (u * length c.in_ok-wants.wants + d) (omega (arith, in_list (length c.in_ok-caps.caps) (length c.in_ok-wants.wants) u d b k, pairs));
      cap_size = small_sum (length c.in_ok-caps.caps) (number_at c.in_ok-caps.caps) (omega (arith, nodes, c.requires.few_nodes)) c.in_ok-caps.ensures.small;
      want_size = small_sum (length c.in_ok-wants.wants) (number_at c.in_ok-wants.wants) (omega (arith, demands, c.requires.few_demands)) c.in_ok-wants.ensures.small;
      room_size = λ u d b k. (let most = c.in_ok-rooms.ensures.small (u * length c.in_ok-wants.wants + d) (omega (arith, in_list (length c.in_ok-caps.caps) (length c.in_ok-wants.wants) u d b k, pairs)) in omega (arith, ints, most));
    }
