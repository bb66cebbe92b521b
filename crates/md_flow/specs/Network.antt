-- A net: source nodes with caps, demands, and a room for each pair of a node and a demand.
use Rattle.std.specs.Prelude.{ℕ, ◌+◌, ◌*◌, ◌^◌, ◌<◌, ◌≤◌, ◌≡◌, ℤ, pos, ◌≤ℤ◌, ◌<ℤ◌, if◌then◌else◌, List, length, slice_index}
use Rattle.md_math.specs.Lists.{number_at}
use Rattle.md_math.specs.Sets.{member}
use Rattle.md_math.specs.Sums.{sum_to}
use Rattle.md_flow.specs.declared.rooms.Rooms.{Rooms}
use Rattle.md_flow.specs.declared.rooms.Rooms.TheVariants.{Touched, Listed}

-- the cap of each source node, each demand, and how much each node may give to each demand
pub record Network : Type 0 where
  pub caps : List ℤ
  pub wants : List ℤ
  pub rooms : Rooms

abbrev pub node_count : Network → ℕ
node_count net = length net.caps

abbrev pub demand_count : Network → ℕ
demand_count net = length net.wants

abbrev pub cap_of : Network → ℕ → ℤ
cap_of net u = number_at net.caps u

abbrev pub want_of : Network → ℕ → ℤ
want_of net d = number_at net.wants d

-- how much a node may give to a demand: where it touches a set of demands, its cap to each of these, and nothing to another; else the number that is listed, by node and then by demand
unfoldable pub room_in : List ℤ → List ℤ → Rooms → ℕ → ℕ → ℤ
room_in caps wants (Touched touches) u d = if member (slice_index touches u) d then number_at caps u else pos 0
room_in caps wants (Listed rooms) u d = number_at rooms (u * length wants + d)

abbrev pub room_of : Network → ℕ → ℕ → ℤ
room_of net u d = room_in net.caps net.wants net.rooms u d

-- one set for each node, or one room for each pair
unfoldable pub OneEach : List ℤ → List ℤ → Rooms → Type 0
OneEach caps wants (Touched touches) = length touches ≡ length caps
OneEach caps wants (Listed rooms) = length rooms ≡ length caps * length wants

-- the sum of all demands
abbrev pub want_sum : Network → ℤ
want_sum net = sum_to (demand_count net) (want_of net)

-- what each net keeps
pub record IsNet (net : Network) : Type 0 where
  pub one_each : OneEach net.caps net.wants net.rooms
  pub few_nodes : node_count net < 2 ^ 32
  pub few_demands : demand_count net ≤ 12
  pub caps : (u : ℕ) → u < node_count net → pos 0 ≤ℤ cap_of net u
  pub wants : (d : ℕ) → d < demand_count net → pos 0 ≤ℤ want_of net d
  pub rooms : (u d : ℕ) → u < node_count net → d < demand_count net → pos 0 ≤ℤ room_of net u d
  pub cap_size : sum_to (node_count net) (cap_of net) <ℤ pos (2 ^ 126)
  pub want_size : want_sum net <ℤ pos (2 ^ 126)
  pub room_size : (u d : ℕ) → u < node_count net → d < demand_count net → room_of net u d <ℤ pos (2 ^ 126)
