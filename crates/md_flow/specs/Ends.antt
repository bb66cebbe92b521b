-- What an end says of its net.
use Rattle.std.specs.Prelude.{◌≡◌, ℕ, ◌*◌, ℤ, ◌-ℤ◌, List, length}
use Rattle.md_math.specs.Sets.{member}
use Rattle.md_flow.specs.Network.{Network, node_count, demand_count, want_sum}
use Rattle.md_flow.specs.Flows.{IsPartFlow, Meets, amount_in, carried}
use Rattle.md_flow.specs.Over.{over, NoneOver, IsWorst}
use Rattle.md_flow.specs.declared.flow_end.FlowEnd.{FlowEnd}
use Rattle.md_flow.specs.declared.flow_end.FlowEnd.TheVariants.{Full, Cut}

-- a flow that meets the net, so that no set is over
pub record IsFull (net : Network) (amounts : List ℤ) : Type 0 where
  pub meets : Meets net (amount_in net amounts)
  pub one_each : length amounts ≡ node_count net * demand_count net
  pub none_over : NoneOver net

-- the largest set that is over by most, so that some set is over, and a part flow that carries all demands but what the set is over by
pub record IsCut (net : Network) (set : ℕ) (amounts : List ℤ) : Type 0 where
  pub worst : IsWorst net set
  pub one_each : length amounts ≡ node_count net * demand_count net
  pub part : IsPartFlow net (amount_in net amounts)
  pub carries : carried net (amount_in net amounts) ≡ want_sum net -ℤ over net (member set)

abbrev pub IsEndOf : Network → FlowEnd → Type 0
IsEndOf net (Full amounts) = IsFull net amounts
IsEndOf net (Cut set amounts) = IsCut net set amounts
