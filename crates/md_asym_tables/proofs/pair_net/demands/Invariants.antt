use Rattle.std.proofs.Common.{◌≡◌}
use Rattle.md_math.specs.Lists.{list_to, number_at}
use Rattle.md_asym_sale.specs.Sides.{demand_at}
use Rattle.md_asym_tables.proofs.pair_net.demands.Given as goal

abbrev pub invariant-loop-pair : goal.invariant-loop-pair
invariant-loop-pair l = l.demands ≡ list_to l.pair (demand_at l.setting (number_at l.odds))
