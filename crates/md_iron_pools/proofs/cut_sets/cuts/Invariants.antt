use Rattle.std.proofs.Common.{◌≡◌, [], ◌∷◌, if◌then◌else◌}
use Rattle.md_math.specs.Lists.{up_to}
use Rattle.md_setting.specs.Auction.{value_count}
use Rattle.md_iron_values.specs.Cuts.{begins, set_from}
use Rattle.md_iron_pools.specs.Pooling.{pools_of}
use Rattle.md_iron_pools.proofs.cut_sets.cuts.Given as goal

abbrev pub invariant-loop-kind : goal.invariant-loop-kind
invariant-loop-kind l = l.cuts ≡ up_to l.kind (λ s. if begins (pools_of l.pools) s then set_from (value_count l.auction) s ∷ [] else [])
