use Rattle.md_iron_pools.specs.Odds.{AreOddsTo}
use Rattle.md_iron_pools.specs.Pooling.{pools_of}
use Rattle.md_iron_pools.proofs.odds.odds.Given as goal

abbrev pub invariant-loop-kind : goal.invariant-loop-kind
invariant-loop-kind l = AreOddsTo l.auction l.units (pools_of l.pools) l.kind l.odds
