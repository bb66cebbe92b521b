use Rattle.md_iron_values.specs.VirtualValues.{weight_to, virtual_to}
use Rattle.md_iron_pools.proofs.Searches.{IsLowestChord}
use Rattle.md_iron_pools.proofs.chords.lowest_stop.Given as goal

abbrev pub invariant-loop-place : goal.invariant-loop-place
invariant-loop-place l = IsLowestChord l.place (weight_to l.auction) (virtual_to l.auction) l.first l.stop
