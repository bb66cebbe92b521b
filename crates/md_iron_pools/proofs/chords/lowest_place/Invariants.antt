use Rattle.md_iron_values.specs.VirtualValues.{virtual_to}
use Rattle.md_iron_pools.proofs.Searches.{IsLowestBefore}
use Rattle.md_iron_pools.proofs.chords.lowest_place.Given as goal

abbrev pub invariant-loop-place : goal.invariant-loop-place
invariant-loop-place l = IsLowestBefore l.place (virtual_to l.auction) l.lowest
