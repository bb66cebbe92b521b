use Rattle.md_list_award.proofs.PlaceLaws.{NoneBefore}
use Rattle.md_list_award.proofs.places.place_of.Given as goal

abbrev pub invariant-loop-place : goal.invariant-loop-place
invariant-loop-place l = NoneBefore l.ranks l.group l.value l.place
