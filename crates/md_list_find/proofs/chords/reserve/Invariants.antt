use Rattle.md_list.specs.ByRule.{IsReserve}
use Rattle.md_list_gains.specs.Places.{gain_to, benefit_to}
use Rattle.md_list_find.proofs.chords.reserve.Given as goal

abbrev pub invariant-loop-place : goal.invariant-loop-place
invariant-loop-place l = IsReserve l.place (gain_to l.places) (benefit_to l.places) l.lowest
