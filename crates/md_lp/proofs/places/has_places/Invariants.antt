use Rattle.md_lp.proofs.PlacesSoFar.{IsPlacedBelow}
use Rattle.md_lp.proofs.places.has_places.Given as goal

abbrev pub invariant-loop-term : goal.invariant-loop-term
invariant-loop-term l = IsPlacedBelow l.columns l.terms l.term-index l.least
