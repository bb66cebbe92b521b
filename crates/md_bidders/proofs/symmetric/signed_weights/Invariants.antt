use Rattle.std.proofs.Common.{◌≡◌, pos, map, take}
use Rattle.md_bidders.proofs.symmetric.signed_weights.Given as goal

abbrev pub invariant-loop-weight : goal.invariant-loop-weight
invariant-loop-weight l = l.signed.items ≡ map pos (take l.weight-index l.weights)
