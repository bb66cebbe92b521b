use Rattle.std.proofs.Common.{◌≡◌, pos, map, replicate}
use Rattle.md_bidders.proofs.symmetric.equal_slots.Given as goal

abbrev pub invariant-loop : goal.invariant-loop
invariant-loop l = l.slots.items ≡ map pos (replicate l.counter 1)
