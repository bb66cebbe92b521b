use Rattle.std.proofs.Common.{◌≡◌, ◌++◌, take}
use Rattle.md_claims.proofs.lists.push_all.Given as goal

abbrev pub invariant-loop-number : goal.invariant-loop-number
invariant-loop-number l = l.list ≡ l.initial.list ++ take l.number-index l.numbers
