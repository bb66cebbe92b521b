use Rattle.std.proofs.Common.{◌≡◌, ◌++◌, replicate}
use Rattle.md_list_award.proofs.bids.push_members.Given as goal

abbrev pub invariant-loop : goal.invariant-loop
invariant-loop l = l.groups.items ≡ l.initial.groups.items ++ replicate l.counter l.group
