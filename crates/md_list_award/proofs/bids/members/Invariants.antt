use Rattle.md_list_award.proofs.Members.{AreMembersTo}
use Rattle.md_list_award.proofs.bids.members.Given as goal

abbrev pub invariant-loop-group : goal.invariant-loop-group
invariant-loop-group l = AreMembersTo l.auction l.group l.groups.items
