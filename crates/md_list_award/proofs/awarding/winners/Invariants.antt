use Rattle.md_list.specs.Lists.{ranks_of}
use Rattle.md_list_award.proofs.Winners.{AreFirst}
use Rattle.md_list_award.proofs.awarding.winners.Given as goal

abbrev pub invariant-loop-place : goal.invariant-loop-place
invariant-loop-place l = AreFirst l.auction (ranks_of l.ranks) l.profile l.place l.won.items
