use Rattle.std.proofs.Common.{◌<◌, length, rules}
use Rattle.md_math.proofs.FirstFailures.{HoldsBelow-more}
use Rattle.md_list.specs.Lists.{ranks_of}
use Rattle.md_list_check.specs.Verdicts.{IsLeftOut}
use Rattle.md_list_check.proofs.VerdictLaws.{unlisted-verdict}
use Rattle.md_list_check.proofs.left_out.unlisted_fault.Goals as goal

pub returns-in-Some-clause-fault : goal.returns-in-Some-clause-fault
returns-in-Some-clause-fault c =
    let inside : c.loop-group.group < length c.args.auction.now.groups = search rules in
    unlisted-verdict c.args.auction.now (ranks_of c.args.ranks.now) c.loop-group.group c.in-Some.fault inside c.loop-group.invariant (rw c.in-Some.is at c.in_ok-fault.ensures)

pub loop-group-preserved : goal.loop-group-preserved
loop-group-preserved c =
    HoldsBelow-more (IsLeftOut c.args.auction.now (ranks_of c.args.ranks.now)) c.loop-group.group c.loop-group.invariant (rw c.in_default.is at c.in_ok-fault.ensures)
