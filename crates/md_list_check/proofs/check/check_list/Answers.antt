use Rattle.std.proofs.Common.{inr}
use Rattle.md_list.specs.Lists.{ranks_of}
use Rattle.md_list_check.proofs.CheckLaws.{undecided-none}
use Rattle.md_list_check.proofs.check.check_list.Goals as goal

pub returns-clause-verdict : goal.returns-clause-verdict
returns-clause-verdict c =
    let ranks = ranks_of c.args.answer.now.ranks.items in
    let valid = rw (c.in_default-2.is, c.deref.ensures.value, c.deref-2.ensures.value) at c.in_ok-fault.ensures.fault in
    rw c.in-Some.is (inr (valid, c.averages_verdict.ensures c.args.auction.now ranks c.requires.form.averages c.requires.averages))

pub returns-clause-undecided : goal.returns-clause-undecided
returns-clause-undecided c = undecided-none c.args.auction.now c.args.answer.now c.args.answer.now.levels c.averages_verdict.result (returns-clause-verdict c)
