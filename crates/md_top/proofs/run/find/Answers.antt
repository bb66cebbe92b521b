use Rattle.md_top.proofs.run.find.Goals as goal

pub returns-else-has_second : goal.returns-else-has_second
returns-else-has_second g c = rw c.if-has_second.false (c.of_one.ensures c.args.second.now)
