use Rattle.std.proofs.Common.{sym, ◌∙◌}
use Rattle.md_flow.proofs.Members.{member-here, member-other, member-above, size-or}
use Rattle.md_asym_tables.proofs.pair_net.with.Goals as goal

pub returns-then-test-clause-here : goal.returns-then-test-clause-here
returns-then-test-clause-here c = member-here c.args.set c.args.pair c.requires.pair ∙ sym c.if-test.true

pub returns-then-test-clause-others : goal.returns-then-test-clause-others
returns-then-test-clause-others c = λ k l. member-other c.args.set c.args.pair k c.requires.pair l

pub returns-then-test-clause-size : goal.returns-then-test-clause-size
returns-then-test-clause-size c = size-or c.args.set c.args.pair c.requires.pair c.requires.set

pub returns-else-test-clause-here : goal.returns-else-test-clause-here
returns-else-test-clause-here c = member-above c.args.set c.args.pair c.requires.set ∙ sym c.if-test.false
