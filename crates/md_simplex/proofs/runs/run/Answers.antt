use Rattle.md_simplex.proofs.OneRun.{decided_end}
use Rattle.md_simplex.proofs.RunLaws.{decided_first_wide, decided_taken, decided_wide, has_path, no_basis_twice, only_path}
use Rattle.md_simplex.proofs.runs.run.Goals as goal

pub returns-clause-wide : goal.returns-clause-wide
returns-clause-wide c = decided_wide c.args.lp.now c.args.width c.follow_taken.result c.follow_taken.ensures.ok

pub returns-clause-first_wide : goal.returns-clause-first_wide
returns-clause-first_wide c = decided_first_wide c.args.lp.now c.args.width c.follow_taken.result c.follow_taken.ensures.left

pub returns-clause-taken : goal.returns-clause-taken
returns-clause-taken c = decided_taken c.args.lp.now c.args.width c.follow_taken.result c.follow_taken.ensures.ok c.follow_taken.ensures.left

pub returns-clause-only_end : goal.returns-clause-only_end
returns-clause-only_end c = decided_end c.args.lp.now c.args.width c.follow_taken.result c.follow_taken.ensures.ok

pub returns-clause-ends : goal.returns-clause-ends
returns-clause-ends c = has_path c.args.lp.now

pub returns-clause-only_path : goal.returns-clause-only_path
returns-clause-only_path c = only_path c.args.lp.now

pub returns-clause-no_basis_twice : goal.returns-clause-no_basis_twice
returns-clause-no_basis_twice c = no_basis_twice c.args.lp.now
