use Rattle.md_check.proofs.checking.check_general.Goals as goal

pub returns-in-Optimal-clause-only : goal.returns-in-Optimal-clause-only
returns-in-Optimal-clause-only c = rw c.in-Optimal.is c.check_optimal.ensures.only

pub returns-in-Unbounded-clause-only : goal.returns-in-Unbounded-clause-only
returns-in-Unbounded-clause-only c = rw c.in-Unbounded.is c.check_unbounded.ensures.only
