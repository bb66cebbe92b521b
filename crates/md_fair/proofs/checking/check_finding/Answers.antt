use Rattle.md_fair.proofs.checking.check_finding.Goals as goal

pub returns-in-Unbounded-clause-only : goal.returns-in-Unbounded-clause-only
returns-in-Unbounded-clause-only c = rw c.in-Unbounded.is c.check_unbounded.ensures.only
