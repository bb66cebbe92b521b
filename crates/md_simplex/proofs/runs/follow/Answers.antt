use Rattle.md_simplex.proofs.LastBasis.{IsRunIn-walked, last_rights}
use Rattle.md_simplex.proofs.runs.follow.Goals as goal

pub certificate_of-requires-clause-sides : goal.certificate_of-requires-clause-sides
certificate_of-requires-clause-sides c = last_rights c.args.order c.args.lp.now c.args.width c.in_ok-walked.walked c.in_ok-walked.ensures.ok

pub returns-clause-ok : goal.returns-clause-ok
returns-clause-ok c = IsRunIn-walked c.args.order c.args.lp.now c.args.width c.in_ok-walked.walked c.in_ok-certificate.certificate c.in_ok-walked.ensures.ok c.in_ok-certificate.ensures.reading
