use Rattle.md_question_check.proofs.checking.judge.Goals as goal

pub returns : goal.returns
returns c = c.verdict_by.ensures c.args.lp.now c.args.certificate.now c.check_lp.ensures.certified c.check_lp.ensures.fault
