use Rattle.md_question_check.proofs.VerdictLaws.{judged-on_all}
use Rattle.md_question_check.proofs.checking.judge_by.Goals as goal

pub judge-requires-clause-fits : goal.judge-requires-clause-fits
judge-requires-clause-fits g c = c.requires.fits c.in_ok-lp.lp c.in_ok-lp.ensures

pub judge-requires-clause-met : goal.judge-requires-clause-met
judge-requires-clause-met g c = c.requires.met c.in_ok-lp.lp c.in_ok-lp.ensures

pub returns : goal.returns
returns g c = judged-on_all (g.Q.Asks.asked c.args.question.now) c.in_ok-lp.lp c.args.certificate.now c.judge.result c.in_ok-lp.ensures c.judge.ensures
