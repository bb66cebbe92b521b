use Rattle.md_run.proofs.MassLaws.{lotteries}
use Rattle.md_run.proofs.drawing.draw.Goals as goal

pub returns-in-General-clause-lottery : goal.returns-in-General-clause-lottery
returns-in-General-clause-lottery c = rw c.in-General.is (lotteries c.in-General.setting c.args.answer.now (rw c.in-General.is at c.requires.general))
