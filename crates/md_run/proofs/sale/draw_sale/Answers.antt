use Rattle.md_run.proofs.SaleLaws.{sale-lotteries}
use Rattle.md_run.proofs.sale.draw_sale.Goals as goal

pub returns-clause-lottery : goal.returns-clause-lottery
returns-clause-lottery c = sale-lotteries c.args.setting.now c.args.interim.now.den c.args.masses.now c.requires.sale c.requires.masses
