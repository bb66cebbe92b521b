use Rattle.std.proofs.Common.{sym, subst}
use Rattle.md_report.specs.Numbers.{AreNumbers}
use Rattle.md_sale_report.proofs.NumberLaws.{own-fit}
use Rattle.md_sale_report.proofs.reporting.figures.Goals as goal

pub with_value-requires : goal.with_value-requires
with_value-requires c =
    subst (AreNumbers c.args.setting.now) (sym c.in_ok-numbers.ensures.value) (own-fit c.args.setting.now c.args.interim.now c.requires.fits.fits c.requires.fits.pay_size)
