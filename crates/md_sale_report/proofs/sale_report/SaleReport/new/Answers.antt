use Rattle.std.proofs.Common.{lit<}
use Rattle.md_math.proofs.Bits.{read_within}
use Rattle.md_mech.specs.Accepted.{number_limit}
use Rattle.md_sale_report.proofs.NumberLaws.{own-fit}
use Rattle.md_sale_report.proofs.TellingLaws.{tells, judges}
use Rattle.md_sale_report.proofs.sale_report.SaleReport.new.Goals as goal

pub returns-clause-parts : goal.returns-clause-parts
returns-clause-parts c =
    let interim = c.args.interim.now in
    record {
      value = c.in_ok-figures.ensures.value;
      least = c.in_ok-figures.ensures.least;
      figures = c.in_ok-figures.ensures.figures;
      cuts = rw (read_within number_limit interim.den (own-fit c.args.setting.now interim c.requires.fits.fits c.requires.fits.pay_size).den_size (lit< tt)) at c.in_ok-cuts.ensures;
    }

pub returns-clause-mechanisms : goal.returns-clause-mechanisms
returns-clause-mechanisms c =
    tells c.args.setting.now c.args.interim.now c.in_ok-figures.figures c.requires.sale c.in_ok-figures.ensures.shaped c.requires.fits.fits.den_positive
    c.in_ok-figures.ensures.figures c.in_ok-figures.ensures.value c.in_ok-figures.ensures.least

pub returns-clause-judged : goal.returns-clause-judged
returns-clause-judged c =
    judges c.args.setting.now c.args.interim.now c.in_ok-figures.figures c.requires.sale c.in_ok-figures.ensures.shaped c.requires.fits.fits.den_positive
    c.in_ok-figures.ensures.figures
