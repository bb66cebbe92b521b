use Rattle.md_asym_solve.proofs.SalePrograms.{IsCutting-sale}
use Rattle.md_asym_solve.proofs.sale.places_of.Goals as goal

pub returns-clause-cutting : goal.returns-clause-cutting
returns-clause-cutting c = IsCutting-sale c.args.setting.now c.requires c.pair_count.ensures.shaped
