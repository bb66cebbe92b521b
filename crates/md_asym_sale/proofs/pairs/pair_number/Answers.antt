use Rattle.std.proofs.Common.{arith}
use Rattle.md_setting.specs.Meaning.{sizes_of}
use Rattle.md_asym_sale.proofs.PairLaws.{number-below}
use Rattle.md_asym_sale.proofs.SaleLaws.{in-sizes}
use Rattle.md_asym_sale.proofs.pairs.pair_number.Goals as goal

pub returns-clause-below : goal.returns-clause-below
returns-clause-below c =
    let s = c.args.setting.now in
    omega (arith, c.pairs_before.ensures.value, c.from.ensures, number-below (sizes_of s) c.args.agent c.args.kind (in-sizes s c.args.agent c.requires.agent_in) c.requires.kind_in)
