use Rattle.md_list_gains.proofs.Differences.{difference-within}
use Rattle.md_list_gains.proofs.sums.between.Goals as goal

pub returns-clause-size : goal.returns-clause-size
returns-clause-size c =
    let to = c.requires.curve.small c.args.stop c.requires.stop in
    let from = c.requires.curve.small c.args.first c.requires.first in
    record { weight = difference-within _ _ to.weight from.weight; gain = difference-within _ _ to.gain from.gain; benefit = difference-within _ _ to.benefit from.benefit }
