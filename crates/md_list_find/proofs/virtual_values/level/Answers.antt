use Rattle.md_math.proofs.Readings.{read}
use Rattle.md_list_gains.proofs.Crosswise.{read-small}
use Rattle.md_list_find.proofs.LevelLaws.{level-is}
use Rattle.md_list_find.proofs.virtual_values.level.Goals as goal

pub returns : goal.returns
returns c =
    level-is c.args.sums c.reduced.result _ _ c.requires.size (read _ _ (read-small _ _ c.from.type_inv c.requires.size.gain c.from.ensures)) (read _ _ (read-small _ _ c.from-2.type_inv c.requires.size.weight c.from-2.ensures))
    c.reduced.ensures.value c.reduced.ensures.least c.reduced.ensures.num_size c.reduced.ensures.den_size
