use Rattle.std.proofs.Common.{◌∙◌}
use Rattle.md_math.proofs.Bits.{read_result}
use Rattle.md_list_gains.proofs.Crosswise.{read-small, cross-fits, cross-is}
use Rattle.md_list_gains.proofs.sums.more_gain.Goals as goal

pub cross_difference-requires : goal.cross_difference-requires
cross_difference-requires c =
    cross-fits _ _ _ _ _ _ _ _
    (read-small _ _ c.from.type_inv c.requires.size.gain c.from.ensures)
    (read-small _ _ c.from-2.type_inv c.requires.other_size.weight c.from-2.ensures)
    (read-small _ _ c.from-3.type_inv c.requires.other_size.gain c.from-3.ensures)
    (read-small _ _ c.from-4.type_inv c.requires.size.weight c.from-4.ensures)
    c.requires.size.gain c.requires.other_size.weight c.requires.other_size.gain c.requires.size.weight

pub returns : goal.returns
returns c =
    read_result c.cross_difference.result c.cross_difference.type_inv
    ∙ c.cross_difference.ensures.value
    ∙ cross-is _ _ _ _ _ _ _ _
    (read-small _ _ c.from.type_inv c.requires.size.gain c.from.ensures)
    (read-small _ _ c.from-2.type_inv c.requires.other_size.weight c.from-2.ensures)
    (read-small _ _ c.from-3.type_inv c.requires.other_size.gain c.from-3.ensures)
    (read-small _ _ c.from-4.type_inv c.requires.size.weight c.from-4.ensures)
