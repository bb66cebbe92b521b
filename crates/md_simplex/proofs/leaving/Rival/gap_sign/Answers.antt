use Rattle.md_simplex.proofs.GapSizes.{cross_read}
use Rattle.md_simplex.proofs.leaving.Rival.gap_sign.Goals as goal

pub cross_difference-requires : goal.cross_difference-requires
cross_difference-requires c =
    cross_read c.args.dict.now.bits c.args.other.now.entry c.entry.result c.args.self.now.entry c.entry-2.result c.rows.ensures.shape.most_bits c.requires.other.entry_size c.entry.ensures.size c.requires.rival.entry_size c.entry-2.ensures.size
