use Rattle.std.proofs.Common.{◌^◌, sym, subst}
use Rattle.md_math.specs.Sizes.{IsWithin}
use Rattle.md_math.proofs.Readings.{read, read_of}
use Rattle.md_threshold.proofs.ExpectedSizes.{gain-short, item-short}
use Rattle.md_threshold.proofs.expected.amount.Goals as goal

pub returns-in-Gain-clause-size : goal.returns-in-Gain-clause-size
returns-in-Gain-clause-size c =
    subst (IsWithin (2 ^ 89)) (sym (read _ _ (read_of _ _ c.gain.type_inv c.gain.ensures))) (gain-short c.args.auction.now c.args.interim.now c.kinds-shaped.ensures.shaped c.requires.fits c.args.kind c.requires.kind)

pub returns-in-Item-clause-size : goal.returns-in-Item-clause-size
returns-in-Item-clause-size c =
    subst (IsWithin (2 ^ 89)) (sym (read _ _ (read_of _ _ c.item.type_inv c.item.ensures))) (item-short c.args.auction.now c.args.interim.now c.kinds-shaped.ensures.shaped c.requires.fits c.args.kind c.requires.kind)
