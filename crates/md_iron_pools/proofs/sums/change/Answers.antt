use Rattle.std.proofs.Common.{◌^◌, sym, subst, lit<}
use Rattle.md_math.specs.Sizes.{IsWithin}
use Rattle.md_math.proofs.Readings.{read_of, difference_is}
use Rattle.md_iron_pools.proofs.Bounds.{change-within}
use Rattle.md_iron_pools.proofs.sums.change.Goals as goal

pub returns-clause-size : goal.returns-clause-size
returns-clause-size c =
    let size = change-within c.args.auction.now c.args.kind c.kinds-shaped.ensures.shaped c.requires in
    subst (IsWithin (10 ^ 12))
    (sym (difference_is _ _ _ _ (10 ^ 12) (read_of _ _ c.asked.type_inv c.asked.ensures.value) (read_of _ _ c.asked-2.type_inv c.asked-2.ensures.value) size (lit< tt)))
    size
