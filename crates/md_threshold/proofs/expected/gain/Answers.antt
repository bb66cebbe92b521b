use Rattle.std.proofs.Common.{◌*◌, subst, lit<}
use Rattle.md_math.specs.Sizes.{IsWithin}
use Rattle.md_math.proofs.SizeLaws.{AllWithin-number_at, IsWithin-*ℤ}
use Rattle.md_math.proofs.Readings.{read_of, widened, product_is, product_fits, add_product_fits}
use Rattle.md_border.proofs.WorthLaws.{revenue-within}
use Rattle.md_border.proofs.DemandLaws.{odds-within}
use Rattle.md_mech.specs.Accepted.{number_limit}
use Rattle.md_threshold.proofs.expected.gain.Goals as goal

pub product-item-requires : goal.product-item-requires
product-item-requires c =
    product_fits _ _ _ _ 11000000 number_limit (read_of _ _ c.surplus.type_inv c.surplus.ensures.value) (read_of _ _ c.get.type_inv c.get.ensures)
    (subst (IsWithin 11000000) c.surplus.ensures.value c.surplus.ensures.size) (odds-within c.args.auction.now c.args.interim.now c.args.kind c.requires.fits c.requires.kind) (lit< tt)

pub add_product-requires : goal.add_product-requires
add_product-requires c =
    add_product_fits _ _ _ _ _ _ (11000000 * number_limit) 1000 number_limit
    (product_is _ _ _ _ _ c.product-item.type_inv (read_of _ _ c.surplus.type_inv c.surplus.ensures.value) (read_of _ _ c.get.type_inv c.get.ensures) c.product-item.ensures.value)
    (widened _ _ _ c.from.type_inv c.revenue.type_inv c.from.ensures c.revenue.ensures.value)
    (read_of _ _ c.get-2.type_inv c.get-2.ensures)
    (IsWithin-*ℤ 11000000 number_limit _ _ (subst (IsWithin 11000000) c.surplus.ensures.value c.surplus.ensures.size) (odds-within c.args.auction.now c.args.interim.now c.args.kind c.requires.fits c.requires.kind))
    (revenue-within c.args.auction.now c.revenue.ensures.shaped)
    (AllWithin-number_at number_limit c.args.interim.now.pays c.args.kind c.requires.fits.pay_size)
    (lit< tt)
