use Rattle.std.proofs.Common.{◌*◌, ◌^◌, sym, subst, lit<}
use Rattle.md_math.specs.Sizes.{IsWithin}
use Rattle.md_math.proofs.SizeLaws.{IsWithin-*ℤ, AllWithin-number_at}
use Rattle.md_mech.specs.Accepted.{number_limit}
use Rattle.md_border.proofs.DemandLaws.{odds-within}
use Rattle.md_math.proofs.Readings.{read, read_of, widened, product_is, add_product_is, add_product_fits}
use Rattle.md_border.proofs.WorthLaws.{surplus-within, revenue-within, gain-within}
use Rattle.md_border.proofs.worth.gain.Goals as goal

pub add_product-requires : goal.add_product-requires
add_product-requires c =
    let a = c.args.auction.now in
    let interim = c.args.interim.now in
    add_product_fits _ _ _ _ _ _ (11000000 * number_limit) 1000 number_limit
    (product_is _ _ _ _ _ c.product-item.type_inv (read_of _ _ c.surplus.type_inv c.surplus.ensures.value) (read_of _ _ c.get.type_inv c.get.ensures) c.product-item.ensures.value)
    (widened _ _ _ c.from.type_inv c.revenue.type_inv c.from.ensures c.revenue.ensures.value)
    (read_of _ _ c.get-2.type_inv c.get-2.ensures)
    (IsWithin-*ℤ 11000000 number_limit _ _ (surplus-within a c.args.kind c.revenue.ensures.shaped c.requires.kind_in) (odds-within a interim c.args.kind c.requires.fits c.requires.kind_in))
    (revenue-within a c.revenue.ensures.shaped)
    (AllWithin-number_at number_limit interim.pays c.args.kind c.requires.fits.pay_size)
    (lit< tt)

pub returns-clause-value : goal.returns-clause-value
returns-clause-value c =
    read _ _
    (add_product_is _ _ _ _ _ _ _ c.add_product.type_inv
    (product_is _ _ _ _ _ c.product-item.type_inv (read_of _ _ c.surplus.type_inv c.surplus.ensures.value) (read_of _ _ c.get.type_inv c.get.ensures) c.product-item.ensures.value)
    (widened _ _ _ c.from.type_inv c.revenue.type_inv c.from.ensures c.revenue.ensures.value)
    (read_of _ _ c.get-2.type_inv c.get-2.ensures) c.add_product.ensures.value)

pub returns-clause-size : goal.returns-clause-size
returns-clause-size c =
    subst (IsWithin (2 ^ 86)) (sym (returns-clause-value c)) (gain-within c.args.auction.now c.args.interim.now c.args.kind c.revenue.ensures.shaped c.requires.fits c.requires.kind_in)
