use Rattle.std.proofs.Common.{◌*◌, ◌^◌, sym, subst, lit<}
use Rattle.md_math.specs.Sizes.{IsWithin}
use Rattle.md_math.proofs.Readings.{read, read_of, product_fits, product_is, add_product_is, add_product_fits}
use Rattle.md_math.proofs.SizeLaws.{IsWithin-*ℤ, AllWithin-number_at}
use Rattle.md_mech.specs.Accepted.{number_limit}
use Rattle.md_asym.proofs.GainLaws.{gain-within, odds-within, surplus-small}
use Rattle.md_asym.proofs.worth.gain.Goals as goal

pub product-item-requires : goal.product-item-requires
product-item-requires c =
    product_fits _ _ _ _ 11000000 number_limit
    (read_of _ _ c.surplus_at.type_inv c.surplus_at.ensures.value)
    (read_of _ _ c.get.type_inv c.get.ensures)
    (subst (IsWithin 11000000) c.surplus_at.ensures.value c.surplus_at.ensures.size)
    (odds-within c.args.setting.now _ c.args.odds.now c.args.pays.now c.args.number c.requires.fits c.requires.number_in)
    (lit< tt)

pub add_product-requires : goal.add_product-requires
add_product-requires c =
    let s = c.args.setting.now in
    add_product_fits _ _ _ _ _ _ (11000000 * number_limit) 1000 number_limit
    (product_is _ _ _ _ _ c.product-item.type_inv (read_of _ _ c.surplus_at.type_inv c.surplus_at.ensures.value) (read_of _ _ c.get.type_inv c.get.ensures) c.product-item.ensures.value)
    (read_of _ _ c.revenue.type_inv c.revenue.ensures.value)
    (read_of _ _ c.get-2.type_inv c.get-2.ensures)
    (IsWithin-*ℤ 11000000 number_limit _ _ (surplus-small s c.args.number c.requires.sale c.revenue.ensures.shaped c.requires.number_in) (odds-within s _ c.args.odds.now c.args.pays.now c.args.number c.requires.fits c.requires.number_in))
    c.revenue.ensures.shaped.small.revenue
    (AllWithin-number_at number_limit c.args.pays.now c.args.number c.requires.fits.pay_size)
    (lit< tt)

pub returns-clause-value : goal.returns-clause-value
returns-clause-value c =
    read _ _
    (add_product_is _ _ _ _ _ _ _ c.add_product.type_inv
    (product_is _ _ _ _ _ c.product-item.type_inv (read_of _ _ c.surplus_at.type_inv c.surplus_at.ensures.value) (read_of _ _ c.get.type_inv c.get.ensures) c.product-item.ensures.value)
    (read_of _ _ c.revenue.type_inv c.revenue.ensures.value)
    (read_of _ _ c.get-2.type_inv c.get-2.ensures) c.add_product.ensures.value)

pub returns-clause-size : goal.returns-clause-size
returns-clause-size c =
    subst (IsWithin (2 ^ 86)) (sym (returns-clause-value c))
    (gain-within c.args.setting.now _ c.args.odds.now c.args.pays.now c.args.number c.requires.sale c.revenue.ensures.shaped c.requires.fits c.requires.number_in)
