use Rattle.std.proofs.Common.{◌*◌, ◌^◌, sym, subst, arith, lit<}
use Rattle.md_math.specs.Sizes.{IsWithin}
use Rattle.md_math.proofs.SizeLaws.{IsWithin-wider}
use Rattle.md_math.proofs.Readings.{read, read_of, widened, product_is, product_fits}
use Rattle.md_mech.specs.Accepted.{number_limit}
use Rattle.md_border.proofs.DemandLaws.{odds-within}
use Rattle.md_reduced.proofs.TermForms.{value-within}
use Rattle.md_auction_report.proofs.SizeLaws.{item-within}
use Rattle.md_auction_report.proofs.measures.item.Goals as goal

pub product-requires : goal.product-requires
product-requires c =
    product_fits _ _ _ _ 1000000 number_limit
    (widened _ _ _ c.from-value.type_inv c.value.type_inv c.from-value.ensures c.value.ensures.value)
    (read_of _ _ c.get.type_inv c.get.ensures)
    (value-within c.args.auction.now c.args.kind c.value.ensures.shaped c.requires.kind_in)
    (odds-within c.args.auction.now c.args.interim.now c.args.told c.requires.fits c.requires.told_in)
    (lit< tt)

pub returns-clause-value : goal.returns-clause-value
returns-clause-value c =
    read _ _
    (product_is _ _ _ _ _ c.product.type_inv
    (widened _ _ _ c.from-value.type_inv c.value.type_inv c.from-value.ensures c.value.ensures.value)
    (read_of _ _ c.get.type_inv c.get.ensures) c.product.ensures.value)

pub returns-clause-size : goal.returns-clause-size
returns-clause-size c =
    subst (IsWithin (2 ^ 82)) (sym (returns-clause-value c))
    (IsWithin-wider (1000000 * number_limit) (2 ^ 82) _ (omega arith)
    (item-within c.args.auction.now c.args.interim.now c.args.kind c.args.told c.value.ensures.shaped c.requires.fits c.requires.kind_in c.requires.told_in))
