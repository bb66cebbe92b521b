use Rattle.std.proofs.Common.{◌*◌, ◌^◌, pos, ap, ◌∙◌, sym, subst, lit<}
use Rattle.md_math.specs.Sizes.{IsWithin}
use Rattle.md_mech.specs.Accepted.{number_limit}
use Rattle.md_math.proofs.Readings.{read, read_of, widened, product_is, add_product_is, add_product_fits}
use Rattle.md_border.proofs.WorthLaws.{kept-within, worth-within}
use Rattle.md_border.proofs.worth.worth_over_whole.Goals as goal

pub add_product-requires : goal.add_product-requires
add_product-requires c =
    let a = c.args.auction.now in
    add_product_fits _ _ _ _ _ _ (1000000 * (1000000 * number_limit)) 12 (2 ^ 110)
    (product_is _ _ _ _ _ c.product-kept.type_inv (widened _ _ _ c.from.type_inv c.keep.type_inv c.from.ensures c.keep.ensures.value) (read_of _ _ c.whole.type_inv c.whole.ensures.value) c.product-kept.ensures.value)
    (read_of _ _ c.from-2.type_inv (c.from-2.ensures ∙ ap pos c.bidders.ensures.count))
    (read_of _ _ c.gains.type_inv c.gains.ensures.value)
    (kept-within a c.args.interim.now c.keep.ensures.shaped c.requires.fits)
    (record { within = c.keep.ensures.shaped.few_bidders })
    (subst (IsWithin (2 ^ 110)) c.gains.ensures.value c.gains.ensures.size)
    (lit< tt)

pub returns-clause-value : goal.returns-clause-value
returns-clause-value c =
    read _ _
    (add_product_is _ _ _ _ _ _ _ c.add_product.type_inv
    (product_is _ _ _ _ _ c.product-kept.type_inv (widened _ _ _ c.from.type_inv c.keep.type_inv c.from.ensures c.keep.ensures.value) (read_of _ _ c.whole.type_inv c.whole.ensures.value) c.product-kept.ensures.value)
    (read_of _ _ c.from-2.type_inv (c.from-2.ensures ∙ ap pos c.bidders.ensures.count))
    (read_of _ _ c.gains.type_inv c.gains.ensures.value) c.add_product.ensures.value)

pub returns-clause-size : goal.returns-clause-size
returns-clause-size c =
    subst (IsWithin (2 ^ 114)) (sym (returns-clause-value c)) (worth-within c.args.auction.now c.args.interim.now c.keep.ensures.shaped c.requires.fits)
