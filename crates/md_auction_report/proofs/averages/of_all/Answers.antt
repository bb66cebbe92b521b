use Rattle.std.proofs.Common.{◌*◌, ◌^◌, pos, ap, ◌∙◌, sym, subst, lit<}
use Rattle.md_math.specs.Sizes.{IsWithin}
use Rattle.md_math.proofs.Readings.{read, read_of, product_is, product_fits}
use Rattle.md_auction_report.proofs.SizeLaws.{all-within}
use Rattle.md_auction_report.proofs.averages.of_all.Goals as goal

pub product-requires : goal.product-requires
product-requires c =
    product_fits _ _ _ _ 12 (2 ^ 106)
    (read_of _ _ c.from-bidders.type_inv (c.from-bidders.ensures ∙ ap pos c.bidders.ensures.count))
    (read_of _ _ c.over_values.type_inv c.over_values.ensures.value)
    (record { within = c.bidders.ensures.shaped.few_bidders })
    (subst (IsWithin (2 ^ 106)) c.over_values.ensures.value c.over_values.ensures.size) (lit< tt)

pub returns-clause-value : goal.returns-clause-value
returns-clause-value c =
    read _ _
    (product_is _ _ _ _ _ c.product.type_inv
    (read_of _ _ c.from-bidders.type_inv (c.from-bidders.ensures ∙ ap pos c.bidders.ensures.count))
    (read_of _ _ c.over_values.type_inv c.over_values.ensures.value) c.product.ensures.value)

pub returns-clause-size : goal.returns-clause-size
returns-clause-size c = subst (IsWithin (12 * 2 ^ 106)) (sym (returns-clause-value c)) (all-within c.args.auction.now c.args.interim.now c.args.measure c.bidders.ensures.shaped c.requires)
