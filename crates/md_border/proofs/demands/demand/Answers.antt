use Rattle.std.proofs.Common.{◌^◌, pos, ◌<ℤ◌, sym, subst}
use Rattle.md_border.proofs.DemandLaws.{demand-small}
use Rattle.md_math.proofs.Readings.{read, read_of, product_is}
use Rattle.md_border.proofs.demands.demand.Goals as goal

pub returns-clause-size : goal.returns-clause-size
returns-clause-size c =
    subst (λ z. z <ℤ pos (2 ^ 106))
    (sym (read _ _ (product_is _ _ _ _ _ c.product.type_inv (read_of _ _ c.weight_of_all.type_inv c.weight_of_all.ensures.value) (read_of _ _ c.get.type_inv c.get.ensures) c.product.ensures.value)))
    (demand-small c.args.auction.now c.args.interim.now c.args.kind c.weight_of_all.ensures.shaped c.requires.fits c.requires.kind_in)
