use Rattle.std.proofs.Common.{lit<}
use Rattle.md_math.proofs.Readings.{read_of, widened, product_fits}
use Rattle.md_iron_pools.proofs.InterimLaws.{value-within}
use Rattle.md_border.proofs.DemandLaws.{odds-within}
use Rattle.md_mech.specs.Accepted.{number_limit}
use Rattle.md_threshold.proofs.expected.item.Goals as goal

pub product-requires : goal.product-requires
product-requires c =
    product_fits _ _ _ _ 1000000 number_limit (widened _ _ _ c.from-value.type_inv c.value.type_inv c.from-value.ensures c.value.ensures.value) (read_of _ _ c.get.type_inv c.get.ensures)
    (value-within c.args.auction.now c.args.kind c.value.ensures.shaped c.requires.kind) (odds-within c.args.auction.now c.args.interim.now c.args.kind c.requires.fits c.requires.kind) (lit< tt)
