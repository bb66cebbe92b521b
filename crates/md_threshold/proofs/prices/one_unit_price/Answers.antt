use Rattle.std.proofs.Common.{◌<◌, pos, ◌<ℤ◌, sym, subst, arith}
use Rattle.md_math.proofs.Bits.{read_result}
use Rattle.md_math.proofs.Order.{positive_pos}
use Rattle.md_math.proofs.Readings.{read, read_of}
use Rattle.md_iron_pools.specs.Pooling.{pools_of}
use Rattle.md_threshold.proofs.PriceLaws.{against-some, price-against}
use Rattle.md_threshold.proofs.prices.one_unit_price.Goals as goal

pub reduced-requires-clause-positive : goal.reduced-requires-clause-positive
reduced-requires-clause-positive c =
    let few : c.args.count < 12 = omega (arith, c.requires.count, c.kinds-shaped.ensures.shaped.few_bidders) in
    let some : 0 < c.chance_against-chance.result =
    subst (λ n. 0 < n) (sym c.chance_against-chance.ensures.value) (against-some (pools_of c.args.pools.now) c.args.other c.args.count c.args.kind few c.requires.buys c.requires.not_above) in
    subst (λ z. pos 0 <ℤ z) (sym (read _ _ (read_of _ _ c.from.type_inv c.from.ensures))) (positive_pos c.chance_against-chance.result some)

pub returns : goal.returns
returns c =
    let ratio = rw (read_result c.paid_against-paid.result c.paid_against-paid.type_inv, read _ _ (read_of _ _ c.from.type_inv c.from.ensures)) at c.reduced.ensures.value in
    price-against c.args.auction.now (pools_of c.args.pools.now) c.args.kind c.args.other c.args.count c.chance_against-chance.result c.paid_against-paid.result c.reduced.result c.kinds-shaped.ensures.shaped c.requires.pooling.pooled
    c.requires.kind c.requires.buys c.requires.other.1 c.requires.other.0 c.requires.none c.chance_against-chance.ensures.value c.paid_against-paid.ensures.value ratio c.reduced.ensures.least
