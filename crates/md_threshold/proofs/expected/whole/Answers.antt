use Rattle.std.proofs.Common.{pos, ◌<ℤ◌, sym, subst, arith, lit<}
use Rattle.std.proofs.lemmas.Int.{ints}
use Rattle.md_math.proofs.Order.{positive-*ℤ, positive_pos}
use Rattle.md_math.proofs.Readings.{read, read_small, widened, product_is}
use Rattle.md_setting.specs.Auction.{total_weight}
use Rattle.md_border.proofs.DemandLaws.{den-within, total-positive}
use Rattle.md_mech.specs.Accepted.{number_limit}
use Rattle.md_threshold.proofs.expected.whole.Goals as goal

pub returns-clause-positive : goal.returns-clause-positive
returns-clause-positive c =
    let a = c.args.auction.now in
    let interim = c.args.interim.now in
    subst (λ z. pos 0 <ℤ z)
    (sym (read _ _ (product_is _ _ _ _ _ c.product.type_inv (widened _ _ _ c.from.type_inv c.total.type_inv c.from.ensures c.total.ensures.value) (read_small number_limit interim.den (den-within a interim c.requires) (lit< tt)) c.product.ensures.value)))
    (positive-*ℤ (pos (total_weight a.weights)) interim.den (positive_pos (total_weight a.weights) (total-positive a c.total.ensures.shaped)) (omega (arith, ints, c.requires.den_positive)))
