use Rattle.std.proofs.Common.{rules, ◌*◌, ◌^◌, pos, ◌<ℤ◌, sym, subst, arith}
use Rattle.md_math.specs.Sizes.{IsWithin}
use Rattle.md_math.proofs.Bits.{read_short_result}
use Rattle.md_math.proofs.Order.{positive_pos}
use Rattle.md_border.proofs.DemandLaws.{others-le}
use Rattle.md_iron_pools.proofs.InterimLaws.{den-positive, den-small}
use Rattle.md_iron_pools.proofs.odds.share_of_all.Goals as goal

pub pow-others-requires : goal.pow-others-requires
pow-others-requires c =
    rw (read_short_result c.total.result c.total.type_inv, c.total.ensures.value, c.bidders-bidders.ensures.count)
    (omega (arith, others-le c.args.auction.now c.total.ensures.shaped))

pub returns-clause-value : goal.returns-clause-value
returns-clause-value c = search rules

pub returns-clause-positive : goal.returns-clause-positive
returns-clause-positive c = subst (λ z. pos 0 <ℤ z) (sym (returns-clause-value c)) (positive_pos _ (den-positive c.args.auction.now c.total.ensures.shaped))

pub returns-clause-size : goal.returns-clause-size
returns-clause-size c = subst (IsWithin (4 * 10 ^ 12)) (sym (returns-clause-value c)) (record { within = den-small c.args.auction.now c.total.ensures.shaped })
