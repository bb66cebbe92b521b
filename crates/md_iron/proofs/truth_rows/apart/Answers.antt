use Rattle.std.proofs.Common.{◌≡◌, suc, pos, ◌-ℤ◌, ◌<ℤ◌, sym, subst, arith, lit<}
use Rattle.md_math.specs.Lists.{number_at}
use Rattle.md_math.specs.Sizes.{IsWithin}
use Rattle.md_math.proofs.Readings.{IsRead, widened, difference_fits, difference_is}
use Rattle.md_math.proofs.Ring.{linear}
use Rattle.md_math.proofs.SizeLaws.{IsWithin-difference}
use Rattle.md_iron_pools.proofs.InterimLaws.{value-within}
use Rattle.md_iron_values.proofs.AuctionLaws.{values-rise}
use Rattle.md_iron_laws.specs.Multipliers.{apart_by}
use Rattle.md_iron.proofs.truth_rows.apart.Goals as goal

small : (c : goal.After-from-2) → IsWithin 1000000 (apart_by c.args.auction.now c.args.high c.args.low)
small c =
    let a = c.args.auction.now in
    let shaped = c.value.ensures.shaped in
    IsWithin-difference 1000000 (number_at a.values c.args.high) (number_at a.values c.args.low) (shaped.value c.args.high c.requires.high_in).0 (shaped.value c.args.low (omega (arith, c.requires.high_in, c.requires.next))).0
    (value-within a c.args.high shaped c.requires.high_in) (value-within a c.args.low shaped (omega (arith, c.requires.high_in, c.requires.next)))

high : (c : goal.After-from-2) → IsRead c.from.result (number_at c.args.auction.now.values c.args.high)
high c = widened _ _ _ c.from.type_inv c.value.type_inv c.from.ensures c.value.ensures.value

low : (c : goal.After-from-2) → IsRead c.from-2.result (number_at c.args.auction.now.values c.args.low)
low c = widened _ _ _ c.from-2.type_inv c.value-2.type_inv c.from-2.ensures c.value-2.ensures.value

pub overflow_sub-result : goal.overflow_sub-result
overflow_sub-result c = difference_fits _ _ _ _ 1000000 (high c) (low c) (small c) (lit< tt)

pub returns-clause-value : goal.returns-clause-value
returns-clause-value c = difference_is _ _ _ _ 1000000 (high c) (low c) (small c) (lit< tt)

pub returns-clause-positive : goal.returns-clause-positive
returns-clause-positive c =
    let a = c.args.auction.now in
    let next : suc c.args.low ≡ c.args.high = omega (arith, c.requires.next) in
    let rise : number_at a.values c.args.low <ℤ number_at a.values (suc c.args.low) = values-rise a c.value.ensures.shaped c.args.low (omega (arith, next, c.requires.high_in)) in
    subst (λ z. pos 0 <ℤ z) (sym (difference_is _ _ _ _ 1000000 (high c) (low c) (small c) (lit< tt)))
    (subst (λ i. pos 0 <ℤ (number_at a.values i -ℤ number_at a.values c.args.low)) next (omega (arith, linear, rise)))

pub returns-clause-size : goal.returns-clause-size
returns-clause-size c = subst (IsWithin 1000000) (sym (difference_is _ _ _ _ 1000000 (high c) (low c) (small c) (lit< tt))) (small c)
