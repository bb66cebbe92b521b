use Rattle.std.proofs.Common.{◌*◌, ◌^◌, ◌-ℤ◌, ◌*ℤ◌, pos, ◌≤ℤ◌, ◌∙◌, sym, subst, lit<}
use Rattle.md_math.specs.Sizes.{IsWithin}
use Rattle.md_math.proofs.Readings.{IsRead, read_of, read_small, product_is, product_fits, difference_is, difference_fits}
use Rattle.md_mech.specs.Accepted.{number_limit}
use Rattle.md_border.specs.Odds.{unit_excess_of}
use Rattle.md_border.specs.Sides.{right_by_counts}
use Rattle.md_border.proofs.DemandLaws.{den-within}
use Rattle.md_auction_report.proofs.SizeLaws.{further, unit-excess, unit-excess-within}
use Rattle.md_auction_report.proofs.measures.unit_excess.Goals as goal
use Rattle.md_auction_report.proofs.measures.unit_excess.Goals.{After-product}

pub product-requires : goal.product-requires
product-requires c =
    let most = den-within c.args.auction.now c.args.interim.now c.requires.fits in
    let more =
    further c.args.units _ _ _ _ c.requires.few_units (read_of _ _ c.right_side_for.type_inv c.right_side_for.ensures.value) (read_of _ _ c.right_side_for-2.type_inv c.right_side_for-2.ensures.value)
    c.right_side_for.ensures.nonneg c.right_side_for.ensures.size c.right_side_for-2.ensures.nonneg c.right_side_for-2.ensures.size in
    product_fits _ _ _ _ number_limit (13 * 10 ^ 12) (read_small number_limit c.args.interim.now.den most (lit< tt)) more.is_read most more.within (lit< tt)

-- what they serve, in units of one over the denominator
served : (c : After-product) → IsRead c.product.result (c.args.interim.now.den *ℤ (right_by_counts c.args.auction.now c.args.units c.args.set -ℤ right_by_counts c.args.auction.now 1 c.args.set))
served c =
    let most = den-within c.args.auction.now c.args.interim.now c.requires.fits in
    let more =
    further c.args.units _ _ _ _ c.requires.few_units (read_of _ _ c.right_side_for.type_inv c.right_side_for.ensures.value) (read_of _ _ c.right_side_for-2.type_inv c.right_side_for-2.ensures.value)
    c.right_side_for.ensures.nonneg c.right_side_for.ensures.size c.right_side_for-2.ensures.nonneg c.right_side_for-2.ensures.size in
    product_is _ _ _ _ _ c.product.type_inv (read_small number_limit c.args.interim.now.den most (lit< tt)) more.is_read c.product.ensures.value

small : (c : After-product) → IsWithin (2 ^ 110) (unit_excess_of c.args.auction.now c.args.units c.args.interim.now c.args.set)
small c =
    unit-excess-within c.args.auction.now c.args.units c.args.interim.now c.args.set c.right_side_for.ensures.shaped c.requires.fits c.requires.few_units
    (subst (λ z. pos 0 ≤ℤ z) c.right_side_for.ensures.value c.right_side_for.ensures.nonneg)
    (subst (λ z. z ≤ℤ pos (c.args.units * 10 ^ 12)) c.right_side_for.ensures.value c.right_side_for.ensures.size)

pub overflow_sub-result : goal.overflow_sub-result
overflow_sub-result c =
    difference_fits _ _ _ _ (2 ^ 110) (read_of _ _ c.excess.type_inv c.excess.ensures.value) (served c)
    (subst (IsWithin (2 ^ 110)) (sym (unit-excess c.args.auction.now c.args.units c.args.interim.now c.args.set)) (small c)) (lit< tt)

pub returns-clause-value : goal.returns-clause-value
returns-clause-value c =
    difference_is _ _ _ _ (2 ^ 110) (read_of _ _ c.excess.type_inv c.excess.ensures.value) (served c)
    (subst (IsWithin (2 ^ 110)) (sym (unit-excess c.args.auction.now c.args.units c.args.interim.now c.args.set)) (small c)) (lit< tt)
    ∙ unit-excess c.args.auction.now c.args.units c.args.interim.now c.args.set

pub returns-clause-size : goal.returns-clause-size
returns-clause-size c = subst (IsWithin (2 ^ 110)) (sym (returns-clause-value c)) (small c)
