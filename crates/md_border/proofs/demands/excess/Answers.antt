use Rattle.std.proofs.Common.{◌*◌, ◌^◌, pos, ◌≤ℤ◌, sym, subst, lit<}
use Rattle.md_math.specs.Sizes.{IsWithin}
use Rattle.md_mech.specs.Accepted.{number_limit}
use Rattle.md_border.specs.Sides.{right_of}
use Rattle.md_border.specs.Odds.{demands_in}
use Rattle.md_border.proofs.DemandLaws.{den-within, excess-within}
use Rattle.md_border.proofs.Necessity.{border}
use Rattle.md_math.proofs.Readings.{read_small, read_of, product_is, difference_is}
use Rattle.md_border.proofs.demands.excess.Goals as goal

pub returns-clause-value : goal.returns-clause-value
returns-clause-value c =
    let a = c.args.auction.now in
    let interim = c.args.interim.now in
    let right = right_of a c.args.set in
    difference_is _ _ _ _ (2 ^ 110)
    (read_of _ _ c.demands.type_inv c.demands.ensures.value)
    (product_is _ _ _ _ _ c.product.type_inv (read_small number_limit interim.den (den-within a interim c.requires.fits) (lit< tt)) (read_of _ _ c.right_side.type_inv c.right_side.ensures.value) c.product.ensures.value)
    (excess-within (demands_in a interim c.args.set) interim.den right (subst (IsWithin (12 * 2 ^ 106)) c.demands.ensures.value c.demands.ensures.size) (den-within a interim c.requires.fits)
    (subst (λ z. pos 0 ≤ℤ z) c.right_side.ensures.value c.right_side.ensures.nonneg) (subst (λ z. z ≤ℤ pos (10 ^ 12)) c.right_side.ensures.value c.right_side.ensures.size))
    (lit< tt)

pub returns-clause-border : goal.returns-clause-border
returns-clause-border c = λ m mechanism odds.
    subst (λ z. z ≤ℤ pos 0) (sym (returns-clause-value c)) (border c.args.auction.now c.args.interim.now c.args.set m c.requires.fits.den_positive mechanism odds)
