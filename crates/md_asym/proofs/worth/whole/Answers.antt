use Rattle.std.proofs.Common.{ℤ, pos, ◌≤ℤ◌, ◌<ℤ◌, sym, subst, arith, lit<}
use Rattle.std.proofs.lemmas.Int.{ints}
use Rattle.md_math.proofs.Order.{positive-*ℤ}
use Rattle.md_math.proofs.Readings.{read, read_small, read_of, product_is}
use Rattle.md_mech.specs.Accepted.{number_limit}
use Rattle.md_setting.specs.Meaning.{total_of}
use Rattle.md_asym.proofs.GainLaws.{den-within}
use Rattle.md_asym.proofs.worth.whole.Goals as goal

above : (z : ℤ) → pos 1 ≤ℤ z → pos 0 <ℤ z
above z l = omega (arith, ints, l)

pub returns-clause-positive : goal.returns-clause-positive
returns-clause-positive c =
    let s = c.args.setting.now in
    let den = c.args.den in
    subst (λ z. pos 0 <ℤ z)
    (sym (read _ _ (product_is _ _ _ _ _ c.product.type_inv (read_small number_limit den (den-within s den c.args.odds.now c.args.pays.now c.requires.fits) (lit< tt)) (read_of _ _ c.total.type_inv c.total.ensures.value) c.product.ensures.value)))
    (positive-*ℤ den (total_of s) (above den c.requires.fits.fits.den_positive) (subst (λ z. pos 0 <ℤ z) c.total.ensures.value c.total.ensures.positive))
