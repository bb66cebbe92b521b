use Rattle.std.proofs.Common.{◌≡◌, ◌^◌, ℤ, ◌+ℤ◌, ◌*ℤ◌, ◌∙◌, sym, subst, arith, lit<}
use Rattle.md_math.specs.Sizes.{IsWithin}
use Rattle.md_math.proofs.Readings.{read, read_of, read_small, add_product_fits, add_product_is}
use Rattle.md_math.proofs.Ring.{linear}
use Rattle.md_mech.specs.Accepted.{number_limit}
use Rattle.md_asym_laws.specs.Worth.{base_of}
use Rattle.md_asym.specs.Gains.{gains_of}
use Rattle.md_asym.proofs.GainLaws.{base-within, den-within, worth-within}
use Rattle.md_asym.proofs.worth.worth_over_whole.Goals as goal

turned : (x y : ℤ) → x +ℤ y ≡ y +ℤ x
turned x y = omega (arith, linear)

pub add_product-requires : goal.add_product-requires
add_product-requires c =
    let s = c.args.setting.now in
    let den = c.args.den in
    let small = den-within s den c.args.odds.now c.args.pays.now c.requires.fits in
    add_product_fits _ _ _ _ _ _ (2 ^ 110) (10 ^ 13) number_limit
    (read_of _ _ c.gains.type_inv c.gains.ensures.value)
    (read_of _ _ c.base.type_inv c.base.ensures.value)
    (read_small number_limit den small (lit< tt))
    (subst (IsWithin (2 ^ 110)) c.gains.ensures.value c.gains.ensures.size)
    (base-within s c.base.ensures.shaped)
    small
    (lit< tt)

pub returns-clause-value : goal.returns-clause-value
returns-clause-value c =
    let s = c.args.setting.now in
    read _ _
    (add_product_is _ _ _ _ _ _ _ c.add_product.type_inv
    (read_of _ _ c.gains.type_inv c.gains.ensures.value)
    (read_of _ _ c.base.type_inv c.base.ensures.value)
    (read_small number_limit c.args.den (den-within s c.args.den c.args.odds.now c.args.pays.now c.requires.fits) (lit< tt)) c.add_product.ensures.value)
    ∙ turned (gains_of s c.args.odds.now c.args.pays.now) (base_of s *ℤ c.args.den)

pub returns-clause-size : goal.returns-clause-size
returns-clause-size c =
    subst (IsWithin (2 ^ 114)) (sym (returns-clause-value c))
    (worth-within c.args.setting.now c.args.den c.args.odds.now c.args.pays.now c.requires.sale c.base.ensures.shaped c.requires.fits)
