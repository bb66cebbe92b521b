use Rattle.std.proofs.Common.{◌≤◌, ◌^◌, ◌+ℤ◌, ◌*ℤ◌, to_z, ap₂, ◌∙◌, sym, subst, arith, lit<}
use mir.Syntax.{w128}
use Rattle.md_math.specs.Sizes.{IsWithin}
use Rattle.md_math.proofs.Bits.{read_result}
use Rattle.md_math.proofs.Readings.{read, read_of}
use Rattle.md_math.proofs.SumLaws.{sum_to-more}
use Rattle.md_mech.proofs.WorthLaws.{step_fits}
use Rattle.md_asym_sale.specs.Values.{pairs_of, marginal_at}
use Rattle.md_asym.specs.Gains.{gain_of}
use Rattle.md_asym.proofs.GainLaws.{gains-within, weight-small}
use Rattle.md_asym.proofs.worth.gains.Goals as goal

pub add_product-sum-requires : goal.add_product-sum-requires
add_product-sum-requires c =
    let s = c.args.setting.now in
    let p = c.loop-pair.pair in
    let inside : p ≤ pairs_of s = omega (arith, c.loop-pair-test.true, c.pair_count-pair-end.ensures.value) in
    let before : IsWithin (2 ^ 110) (to_z w128 c.loop-pair.sum-bits) =
    subst (IsWithin (2 ^ 110)) (sym c.loop-pair.invariant) (gains-within s _ c.args.odds.now c.args.pays.now p c.requires.sale c.pair_count-pair-end.ensures.shaped c.requires.fits inside) in
    rw (read _ _ (read_of _ _ c.marginal_at.type_inv c.marginal_at.ensures.value), read_result c.gain.result c.gain.type_inv)
    (step_fits (to_z w128 c.loop-pair.sum-bits) (marginal_at s p) c.gain.result (2 ^ 110) 1000000 (2 ^ 86) before
    (weight-small s p c.pair_count-pair-end.ensures.shaped) c.gain.ensures.size (lit< tt))

pub loop-pair-preserved : goal.loop-pair-preserved
loop-pair-preserved c =
    let s = c.args.setting.now in
    read_result c.add_product-sum.result c.add_product-sum.type_inv
    ∙ c.add_product-sum.ensures.value
    ∙ ap₂ (λ x y. x +ℤ y) c.loop-pair.invariant
    (ap₂ (λ x y. x *ℤ y) (read _ _ (read_of _ _ c.marginal_at.type_inv c.marginal_at.ensures.value)) (read _ _ (read_of _ _ c.gain.type_inv c.gain.ensures.value)))
    ∙ sym (sum_to-more c.loop-pair.pair (λ p. marginal_at s p *ℤ gain_of s c.args.odds.now c.args.pays.now p))

pub returns-clause-size : goal.returns-clause-size
returns-clause-size c =
    let s = c.args.setting.now in
    let inside : c.loop-pair.pair ≤ pairs_of s = omega (arith, c.pair_count-pair-end.ensures.value) in
    subst (IsWithin (2 ^ 110)) (sym c.loop-pair.invariant)
    (gains-within s _ c.args.odds.now c.args.pays.now c.loop-pair.pair c.requires.sale c.pair_count-pair-end.ensures.shaped c.requires.fits inside)
