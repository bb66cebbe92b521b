use Rattle.std.proofs.Common.{◌≤◌, ◌^◌, pos, ◌+ℤ◌, ◌*ℤ◌, to_z, ap, ap₂, ◌∙◌, sym, subst, arith, lit<}
use Rattle.std.specs.Prelude.{slice_index}
use mir.Syntax.{w128}
use Rattle.md_math.specs.Sizes.{IsWithin}
use Rattle.md_math.proofs.Bits.{read_result}
use Rattle.md_math.proofs.SumLaws.{sum_to-more}
use Rattle.md_mech.proofs.WorthLaws.{step_fits}
use Rattle.md_setting.specs.Auction.{value_count}
use Rattle.md_border.specs.Worth.{gain_of}
use Rattle.md_math.proofs.Readings.{read, read_of}
use Rattle.md_border.proofs.WorthLaws.{gains-within}
use Rattle.md_border.proofs.worth.gains.Goals as goal

pub add_product-sum-requires : goal.add_product-sum-requires
add_product-sum-requires c =
    let a = c.args.auction.now in
    let interim = c.args.interim.now in
    let kind = c.loop-kind.kind in
    let inside : kind ≤ value_count a = omega (arith, c.kinds-kind-end.ensures.count) in
    let before : IsWithin (2 ^ 110) (to_z w128 c.loop-kind.sum-bits) =
    subst (IsWithin (2 ^ 110)) (sym c.loop-kind.invariant) (gains-within a interim kind c.weight.ensures.shaped c.requires.fits inside) in
    rw (read _ _ (read_of _ _ c.from-weight.type_inv (c.from-weight.ensures ∙ ap pos c.weight.ensures.value)), read_result c.gain.result c.gain.type_inv)
    (step_fits (to_z w128 c.loop-kind.sum-bits) (pos (slice_index a.weights kind)) c.gain.result (2 ^ 110) 1000000 (2 ^ 86) before
    (record { within = (c.weight.ensures.shaped.weight kind (omega (arith, c.loop-kind-test.true, c.kinds-kind-end.ensures.count))).1 }) c.gain.ensures.size (lit< tt))

pub loop-kind-preserved : goal.loop-kind-preserved
loop-kind-preserved c =
    let a = c.args.auction.now in
    let interim = c.args.interim.now in
    read_result c.add_product-sum.result c.add_product-sum.type_inv
    ∙ c.add_product-sum.ensures.value
    ∙ ap₂ (λ x y. x +ℤ y) c.loop-kind.invariant
    (ap₂ (λ x y. x *ℤ y) (read _ _ (read_of _ _ c.from-weight.type_inv (c.from-weight.ensures ∙ ap pos c.weight.ensures.value))) (read _ _ (read_of _ _ c.gain.type_inv c.gain.ensures.value)))
    ∙ sym (sum_to-more c.loop-kind.kind (λ v. pos (slice_index a.weights v) *ℤ gain_of a interim v))

pub returns-clause-size : goal.returns-clause-size
returns-clause-size c =
    let a = c.args.auction.now in
    let inside : c.loop-kind.kind ≤ value_count a = omega (arith, c.kinds-kind-end.ensures.count) in
    subst (IsWithin (2 ^ 110)) (sym c.loop-kind.invariant) (gains-within a c.args.interim.now c.loop-kind.kind c.kinds-kind-end.ensures.shaped c.requires.fits inside)
