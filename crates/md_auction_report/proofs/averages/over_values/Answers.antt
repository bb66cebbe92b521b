use Rattle.std.proofs.Common.{◌≤◌, ◌^◌, pos, ◌+ℤ◌, ◌*ℤ◌, to_z, ap, ap₂, ◌∙◌, sym, subst, arith, lit<}
use Rattle.std.specs.Prelude.{slice_index}
use mir.Syntax.{w128}
use Rattle.md_math.specs.Sizes.{IsWithin}
use Rattle.md_math.proofs.Bits.{read_result}
use Rattle.md_math.proofs.SumLaws.{sum_to-more}
use Rattle.md_math.proofs.Readings.{read, read_of}
use Rattle.md_mech.proofs.WorthLaws.{step_fits}
use Rattle.md_setting.specs.Auction.{value_count}
use Rattle.md_auction_report.specs.Amounts.{amount_of}
use Rattle.md_auction_report.proofs.SizeLaws.{sums-within}
use Rattle.md_auction_report.proofs.averages.over_values.Goals as goal

pub add_product-sum-requires : goal.add_product-sum-requires
add_product-sum-requires c =
    let a = c.args.auction.now in
    let interim = c.args.interim.now in
    let kind = c.loop-kind.kind in
    let inside : kind ≤ value_count a = omega (arith, c.kinds-kind-end.ensures.count) in
    let before : IsWithin (2 ^ 106) (to_z w128 c.loop-kind.sum-bits) =
    subst (IsWithin (2 ^ 106)) (sym c.loop-kind.invariant) (sums-within a interim c.args.measure kind c.weight.ensures.shaped c.requires inside) in
    rw (read _ _ (read_of _ _ c.from-weight.type_inv (c.from-weight.ensures ∙ ap pos c.weight.ensures.value)), read_result c.amount.result c.amount.type_inv)
    (step_fits (to_z w128 c.loop-kind.sum-bits) (pos (slice_index a.weights kind)) c.amount.result (2 ^ 106) 1000000 (2 ^ 82) before
    (record { within = (c.weight.ensures.shaped.weight kind (omega (arith, c.loop-kind-test.true, c.kinds-kind-end.ensures.count))).1 }) c.amount.ensures.size (lit< tt))

pub loop-kind-preserved : goal.loop-kind-preserved
loop-kind-preserved c =
    let a = c.args.auction.now in
    let interim = c.args.interim.now in
    read_result c.add_product-sum.result c.add_product-sum.type_inv
    ∙ c.add_product-sum.ensures.value
    ∙ ap₂ (λ x y. x +ℤ y) c.loop-kind.invariant
    (ap₂ (λ x y. x *ℤ y) (read _ _ (read_of _ _ c.from-weight.type_inv (c.from-weight.ensures ∙ ap pos c.weight.ensures.value))) (read _ _ (read_of _ _ c.amount.type_inv c.amount.ensures.value)))
    ∙ sym (sum_to-more c.loop-kind.kind (λ v. pos (slice_index a.weights v) *ℤ amount_of a interim c.args.measure v))

pub returns-clause-size : goal.returns-clause-size
returns-clause-size c =
    let a = c.args.auction.now in
    let inside : c.loop-kind.kind ≤ value_count a = omega (arith, c.kinds-kind-end.ensures.count) in
    subst (IsWithin (2 ^ 106)) (sym c.loop-kind.invariant) (sums-within a c.args.interim.now c.args.measure c.loop-kind.kind c.kinds-kind-end.ensures.shaped c.requires inside)
