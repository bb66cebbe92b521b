use Rattle.std.proofs.Common.{◌≤◌, ◌*◌, ◌^◌, pos, to_z, ap, ◌∙◌, sym, subst, arith, lit<}
use Rattle.std.specs.Prelude.{slice_index}
use mir.Syntax.{w128}
use Rattle.md_math.specs.Sizes.{IsWithin}
use Rattle.md_math.proofs.Bits.{read_result}
use Rattle.md_math.proofs.Readings.{read, read_of}
use Rattle.md_mech.proofs.WorthLaws.{step_fits}
use Rattle.md_setting.specs.Auction.{value_count}
use Rattle.md_threshold.proofs.ExpectedSizes.{sums-short}
use Rattle.md_threshold.proofs.expected.over_values.Goals as goal

pub add_product-sum-requires : goal.add_product-sum-requires
add_product-sum-requires c =
    let a = c.args.auction.now in
    let kind = c.loop-kind.kind in
    let inside : kind ≤ value_count a = omega (arith, c.kinds-kind-end.ensures.count) in
    let before : IsWithin (12 * (1000000 * 2 ^ 89)) (to_z w128 c.loop-kind.sum-bits) =
    subst (IsWithin (12 * (1000000 * 2 ^ 89))) (sym c.loop-kind.invariant) (sums-short a c.args.interim.now c.weight.ensures.shaped c.requires c.args.measure kind inside) in
    rw (read _ _ (read_of _ _ c.from-weight.type_inv (c.from-weight.ensures ∙ ap pos c.weight.ensures.value)), read_result c.amount.result c.amount.type_inv)
    (step_fits (to_z w128 c.loop-kind.sum-bits) (pos (slice_index a.weights kind)) c.amount.result (12 * (1000000 * 2 ^ 89)) 1000000 (2 ^ 89) before
    (record { within = (c.weight.ensures.shaped.weight kind (omega (arith, c.loop-kind-test.true, c.kinds-kind-end.ensures.count))).1 }) c.amount.ensures.size (lit< tt))

pub returns-clause-size : goal.returns-clause-size
returns-clause-size c =
    let a = c.args.auction.now in
    let inside : c.loop-kind.kind ≤ value_count a = omega (arith, c.kinds-kind-end.ensures.count) in
    subst (IsWithin (12 * (1000000 * 2 ^ 89))) (sym c.loop-kind.invariant) (sums-short a c.args.interim.now c.kinds-kind-end.ensures.shaped c.requires c.args.measure c.loop-kind.kind inside)
