use Rattle.std.proofs.Common.{◌≡◌, ◌+◌, ◌*◌, ◌<◌, ◌^◌, suc, ◌+ℤ◌, ◌*ℤ◌, to_z, of_z, ap, ap₂, ◌∙◌, sym, subst, arith, lit<}
use mir.Syntax.{w128}
use Rattle.md_math.specs.Lists.{number_at}
use Rattle.md_math.specs.Sizes.{IsWithin}
use Rattle.md_math.specs.Sums.{sum_to}
use Rattle.md_math.proofs.Bits.{read_result}
use Rattle.md_math.proofs.Readings.{read, read_of, widened}
use Rattle.md_math.proofs.SumLaws.{sum_to-more}
use Rattle.md_mech.proofs.WorthLaws.{step_fits}
use Rattle.md_setting.specs.Auction.{value_count}
use Rattle.md_iron_values.specs.Odds.{pay_by, step_of}
use Rattle.md_iron_pools.proofs.InterimLaws.{list_to-push, paid-within, value-within}
use Rattle.md_iron_pools.proofs.odds.payments.Goals as goal

pub add_product-paid-requires : goal.add_product-paid-requires
add_product-paid-requires c =
    let a = c.args.auction.now in
    let n = c.loop-kind.kind in
    let inside : n < value_count a = omega (arith, c.loop-kind-test.true, c.kinds-kind-end.ensures.count) in
    let before : IsWithin (12 * (1000000 * (4 * 10 ^ 12))) (to_z w128 c.loop-kind.paid-bits) =
    subst (IsWithin (12 * (1000000 * (4 * 10 ^ 12)))) (sym c.loop-kind.invariant.1) (paid-within a c.args.odds.now n c.kinds-kind-end.ensures.shaped c.requires (omega (arith, inside))) in
    rw (read _ _ (widened _ _ _ c.from-value.type_inv c.value.type_inv c.from-value.ensures c.value.ensures.value), read_result c.odds_step.result c.odds_step.type_inv)
    (step_fits (to_z w128 c.loop-kind.paid-bits) (number_at a.values n) c.odds_step.result (12 * (1000000 * (4 * 10 ^ 12))) 1000000 (4 * 10 ^ 12) before
    (value-within a n c.kinds-kind-end.ensures.shaped inside) c.odds_step.ensures.size (lit< tt))

pub loop-kind-preserved : goal.loop-kind-preserved
loop-kind-preserved c =
    let a = c.args.auction.now in
    let n = c.loop-kind.kind in
    let paid : to_z w128 (of_z w128 c.add_product-paid.result) ≡ sum_to (c.loop-kind.kind + 1) (λ i. number_at c.args.auction.now.values i *ℤ step_of (number_at c.args.odds.now) i) =
    read_result c.add_product-paid.result c.add_product-paid.type_inv
    ∙ c.add_product-paid.ensures.value
    ∙ ap₂ (λ x y. x +ℤ y) c.loop-kind.invariant.1
    (ap₂ (λ x y. x *ℤ y) (read _ _ (widened _ _ _ c.from-value.type_inv c.value.type_inv c.from-value.ensures c.value.ensures.value)) (read _ _ (read_of _ _ c.odds_step.type_inv c.odds_step.ensures.value)))
    ∙ sym (sum_to-more n (λ i. number_at c.args.auction.now.values i *ℤ step_of (number_at c.args.odds.now) i)) in
    let next : c.loop-kind.kind + 1 ≡ suc c.loop-kind.kind = omega arith in
    (list_to-push n (pay_by (number_at a.values) (number_at c.args.odds.now)) c.loop-kind.pays _ _ c.loop-kind.invariant.0 c.in_ok-push.ensures.ok (paid ∙ ap (λ m. sum_to m (λ i. number_at c.args.auction.now.values i *ℤ step_of (number_at c.args.odds.now) i)) next), paid)
