use Rattle.std.proofs.Common.{◌≡◌, ◌<◌, ◌≤◌, ◌*◌, suc, pos, ◌+ℤ◌, ◌*ℤ◌, to_z, ap, ap₂, ◌∙◌, sym, subst, arith, lit<}
use Rattle.std.specs.Prelude.{slice_index}
use mir.Syntax.{w128}
use Rattle.md_math.specs.Lists.{number_at}
use Rattle.md_math.specs.Sizes.{IsWithin}
use Rattle.md_math.specs.Sums.{sum_to}
use Rattle.md_math.proofs.Bits.{read_result}
use Rattle.md_math.proofs.Readings.{IsRead, read, read_of, widened}
use Rattle.md_math.proofs.SumLaws.{sum_to-more}
use Rattle.md_mech.proofs.WorthLaws.{step_fits}
use Rattle.md_setting.specs.Auction.{value_count}
use Rattle.md_iron_values.specs.Odds.{step_of}
use Rattle.md_iron_pools.specs.Pooling.{pools_of}
use Rattle.md_iron_pools.proofs.InterimLaws.{value-within}
use Rattle.md_threshold_laws.specs.Rule.{chance_with}
use Rattle.md_threshold.proofs.ChanceSizes.{chance-small, paid-small}
use Rattle.md_threshold.proofs.chances.payment.Goals as goal

value : (c : goal.After-from) → IsRead c.from.result (number_at c.args.auction.now.values c.loop-kind.kind)
value c = widened _ _ _ c.from.type_inv c.value.type_inv c.from.ensures c.value.ensures.value

pub add_product-sum-requires : goal.add_product-sum-requires
add_product-sum-requires c =
    let a = c.args.auction.now in
    let n = c.loop-kind.kind in
    let own = c.requires.kinds.below c.args.bidder c.requires.bidder in
    let inside : n < value_count a = omega (arith, c.loop-kind-test.true, own, c.requires.pooling.one_each) in
    let before : IsWithin (12 * (1000000 * 27720)) (to_z w128 c.loop-kind.sum-bits) =
    subst (IsWithin (12 * (1000000 * 27720))) (sym c.loop-kind.invariant) (paid-small a (chance_with c.args.units (pools_of c.args.pools.now) c.args.profile.now c.args.bidder) n c.value.ensures.shaped (λ v. chance-small c.args.units (pools_of c.args.pools.now) c.args.profile.now c.args.bidder v c.requires.kinds.few) (omega (arith, inside))) in
    rw (read _ _ (value c), read_result c.step_with-step.result c.step_with-step.type_inv)
    (step_fits (to_z w128 c.loop-kind.sum-bits) (number_at a.values n) c.step_with-step.result (12 * (1000000 * 27720)) 1000000 27720 before
    (value-within a n c.value.ensures.shaped inside) c.step_with-step.ensures.size (lit< tt))

pub loop-kind-preserved : goal.loop-kind-preserved
loop-kind-preserved c =
    let a = c.args.auction.now in
    read_result c.add_product-sum.result c.add_product-sum.type_inv
    ∙ c.add_product-sum.ensures.value
    ∙ ap₂ (λ x y. x +ℤ y) c.loop-kind.invariant
    (ap₂ (λ x y. x *ℤ y) (read _ _ (widened _ _ _ c.from.type_inv c.value.type_inv c.from.ensures c.value.ensures.value)) (read _ _ (read_of _ _ c.step_with-step.type_inv c.step_with-step.ensures.value)))
    ∙ sym (sum_to-more c.loop-kind.kind (λ i. number_at a.values i *ℤ step_of (λ v. pos (chance_with c.args.units (pools_of c.args.pools.now) c.args.profile.now c.args.bidder v)) i))

pub returns-clause-value : goal.returns-clause-value
returns-clause-value c =
    let whole : c.loop-kind.kind ≡ suc (slice_index c.args.profile.now c.args.bidder) = omega (arith, c.loop-kind-test.false, c.loop-kind.auto.kind-end) in
    c.loop-kind.invariant
    ∙ ap (λ n. sum_to n (λ i. number_at c.args.auction.now.values i *ℤ step_of (λ v. pos (chance_with c.args.units (pools_of c.args.pools.now) c.args.profile.now c.args.bidder v)) i)) whole

pub returns-clause-size : goal.returns-clause-size
returns-clause-size c =
    let a = c.args.auction.now in
    let own = c.requires.kinds.below c.args.bidder c.requires.bidder in
    let inside : c.loop-kind.kind ≤ value_count a = omega (arith, c.loop-kind.auto.kind-end, own, c.requires.pooling.one_each) in
    subst (IsWithin (12 * (1000000 * 27720))) (sym c.loop-kind.invariant) (paid-small a (chance_with c.args.units (pools_of c.args.pools.now) c.args.profile.now c.args.bidder) c.loop-kind.kind c.kinds-shaped.ensures.shaped (λ v. chance-small c.args.units (pools_of c.args.pools.now) c.args.profile.now c.args.bidder v c.requires.kinds.few) inside)
