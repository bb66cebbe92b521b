use Rattle.std.proofs.Common.{◌≤◌, ◌+◌, ◌*◌, ◌^◌, pos, ◌+ℤ◌, to_z, if◌then◌else◌, ap₂, ◌∙◌, sym, subst, arith, lit<}
use mir.Syntax.{w128}
use Rattle.md_math.specs.Sizes.{IsWithin}
use Rattle.md_math.proofs.Bits.{read_result, read_within}
use Rattle.md_math.proofs.SizeLaws.{IsWithin-+ℤ, fits_from_IsWithin}
use Rattle.md_math.proofs.SumLaws.{sum_to-more}
use Rattle.md_setting.specs.Auction.{value_count}
use Rattle.md_math.specs.Sets.{member}
use Rattle.md_border.specs.Odds.{demand_of}
use Rattle.md_border.proofs.DemandLaws.{demands-within}
use Rattle.md_border.proofs.demands.demands.Goals as goal

-- the sum with one demand more
more : (c : goal.After-demand_if_in-sum) → IsWithin (12 * 2 ^ 106 + 2 ^ 106) (to_z w128 c.loop-kind.sum-bits +ℤ c.demand_if_in-sum.result)
more c =
    let a = c.args.auction.now in
    let inside : c.loop-kind.kind ≤ value_count a = omega (arith, c.kinds-kind-end.ensures.count) in
    let before : IsWithin (12 * 2 ^ 106) (to_z w128 c.loop-kind.sum-bits) =
    subst (IsWithin (12 * 2 ^ 106)) (sym c.loop-kind.invariant) (demands-within a c.args.interim.now c.args.set c.loop-kind.kind c.kinds-kind-end.ensures.shaped c.requires.fits inside) in
    IsWithin-+ℤ (12 * 2 ^ 106) (2 ^ 106) (to_z w128 c.loop-kind.sum-bits) c.demand_if_in-sum.result before c.demand_if_in-sum.ensures.size

pub overflow_add-sum : goal.overflow_add-sum
overflow_add-sum c =
    rw (read_result c.demand_if_in-sum.result c.demand_if_in-sum.type_inv)
    (fits_from_IsWithin w128 (12 * 2 ^ 106 + 2 ^ 106) (to_z w128 c.loop-kind.sum-bits +ℤ c.demand_if_in-sum.result) (more c) (lit< tt))

pub loop-kind-preserved : goal.loop-kind-preserved
loop-kind-preserved c =
    rw (read_result c.demand_if_in-sum.result c.demand_if_in-sum.type_inv)
    (read_within (12 * 2 ^ 106 + 2 ^ 106) (to_z w128 c.loop-kind.sum-bits +ℤ c.demand_if_in-sum.result) (more c) (lit< tt)
    ∙ ap₂ (λ x y. x +ℤ y) c.loop-kind.invariant c.demand_if_in-sum.ensures.value
    ∙ sym (sum_to-more c.loop-kind.kind (λ v. if member c.args.set v then demand_of c.args.auction.now c.args.interim.now v else pos 0)))

pub returns-clause-size : goal.returns-clause-size
returns-clause-size c =
    let a = c.args.auction.now in
    let inside : c.loop-kind.kind ≤ value_count a = omega (arith, c.kinds-kind-end.ensures.count) in
    subst (IsWithin (12 * 2 ^ 106)) (sym c.loop-kind.invariant) (demands-within a c.args.interim.now c.args.set c.loop-kind.kind c.kinds-kind-end.ensures.shaped c.requires.fits inside)
