use Rattle.std.proofs.Common.{◌≤◌, ◌+◌, ◌^◌, ◌+ℤ◌, to_z, ap₂, ◌∙◌, sym, subst, arith, lit<}
use mir.Syntax.{w128}
use Rattle.md_math.specs.Sizes.{IsWithin}
use Rattle.md_math.proofs.Bits.{read_result, read_within}
use Rattle.md_math.proofs.SizeLaws.{IsWithin-+ℤ, fits_from_IsWithin}
use Rattle.md_math.proofs.SumLaws.{sum_to-more}
use Rattle.md_setting.specs.Auction.{value_count}
use Rattle.md_iron_values.specs.VirtualValues.{virtual_value}
use Rattle.md_iron_pools.proofs.Bounds.{virtual_to-within}
use Rattle.md_iron_pools.proofs.sums.virtual_below.Goals as goal

-- the sum with one virtual value more
more : (c : goal.After-virtual_value-sum) → IsWithin (2 ^ 54 + 2 ^ 50) (to_z w128 c.loop-kind.sum-bits +ℤ c.virtual_value-sum.result)
more c =
    let a = c.args.auction.now in
    let inside : c.loop-kind.kind ≤ value_count a = omega (arith, c.requires) in
    IsWithin-+ℤ (2 ^ 54) (2 ^ 50) (to_z w128 c.loop-kind.sum-bits) c.virtual_value-sum.result
    (subst (IsWithin (2 ^ 54)) (sym c.loop-kind.invariant) (virtual_to-within a c.loop-kind.kind c.kinds-shaped.ensures.shaped inside)) c.virtual_value-sum.ensures.size

pub overflow_add-sum : goal.overflow_add-sum
overflow_add-sum c =
    rw (read_result c.virtual_value-sum.result c.virtual_value-sum.type_inv)
    (fits_from_IsWithin w128 (2 ^ 54 + 2 ^ 50) (to_z w128 c.loop-kind.sum-bits +ℤ c.virtual_value-sum.result) (more c) (lit< tt))

pub loop-kind-preserved : goal.loop-kind-preserved
loop-kind-preserved c =
    rw (read_result c.virtual_value-sum.result c.virtual_value-sum.type_inv)
    (read_within (2 ^ 54 + 2 ^ 50) (to_z w128 c.loop-kind.sum-bits +ℤ c.virtual_value-sum.result) (more c) (lit< tt)
    ∙ ap₂ (λ x y. x +ℤ y) c.loop-kind.invariant c.virtual_value-sum.ensures.value
    ∙ sym (sum_to-more c.loop-kind.kind (virtual_value c.args.auction.now)))

pub returns-clause-size : goal.returns-clause-size
returns-clause-size c =
    let a = c.args.auction.now in
    let inside : c.loop-kind.kind ≤ value_count a = omega (arith, c.requires) in
    subst (IsWithin (2 ^ 54)) (sym c.loop-kind.invariant) (virtual_to-within a c.loop-kind.kind c.kinds-shaped.ensures.shaped inside)
