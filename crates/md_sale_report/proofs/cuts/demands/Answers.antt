use Rattle.std.proofs.Common.{◌≤◌, ◌+◌, ◌*◌, ◌^◌, pos, to_z, ◌+ℤ◌, if◌then◌else◌, ap₂, sym, ◌∙◌, arith, lit<, mul-le-mul, le_refl}
use mir.Syntax.{w128}
use Rattle.md_math.specs.Lists.{number_at}
use Rattle.md_math.specs.Sets.{member}
use Rattle.md_math.specs.Sizes.{IsWithin}
use Rattle.md_math.proofs.Bits.{read_result, read_within}
use Rattle.md_math.proofs.SizeLaws.{IsWithin-+ℤ, IsWithin-wider, fits_from_IsWithin}
use Rattle.md_math.proofs.SumLaws.{sum_to-more}
use Rattle.md_asym_sale.specs.Sides.{demand_at}
use Rattle.md_sale_report.proofs.cuts.demands.Goals as goal

pub overflow_add-sum : goal.overflow_add-sum
overflow_add-sum c =
    let few : c.loop-pair.pair ≤ 12 = omega (arith, c.loop-pair-test.true, c.pair_count-pair-end.ensures.value, c.requires.few) in
    let before : IsWithin (12 * 2 ^ 106) (to_z w128 c.loop-pair.sum-bits) =
    IsWithin-wider (c.loop-pair.pair * 2 ^ 106) (12 * 2 ^ 106) (to_z w128 c.loop-pair.sum-bits) (mul-le-mul few (le_refl (2 ^ 106))) c.loop-pair.invariant.1 in
    rw (read_result c.demand_where-sum.result c.demand_where-sum.type_inv)
    (fits_from_IsWithin w128 (12 * 2 ^ 106 + 2 ^ 106) (to_z w128 c.loop-pair.sum-bits +ℤ c.demand_where-sum.result)
    (IsWithin-+ℤ (12 * 2 ^ 106) (2 ^ 106) (to_z w128 c.loop-pair.sum-bits) c.demand_where-sum.result before c.demand_where-sum.ensures.size) (lit< tt))

pub loop-pair-preserved : goal.loop-pair-preserved
loop-pair-preserved c =
    let few : c.loop-pair.pair ≤ 12 = omega (arith, c.loop-pair-test.true, c.pair_count-pair-end.ensures.value, c.requires.few) in
    let sum = to_z w128 c.loop-pair.sum-bits +ℤ c.demand_where-sum.result in
    let before : IsWithin (12 * 2 ^ 106) (to_z w128 c.loop-pair.sum-bits) =
    IsWithin-wider (c.loop-pair.pair * 2 ^ 106) (12 * 2 ^ 106) (to_z w128 c.loop-pair.sum-bits) (mul-le-mul few (le_refl (2 ^ 106))) c.loop-pair.invariant.1 in
    rw (read_result c.demand_where-sum.result c.demand_where-sum.type_inv)
    (rw (read_within (12 * 2 ^ 106 + 2 ^ 106) sum (IsWithin-+ℤ (12 * 2 ^ 106) (2 ^ 106) (to_z w128 c.loop-pair.sum-bits) c.demand_where-sum.result before c.demand_where-sum.ensures.size) (lit< tt)) (
      ap₂ (λ x y. x +ℤ y) c.loop-pair.invariant.0 c.demand_where-sum.ensures.value
          ∙ sym (sum_to-more c.loop-pair.pair (λ p. if member c.args.set p then demand_at c.args.setting.now (number_at c.args.odds.now) p else pos 0)),
      IsWithin-wider (c.loop-pair.pair * 2 ^ 106 + 2 ^ 106) ((c.loop-pair.pair + 1) * 2 ^ 106) sum (omega arith)
          (IsWithin-+ℤ (c.loop-pair.pair * 2 ^ 106) (2 ^ 106) (to_z w128 c.loop-pair.sum-bits) c.demand_where-sum.result c.loop-pair.invariant.1 c.demand_where-sum.ensures.size),
    ))

pub returns-clause-size : goal.returns-clause-size
returns-clause-size c =
    let end : c.loop-pair.pair ≤ 12 = omega (arith, c.loop-pair.auto.pair-end, c.pair_count-pair-end.ensures.value, c.requires.few) in
    IsWithin-wider (12 * 2 ^ 106) (2 ^ 110) (to_z w128 c.loop-pair.sum-bits) (omega arith)
    (IsWithin-wider (c.loop-pair.pair * 2 ^ 106) (12 * 2 ^ 106) (to_z w128 c.loop-pair.sum-bits) (mul-le-mul end (le_refl (2 ^ 106))) c.loop-pair.invariant.1)
