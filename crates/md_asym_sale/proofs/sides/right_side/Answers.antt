use Rattle.std.proofs.Common.{to_z, ◌≡◌, ◌+◌, ◌*◌, ◌^◌, ◌≤◌, ◌+ℤ◌, ◌∙◌, arith, ap, sym, lit<, subst}
use mir.Syntax.{w128}
use Rattle.md_math.specs.Sizes.{IsWithin}
use Rattle.md_math.specs.Sums.{sum_to}
use Rattle.md_math.proofs.Bits.{read_result, read_within}
use Rattle.md_math.proofs.SizeLaws.{IsWithin-+ℤ, IsWithin-wider, fits_from_IsWithin}
use Rattle.md_math.proofs.SumLaws.{sum_to-more}
use Rattle.md_space.specs.Profiles.{profile_count}
use Rattle.md_setting.specs.Meaning.{sizes_of}
use Rattle.md_asym_sale.proofs.SideLaws.{weight_where, weights-within, right-by_rank}
use Rattle.md_asym_sale.proofs.sides.right_side.Goals as goal

pub overflow_add-sum : goal.overflow_add-sum
overflow_add-sum c =
    let s = c.args.setting.now in
    let before : IsWithin (1024 * 1000000) (to_z w128 c.loop-rank.sum-bits) =
    rw c.loop-rank.invariant (weights-within s c.args.set c.loop-rank.rank c.profiles-rank-end.ensures.shaped (omega (arith, c.loop-rank-test.true, c.profiles-rank-end.ensures.count))) in
    rw (read_result c.weight_where-sum.result c.weight_where-sum.type_inv)
    (fits_from_IsWithin w128 (1024 * 1000000 + 1000000) (to_z w128 c.loop-rank.sum-bits +ℤ c.weight_where-sum.result)
    (IsWithin-+ℤ (1024 * 1000000) 1000000 (to_z w128 c.loop-rank.sum-bits) c.weight_where-sum.result before c.weight_where-sum.ensures.size) (lit< tt))

pub loop-rank-preserved : goal.loop-rank-preserved
loop-rank-preserved c =
    let s = c.args.setting.now in
    let before : IsWithin (1024 * 1000000) (to_z w128 c.loop-rank.sum-bits) =
    rw c.loop-rank.invariant (weights-within s c.args.set c.loop-rank.rank c.profiles-rank-end.ensures.shaped (omega (arith, c.loop-rank-test.true, c.profiles-rank-end.ensures.count))) in
    rw (read_result c.weight_where-sum.result c.weight_where-sum.type_inv)
    (read_within (1024 * 1000000 + 1000000) (to_z w128 c.loop-rank.sum-bits +ℤ c.weight_where-sum.result)
    (IsWithin-+ℤ (1024 * 1000000) 1000000 (to_z w128 c.loop-rank.sum-bits) c.weight_where-sum.result before c.weight_where-sum.ensures.size) (lit< tt)
    ∙ rw (c.loop-rank.invariant, c.weight_where-sum.ensures.value) (sym (sum_to-more c.loop-rank.rank (weight_where s c.args.set))))

pub returns : goal.returns
returns c =
    let s = c.args.setting.now in
    let end : c.loop-rank.rank ≡ profile_count (sizes_of s) = omega (arith, c.loop-rank-test.false, c.loop-rank.auto.rank-end, c.profiles-rank-end.ensures.count) in
    let sum = subst (λ n. to_z w128 c.loop-rank.sum-bits ≡ sum_to n (weight_where s c.args.set)) end c.loop-rank.invariant in
    record {
      value = sum ∙ sym (right-by_rank s c.args.set);
      size = IsWithin-wider (1024 * 1000000) (2 ^ 44) (to_z w128 c.loop-rank.sum-bits) (omega arith)
          (rw c.loop-rank.invariant (weights-within s c.args.set c.loop-rank.rank c.profiles-rank-end.ensures.shaped (omega (arith, end))));
    }
