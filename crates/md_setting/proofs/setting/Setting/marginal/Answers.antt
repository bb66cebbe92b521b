use Rattle.std.proofs.Common.{to_z, ◌≡◌, ◌+◌, ◌*◌, ◌∙◌, arith, ap, sym, lit<, subst, pos}
use Rattle.std.specs.Prelude.{◌+ℤ◌, ◌<ℤ◌}
use mir.Syntax.{w128}
use Rattle.md_math.specs.Sizes.{IsWithin}
use Rattle.md_math.specs.Sums.{sum_to}
use Rattle.md_math.proofs.SizeLaws.{IsWithin-+ℤ, fits_from_IsWithin}
use Rattle.md_math.proofs.SumLaws.{sum_to-more}
use Rattle.md_math.proofs.Bits.{read_result, read_within}
use Rattle.md_space.specs.Profiles.{profile_at, profile_count}
use Rattle.md_space.specs.ByType.{where_type}
use Rattle.md_setting.specs.Meaning.{sizes_of, marginal_of, weight_of}
use Rattle.md_setting.proofs.MarginalLaws.{marginal-by_rank, marginal-small, marginal-within}
use Rattle.md_setting.proofs.setting.Setting.marginal.Goals as goal

pub overflow_add-sum : goal.overflow_add-sum
overflow_add-sum c =
    let s = c.args.self.now in
    let count : c.profiles-rank-end.result ≡ profile_count (sizes_of s) = c.profiles-rank-end.ensures.count ∙ ap profile_count c.space.ensures.sizes in
    let before : IsWithin (1024 * 1000000) (to_z w128 c.loop-rank.sum-bits) =
    rw c.loop-rank.invariant (marginal-within s c.args.agent c.args.kind c.loop-rank.rank c.space.ensures.shaped (omega (arith, count))) in
    rw (read_result c.weight_given-sum.result c.weight_given-sum.type_inv)
    (fits_from_IsWithin w128 (1024 * 1000000 + 1000000) (to_z w128 c.loop-rank.sum-bits +ℤ c.weight_given-sum.result)
    (IsWithin-+ℤ (1024 * 1000000) 1000000 (to_z w128 c.loop-rank.sum-bits) c.weight_given-sum.result before c.weight_given-sum.ensures.size) (lit< tt))

pub loop-rank-preserved : goal.loop-rank-preserved
loop-rank-preserved c =
    let s = c.args.self.now in
    let count : c.profiles-rank-end.result ≡ profile_count (sizes_of s) = c.profiles-rank-end.ensures.count ∙ ap profile_count c.space.ensures.sizes in
    let before : IsWithin (1024 * 1000000) (to_z w128 c.loop-rank.sum-bits) =
    rw c.loop-rank.invariant (marginal-within s c.args.agent c.args.kind c.loop-rank.rank c.space.ensures.shaped (omega (arith, count))) in
    rw (read_result c.weight_given-sum.result c.weight_given-sum.type_inv)
    (read_within (1024 * 1000000 + 1000000) (to_z w128 c.loop-rank.sum-bits +ℤ c.weight_given-sum.result)
    (IsWithin-+ℤ (1024 * 1000000) 1000000 (to_z w128 c.loop-rank.sum-bits) c.weight_given-sum.result before c.weight_given-sum.ensures.size) (lit< tt)
    ∙ rw (c.loop-rank.invariant, c.weight_given-sum.ensures.value) (sym (sum_to-more c.loop-rank.rank (λ r. where_type c.args.agent c.args.kind (weight_of s) (profile_at (sizes_of s) r)))))

pub returns : goal.returns
returns c =
    let s = c.args.self.now in
    let count : c.profiles-rank-end.result ≡ profile_count (sizes_of s) = c.profiles-rank-end.ensures.count ∙ ap profile_count c.space.ensures.sizes in
    let end : c.loop-rank.rank ≡ profile_count (sizes_of s) = omega (arith, count) in
    let sum : to_z w128 c.loop-rank.sum-bits ≡ marginal_of s c.args.agent c.args.kind =
    subst (λ n. to_z w128 c.loop-rank.sum-bits ≡ sum_to n (λ r. where_type c.args.agent c.args.kind (weight_of s) (profile_at (sizes_of s) r))) end c.loop-rank.invariant
    ∙ sym (marginal-by_rank s c.args.agent c.args.kind) in
    record {
      value = sum;
      positive = subst (λ z. pos 0 <ℤ z) (sym sum) (c.space.ensures.shaped.marginal c.args.agent c.args.kind c.requires.agent_in c.requires.kind_in);
      size = subst (IsWithin 1000000) (sym sum) (marginal-small s c.args.agent c.args.kind c.space.ensures.shaped);
      shaped = c.space.ensures.shaped;
    }
