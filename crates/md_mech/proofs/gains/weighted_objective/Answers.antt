use Rattle.std.proofs.Common.{◌≡◌, ◌≤◌, ◌^◌, ◌*ℤ◌, to_z, ap, sym, ◌∙◌, subst, arith, lit<}
use mir.Syntax.{w128}
use Rattle.md_math.specs.Sizes.{IsWithin}
use Rattle.md_math.specs.Sums.{sum_to}
use Rattle.md_math.proofs.SumLaws.{sum_to-more}
use Rattle.md_math.proofs.Bits.{read_result}
use Rattle.md_space.specs.Profiles.{profile_count, profile_at}
use Rattle.md_setting.specs.Meaning.{sizes_of, weight_of}
use Rattle.md_mech.specs.Optimal.{objective_at}
use Rattle.md_mech.proofs.WorthLaws.{step_fits, worth-within, worth-by_rank}
use Rattle.md_mech.proofs.gains.weighted_objective.Goals as goal

pub add_product-sum-requires : goal.add_product-sum-requires
add_product-sum-requires c =
    let s = c.args.setting.now in
    let fits : c.loop-rank.rank ≤ profile_count (sizes_of s) = omega (arith, c.profiles-rank-end.ensures.count, ap profile_count c.space.ensures.sizes) in
    let before : IsWithin (2 ^ 121) (to_z w128 c.loop-rank.sum-bits) =
    subst (IsWithin (2 ^ 121)) (sym c.loop-rank.invariant) (worth-within s c.args.mechanism.now c.loop-rank.rank c.requires c.space.ensures.shaped fits) in
    rw (read_result c.weight.result c.weight.type_inv, read_result c.objective.result c.objective.type_inv)
    (step_fits (to_z w128 c.loop-rank.sum-bits) c.weight.result c.objective.result (2 ^ 121) 1000000 (2 ^ 91) before c.weight.ensures.size c.objective.ensures.size (lit< tt))

pub loop-rank-preserved : goal.loop-rank-preserved
loop-rank-preserved c =
    let s = c.args.setting.now in
    read_result c.add_product-sum.result c.add_product-sum.type_inv
    ∙ (rw (read_result c.weight.result c.weight.type_inv, read_result c.objective.result c.objective.type_inv, c.loop-rank.invariant, c.weight.ensures.value, c.objective.ensures.value) at c.add_product-sum.ensures.value)
    ∙ sym (sum_to-more c.loop-rank.rank (λ r. weight_of s (profile_at (sizes_of s) r) *ℤ objective_at s c.args.mechanism.now (profile_at (sizes_of s) r)))

pub returns-clause-value : goal.returns-clause-value
returns-clause-value c =
    let s = c.args.setting.now in
    let end : c.loop-rank.rank ≡ profile_count (sizes_of s) = omega (arith, c.profiles-rank-end.ensures.count, ap profile_count c.space.ensures.sizes) in
    c.loop-rank.invariant
    ∙ ap (λ n. sum_to n (λ r. weight_of s (profile_at (sizes_of s) r) *ℤ objective_at s c.args.mechanism.now (profile_at (sizes_of s) r))) end
    ∙ sym (worth-by_rank s c.args.mechanism.now)

pub returns-clause-size : goal.returns-clause-size
returns-clause-size c =
    let s = c.args.setting.now in
    let fits : c.loop-rank.rank ≤ profile_count (sizes_of s) = omega (arith, c.profiles-rank-end.ensures.count, ap profile_count c.space.ensures.sizes) in
    subst (IsWithin (2 ^ 121)) (sym c.loop-rank.invariant) (worth-within s c.args.mechanism.now c.loop-rank.rank c.requires c.space.ensures.shaped fits)
