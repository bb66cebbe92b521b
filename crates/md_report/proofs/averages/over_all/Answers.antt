use Rattle.std.proofs.Common.{◌≡◌, ◌≤◌, ◌^◌, to_z, ap, sym, ◌∙◌, subst, arith, lit<}
use mir.Syntax.{w128}
use Rattle.md_math.specs.Sizes.{IsWithin}
use Rattle.md_math.specs.Sums.{sum_to}
use Rattle.md_math.proofs.SumLaws.{sum_to-more}
use Rattle.md_math.proofs.Bits.{read_result}
use Rattle.md_space.specs.Profiles.{profile_count}
use Rattle.md_setting.specs.Meaning.{sizes_of}
use Rattle.md_mech.proofs.WorthLaws.{step_fits}
use Rattle.md_report.proofs.ExpectedLaws.{sum_term, weighted-by_rank, weighted-within}
use Rattle.md_report.proofs.averages.over_all.Goals as goal

pub add_product-total-requires : goal.add_product-total-requires
add_product-total-requires c =
    let s = c.args.setting.now in
    let fits : c.loop-rank.rank ≤ profile_count (sizes_of s) = omega (arith, c.profiles-rank-end.ensures.count, ap profile_count c.space.ensures.sizes) in
    let before : IsWithin (2 ^ 125) (to_z w128 c.loop-rank.total-bits) =
    subst (IsWithin (2 ^ 125)) (sym c.loop-rank.invariant) (weighted-within s c.args.mechanism.now c.args.measure c.loop-rank.rank c.requires c.space.ensures.shaped fits) in
    rw (read_result c.weight.result c.weight.type_inv, read_result c.sum.result c.sum.type_inv)
    (step_fits (to_z w128 c.loop-rank.total-bits) c.weight.result c.sum.result (2 ^ 125) 1000000 (2 ^ 94) before c.weight.ensures.size c.sum.ensures.size (lit< tt))

pub loop-rank-preserved : goal.loop-rank-preserved
loop-rank-preserved c =
    let s = c.args.setting.now in
    read_result c.add_product-total.result c.add_product-total.type_inv
    ∙ (rw (read_result c.weight.result c.weight.type_inv, read_result c.sum.result c.sum.type_inv, c.loop-rank.invariant, c.weight.ensures.value, c.sum.ensures.value) at c.add_product-total.ensures.value)
    ∙ sym (sum_to-more c.loop-rank.rank (sum_term s c.args.mechanism.now c.args.measure))

pub returns-clause-value : goal.returns-clause-value
returns-clause-value c =
    let s = c.args.setting.now in
    let end : c.loop-rank.rank ≡ profile_count (sizes_of s) = omega (arith, c.profiles-rank-end.ensures.count, ap profile_count c.space.ensures.sizes) in
    c.loop-rank.invariant
    ∙ ap (λ n. sum_to n (sum_term s c.args.mechanism.now c.args.measure)) end
    ∙ sym (weighted-by_rank s c.args.mechanism.now c.args.measure)

pub returns-clause-size : goal.returns-clause-size
returns-clause-size c =
    let s = c.args.setting.now in
    let fits : c.loop-rank.rank ≤ profile_count (sizes_of s) = omega (arith, c.profiles-rank-end.ensures.count, ap profile_count c.space.ensures.sizes) in
    subst (IsWithin (2 ^ 125)) (sym c.loop-rank.invariant) (weighted-within s c.args.mechanism.now c.args.measure c.loop-rank.rank c.requires c.space.ensures.shaped fits)
