use Rattle.std.proofs.Common.{to_z, ◌≡◌, ◌+◌, ◌*◌, ◌^◌, ◌+ℤ◌, ◌∙◌, arith, ap, sym, lit<, subst}
use mir.Syntax.{w128}
use Rattle.md_math.specs.Sizes.{IsWithin}
use Rattle.md_math.specs.Sums.{sum_to}
use Rattle.md_math.proofs.SizeLaws.{IsWithin-+ℤ, fits_from_IsWithin}
use Rattle.md_math.proofs.SumLaws.{sum_to-more}
use Rattle.md_math.proofs.Bits.{read_result, read_within}
use Rattle.md_space.specs.Profiles.{profile_at, profile_count}
use Rattle.md_setting.specs.Meaning.{sizes_of}
use Rattle.md_mech.specs.Utility.{average_term}
use Rattle.md_mech.proofs.AverageLaws.{average-within, average-by_rank}
use Rattle.md_mech.proofs.averages.average.Goals as goal

pub overflow_add-sum : goal.overflow_add-sum
overflow_add-sum c =
    let s = c.args.setting.now in
    let count : c.profiles-rank-end.result ≡ profile_count (sizes_of s) = c.profiles-rank-end.ensures.count ∙ ap profile_count c.space.ensures.sizes in
    let before : IsWithin (1024 * (1000000 * 2 ^ 90)) (to_z w128 c.loop-rank.sum-bits) =
    rw c.loop-rank.invariant (average-within s c.args.mechanism.now c.args.agent c.args.kind c.args.report c.loop-rank.rank c.requires.accepted c.space.ensures.shaped (omega (arith, count))) in
    rw (read_result c.term_at-sum.result c.term_at-sum.type_inv)
    (fits_from_IsWithin w128 (1024 * (1000000 * 2 ^ 90) + 1000000 * 2 ^ 90) (to_z w128 c.loop-rank.sum-bits +ℤ c.term_at-sum.result)
    (IsWithin-+ℤ (1024 * (1000000 * 2 ^ 90)) (1000000 * 2 ^ 90) (to_z w128 c.loop-rank.sum-bits) c.term_at-sum.result before c.term_at-sum.ensures.size) (lit< tt))

pub loop-rank-preserved : goal.loop-rank-preserved
loop-rank-preserved c =
    let s = c.args.setting.now in
    let count : c.profiles-rank-end.result ≡ profile_count (sizes_of s) = c.profiles-rank-end.ensures.count ∙ ap profile_count c.space.ensures.sizes in
    let before : IsWithin (1024 * (1000000 * 2 ^ 90)) (to_z w128 c.loop-rank.sum-bits) =
    rw c.loop-rank.invariant (average-within s c.args.mechanism.now c.args.agent c.args.kind c.args.report c.loop-rank.rank c.requires.accepted c.space.ensures.shaped (omega (arith, count))) in
    rw (read_result c.term_at-sum.result c.term_at-sum.type_inv)
    (read_within (1024 * (1000000 * 2 ^ 90) + 1000000 * 2 ^ 90) (to_z w128 c.loop-rank.sum-bits +ℤ c.term_at-sum.result)
    (IsWithin-+ℤ (1024 * (1000000 * 2 ^ 90)) (1000000 * 2 ^ 90) (to_z w128 c.loop-rank.sum-bits) c.term_at-sum.result before c.term_at-sum.ensures.size) (lit< tt)
    ∙ rw (c.loop-rank.invariant, c.term_at-sum.ensures.value) (sym (sum_to-more c.loop-rank.rank (λ r. average_term s c.args.mechanism.now c.args.agent c.args.kind c.args.report (profile_at (sizes_of s) r)))))

pub returns : goal.returns
returns c =
    let s = c.args.setting.now in
    let count : c.profiles-rank-end.result ≡ profile_count (sizes_of s) = c.profiles-rank-end.ensures.count ∙ ap profile_count c.space.ensures.sizes in
    let end : c.loop-rank.rank ≡ profile_count (sizes_of s) = omega (arith, count) in
    let sum = subst (λ n. to_z w128 c.loop-rank.sum-bits ≡ sum_to n (λ r. average_term s c.args.mechanism.now c.args.agent c.args.kind c.args.report (profile_at (sizes_of s) r))) end c.loop-rank.invariant in
    record { value = sum ∙ sym (average-by_rank s c.args.mechanism.now c.args.agent c.args.kind c.args.report) }
