use Rattle.std.proofs.Common.{to_z, ◌≡◌, ◌≤◌, ◌+◌, ◌*◌, ◌^◌, ◌+ℤ◌, ◌∙◌, arith, ap, sym, lit<}
use mir.Syntax.{w128}
use Rattle.md_math.specs.Sizes.{IsWithin}
use Rattle.md_math.specs.Sums.{sum_to}
use Rattle.md_math.proofs.SizeLaws.{IsWithin-+ℤ, fits_from_IsWithin}
use Rattle.md_math.proofs.SumLaws.{sum_to-more}
use Rattle.md_math.proofs.Bits.{read_result, read_within}
use Rattle.md_space.specs.Profiles.{profile_count}
use Rattle.md_setting.specs.Meaning.{sizes_of}
use Rattle.md_report.proofs.ExpectedLaws.{given_term, given-by_rank, given-within}
use Rattle.md_report.proofs.averages.over_type.Goals as goal

pub overflow_add-total : goal.overflow_add-total
overflow_add-total c =
    let s = c.args.setting.now in
    let fits : c.loop-rank.rank ≤ profile_count (sizes_of s) = omega (arith, c.profiles-rank-end.ensures.count, ap profile_count c.space.ensures.sizes) in
    let before : IsWithin (2 ^ 122) (to_z w128 c.loop-rank.total-bits) =
    rw c.loop-rank.invariant (given-within s c.args.mechanism.now c.args.agent c.args.kind c.loop-rank.rank c.args.measure c.requires.numbers c.space.ensures.shaped fits) in
    rw (read_result c.term-total.result c.term-total.type_inv)
    (fits_from_IsWithin w128 (2 ^ 122 + 1000000 * 2 ^ 91) (to_z w128 c.loop-rank.total-bits +ℤ c.term-total.result)
    (IsWithin-+ℤ (2 ^ 122) (1000000 * 2 ^ 91) (to_z w128 c.loop-rank.total-bits) c.term-total.result before c.term-total.ensures.size) (lit< tt))

pub loop-rank-preserved : goal.loop-rank-preserved
loop-rank-preserved c =
    let s = c.args.setting.now in
    let fits : c.loop-rank.rank ≤ profile_count (sizes_of s) = omega (arith, c.profiles-rank-end.ensures.count, ap profile_count c.space.ensures.sizes) in
    let before : IsWithin (2 ^ 122) (to_z w128 c.loop-rank.total-bits) =
    rw c.loop-rank.invariant (given-within s c.args.mechanism.now c.args.agent c.args.kind c.loop-rank.rank c.args.measure c.requires.numbers c.space.ensures.shaped fits) in
    rw (read_result c.term-total.result c.term-total.type_inv)
    (read_within (2 ^ 122 + 1000000 * 2 ^ 91) (to_z w128 c.loop-rank.total-bits +ℤ c.term-total.result)
    (IsWithin-+ℤ (2 ^ 122) (1000000 * 2 ^ 91) (to_z w128 c.loop-rank.total-bits) c.term-total.result before c.term-total.ensures.size) (lit< tt)
    ∙ rw (c.loop-rank.invariant, c.term-total.ensures.value) (sym (sum_to-more c.loop-rank.rank (given_term s c.args.mechanism.now c.args.agent c.args.kind c.args.measure))))

pub returns-clause-value : goal.returns-clause-value
returns-clause-value c =
    let s = c.args.setting.now in
    let end : c.loop-rank.rank ≡ profile_count (sizes_of s) = omega (arith, c.profiles-rank-end.ensures.count, ap profile_count c.space.ensures.sizes) in
    c.loop-rank.invariant
    ∙ ap (λ n. sum_to n (given_term s c.args.mechanism.now c.args.agent c.args.kind c.args.measure)) end
    ∙ sym (given-by_rank s c.args.mechanism.now c.args.agent c.args.kind c.args.measure)

pub returns-clause-size : goal.returns-clause-size
returns-clause-size c =
    let s = c.args.setting.now in
    let fits : c.loop-rank.rank ≤ profile_count (sizes_of s) = omega (arith, c.profiles-rank-end.ensures.count, ap profile_count c.space.ensures.sizes) in
    rw c.loop-rank.invariant (given-within s c.args.mechanism.now c.args.agent c.args.kind c.loop-rank.rank c.args.measure c.requires.numbers c.space.ensures.shaped fits)
