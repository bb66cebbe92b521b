use Rattle.std.proofs.Common.{to_z, ◌≡◌, ◌+◌, ◌^◌, ◌+ℤ◌, ◌∙◌, arith, ap, sym, lit<, subst}
use mir.Syntax.{w128}
use Rattle.md_math.specs.Sizes.{IsWithin}
use Rattle.md_math.specs.Sums.{sum_to}
use Rattle.md_math.proofs.SizeLaws.{IsWithin-+ℤ, fits_from_IsWithin}
use Rattle.md_math.proofs.SumLaws.{sum_to-more}
use Rattle.md_math.proofs.Bits.{read_result, read_within}
use Rattle.md_space.specs.Profiles.{profile_count}
use Rattle.md_setting.specs.Meaning.{sizes_of}
use Rattle.md_require.specs.Named.{named}
use Rattle.md_require.specs.Parts.{rank_adds}
use Rattle.md_require.proofs.AmountLaws.{inside-placed}
use Rattle.md_require.proofs.PartLaws.{scaled-amount}
use Rattle.md_require.proofs.ToldSizes.{ranks-within}
use Rattle.md_require.proofs.told.told.Goals as goal

pub overflow_add-sum : goal.overflow_add-sum
overflow_add-sum c =
    let s = c.args.setting.now in
    let count : c.profiles-rank-end.result ≡ profile_count (sizes_of s) = c.profiles-rank-end.ensures.count ∙ ap profile_count c.space.ensures.sizes in
    let before : IsWithin (2 ^ 121) (to_z w128 c.loop-rank.sum-bits) =
    rw c.loop-rank.invariant (ranks-within s c.args.mechanism.now c.args.scaled.now.scale (named s c.args.scaled.now.amount) c.requires.scaled.narrow c.requires.accepted c.loop-rank.rank (omega (arith, count)) c.space.ensures.shaped) in
    rw (read_result c.rank_told-sum.result c.rank_told-sum.type_inv)
    (fits_from_IsWithin w128 (2 ^ 121 + 2 ^ 111) (to_z w128 c.loop-rank.sum-bits +ℤ c.rank_told-sum.result)
    (IsWithin-+ℤ (2 ^ 121) (2 ^ 111) (to_z w128 c.loop-rank.sum-bits) c.rank_told-sum.result before c.rank_told-sum.ensures.size) (lit< tt))

pub loop-rank-preserved : goal.loop-rank-preserved
loop-rank-preserved c =
    let s = c.args.setting.now in
    let count : c.profiles-rank-end.result ≡ profile_count (sizes_of s) = c.profiles-rank-end.ensures.count ∙ ap profile_count c.space.ensures.sizes in
    let before : IsWithin (2 ^ 121) (to_z w128 c.loop-rank.sum-bits) =
    rw c.loop-rank.invariant (ranks-within s c.args.mechanism.now c.args.scaled.now.scale (named s c.args.scaled.now.amount) c.requires.scaled.narrow c.requires.accepted c.loop-rank.rank (omega (arith, count)) c.space.ensures.shaped) in
    rw (read_result c.rank_told-sum.result c.rank_told-sum.type_inv)
    (read_within (2 ^ 121 + 2 ^ 111) (to_z w128 c.loop-rank.sum-bits +ℤ c.rank_told-sum.result)
    (IsWithin-+ℤ (2 ^ 121) (2 ^ 111) (to_z w128 c.loop-rank.sum-bits) c.rank_told-sum.result before c.rank_told-sum.ensures.size) (lit< tt)
    ∙ rw (c.loop-rank.invariant, c.rank_told-sum.ensures.value) (sym (sum_to-more c.loop-rank.rank (rank_adds s c.args.mechanism.now c.args.scaled.now.scale (named s c.args.scaled.now.amount)))))

pub returns : goal.returns
returns c =
    let s = c.args.setting.now in
    let count : c.profiles-rank-end.result ≡ profile_count (sizes_of s) = c.profiles-rank-end.ensures.count ∙ ap profile_count c.space.ensures.sizes in
    let end : c.loop-rank.rank ≡ profile_count (sizes_of s) = omega (arith, count) in
    let sum = subst (λ n. to_z w128 c.loop-rank.sum-bits ≡ sum_to n (rank_adds s c.args.mechanism.now c.args.scaled.now.scale (named s c.args.scaled.now.amount))) end c.loop-rank.invariant in
    record {
      value = sum ∙ scaled-amount s c.args.mechanism.now c.args.scaled.now.scale (named s c.args.scaled.now.amount) (inside-placed s c.args.scaled.now.amount c.requires.scaled.inside);
      size = rw c.loop-rank.invariant (ranks-within s c.args.mechanism.now c.args.scaled.now.scale (named s c.args.scaled.now.amount) c.requires.scaled.narrow c.requires.accepted c.loop-rank.rank (omega (arith, count)) c.space.ensures.shaped);
    }
