use Rattle.std.proofs.Common.{◌≡◌, ◌<◌, ◌∙◌, ap, sym, subst, arith}
use Rattle.md_math.specs.Lists.{up_to}
use Rattle.md_math.proofs.Builders.{up_to-more}
use Rattle.md_space.specs.Profiles.{profile_count}
use Rattle.md_space.proofs.Walks.{profile_count-pos}
use Rattle.md_setting.specs.Meaning.{sizes_of}
use Rattle.md_require.specs.Amounts.{amounts_of}
use Rattle.md_require.specs.Furthest.{IsFurthest, IsFurthestIfAny}
use Rattle.md_require.specs.Named.{amounts_at}
use Rattle.md_require.proofs.ConditionRows.{amounts-by_rank}
use Rattle.md_require.proofs.StandingLaws.{some_amount}
use Rattle.md_require.proofs.standing.furthest_of.Goals as goal

pub loop-rank-preserved : goal.loop-rank-preserved
loop-rank-preserved c =
    let s = c.args.setting.now in
    let k = c.args.condition.now in
    subst (λ xs. IsFurthestIfAny s c.args.mechanism.now k.side xs c.with_rank-found.result) (sym (up_to-more c.loop-rank.rank (amounts_at s k.measured)))
    (c.with_rank-found.ensures (up_to c.loop-rank.rank (amounts_at s k.measured)) c.loop-rank.invariant)

pub unreachable-requires : goal.unreachable-requires
unreachable-requires c =
    let s = c.args.setting.now in
    let k = c.args.condition.now in
    let some : 0 < profile_count (sizes_of s) = profile_count-pos (sizes_of s) c.space.ensures.shaped.listed.space.some_type in
    let count : c.profiles-rank-end.result ≡ profile_count (sizes_of s) = c.profiles-rank-end.ensures.count ∙ ap profile_count c.space.ensures.sizes in
    let end : c.loop-rank.rank ≡ profile_count (sizes_of s) = omega (arith, count) in
    some_amount s k.measured some c.requires.condition.place
    (amounts-by_rank s k.measured some ∙ ap (λ n. up_to n (amounts_at s k.measured)) (sym end) ∙ rw c.in-None.is at c.loop-rank.invariant)

pub returns : goal.returns
returns c =
    let s = c.args.setting.now in
    let k = c.args.condition.now in
    let some : 0 < profile_count (sizes_of s) = profile_count-pos (sizes_of s) c.space.ensures.shaped.listed.space.some_type in
    let count : c.profiles-rank-end.result ≡ profile_count (sizes_of s) = c.profiles-rank-end.ensures.count ∙ ap profile_count c.space.ensures.sizes in
    let end : c.loop-rank.rank ≡ profile_count (sizes_of s) = omega (arith, count) in
    let all : up_to c.loop-rank.rank (amounts_at s k.measured) ≡ amounts_of s k.measured =
    ap (λ n. up_to n (amounts_at s k.measured)) end ∙ sym (amounts-by_rank s k.measured some) in
    subst (λ amounts. IsFurthest s c.args.mechanism.now k.side amounts c.in-Some.figure) all (rw c.in-Some.is at c.loop-rank.invariant)
