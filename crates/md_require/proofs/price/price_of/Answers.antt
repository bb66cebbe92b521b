use Rattle.std.proofs.Common.{◌≡◌, ◌<◌, length, ap, sym, ◌∙◌, subst, arith}
use Rattle.md_math.specs.Lists.{up_to}
use Rattle.md_space.specs.Profiles.{profile_count}
use Rattle.md_space.proofs.Walks.{profile_count-pos}
use Rattle.md_setting.specs.Meaning.{sizes_of}
use Rattle.md_require.specs.Amounts.{amounts_of}
use Rattle.md_require.specs.Named.{amounts_at}
use Rattle.md_require.specs.Prices.{IsPricedTo}
use Rattle.md_require.proofs.ConditionRows.{amounts-by_rank}
use Rattle.md_require.proofs.PriceLaws.{ranks-inside}
use Rattle.md_require.proofs.price.price_of.Goals as goal

pub with_rank-price-requires-clause-main : goal.with_rank-price-requires-clause-main
with_rank-price-requires-clause-main c =
    let s = c.args.setting.now in
    let n = profile_count (sizes_of s) in
    let count : c.profiles-rank-end.result ≡ n = c.profiles-rank-end.ensures.count ∙ ap profile_count c.space.ensures.sizes in
    let below : c.loop-rank.rank < n = omega (arith, c.loop-rank-test.true, count) in
    let all : length (amounts_of s c.args.measured) ≡ length (up_to n (amounts_at s c.args.measured)) = ap length (amounts-by_rank s c.args.measured (omega (arith, below))) in
    omega (arith, c.loop-rank.invariant.row_is, ranks-inside n c.loop-rank.rank (amounts_at s c.args.measured) below, all, c.requires.main)

pub returns : goal.returns
returns c =
    let s = c.args.setting.now in
    let count : c.profiles-rank-end.result ≡ profile_count (sizes_of s) = c.profiles-rank-end.ensures.count ∙ ap profile_count c.space.ensures.sizes in
    let end : c.loop-rank.rank ≡ profile_count (sizes_of s) = omega (arith, count) in
    subst (λ amounts. IsPricedTo s c.args.bound.now c.args.first amounts c.loop-rank.price)
    (ap (λ n. up_to n (amounts_at s c.args.measured)) end ∙ sym (amounts-by_rank s c.args.measured (profile_count-pos (sizes_of s) c.space.ensures.shaped.listed.space.some_type))) c.loop-rank.invariant
