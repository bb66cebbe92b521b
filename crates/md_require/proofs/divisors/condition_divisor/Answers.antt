use Rattle.std.proofs.Common.{◌≡◌, ◌<◌, [], ◌∷◌, ap, sym, ◌∙◌, arith}
use Rattle.std.proofs.lemmas.Result.{IfOk-weaker}
use Rattle.md_math.specs.Lists.{up_to}
use Rattle.md_space.specs.Profiles.{profile_count}
use Rattle.md_space.proofs.Walks.{profile_count-pos}
use Rattle.md_setting.specs.Meaning.{sizes_of}
use Rattle.md_require.specs.Amounts.{amounts_of}
use Rattle.md_require.specs.Limits.{IsNarrowFor}
use Rattle.md_require.specs.Named.{amounts_at, named}
use Rattle.md_require.proofs.ConditionRows.{amounts-by_rank, at-rank}
use Rattle.md_require.proofs.DivisorLaws.{divided-all, divided-none}
use Rattle.md_require.proofs.divisors.condition_divisor.Goals as goal

pub amount_divisor-requires-clause-narrow : goal.amount_divisor-requires-clause-narrow
amount_divisor-requires-clause-narrow c =
    let s = c.args.setting.now in
    let k = c.args.condition.now in
    let count : c.profiles-rank-end.result ≡ profile_count (sizes_of s) = c.profiles-rank-end.ensures.count ∙ ap profile_count c.space.ensures.sizes in
    at-rank s (IsNarrowFor s k) k.measured c.loop-rank.rank (named s c.in-Some.amount) (omega (arith, c.loop-rank-test.true, count)) (rw c.in-Some.is at c.amount_at.ensures.amounts) c.requires.narrow

pub returns-in-Some-clause-divisor : goal.returns-in-Some-clause-divisor
returns-in-Some-clause-divisor c =
    let s = c.args.setting.now in
    let k = c.args.condition.now in
    let count : c.profiles-rank-end.result ≡ profile_count (sizes_of s) = c.profiles-rank-end.ensures.count ∙ ap profile_count c.space.ensures.sizes in
    let below : c.loop-rank.rank < profile_count (sizes_of s) = omega (arith, c.loop-rank-test.true, count) in
    let here : named s c.in-Some.amount ∷ [] ≡ amounts_at s k.measured c.loop-rank.rank = rw c.in-Some.is at c.amount_at.ensures.amounts in
    IfOk-weaker c.amount_divisor.result _ _ (λ by divides. divided-all s k by c.loop-rank.rank (named s c.in-Some.amount) c.requires.place below here divides) c.amount_divisor.ensures.divisor

pub returns-clause-divisor : goal.returns-clause-divisor
returns-clause-divisor c =
    let s = c.args.setting.now in
    let k = c.args.condition.now in
    let count : c.profiles-rank-end.result ≡ profile_count (sizes_of s) = c.profiles-rank-end.ensures.count ∙ ap profile_count c.space.ensures.sizes in
    let end : c.loop-rank.rank ≡ profile_count (sizes_of s) = omega (arith, count) in
    let none : amounts_of s k.measured ≡ [] =
    amounts-by_rank s k.measured (profile_count-pos (sizes_of s) c.space.ensures.shaped.listed.space.some_type) ∙ ap (λ n. up_to n (amounts_at s k.measured)) (sym end) ∙ c.loop-rank.invariant in
    divided-none s k none
