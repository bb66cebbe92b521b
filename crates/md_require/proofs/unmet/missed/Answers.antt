use Rattle.std.proofs.Common.{◌≡◌, ◌<◌, All, ◌∙◌, ap, subst, arith}
use Rattle.md_math.specs.Lists.{up_to}
use Rattle.md_space.specs.Profiles.{profile_count}
use Rattle.md_space.proofs.Walks.{profile_count-pos}
use Rattle.md_setting.specs.Meaning.{sizes_of}
use Rattle.md_require.specs.Conditions.{Stays}
use Rattle.md_require.specs.Named.{amounts_at}
use Rattle.md_require.proofs.FirstUnmet.{all-stay, missed-here, stay-next}
use Rattle.md_require.proofs.unmet.missed.Goals as goal

pub returns-in-Some : goal.returns-in-Some
returns-in-Some c =
    let s = c.args.setting.now in
    let count : c.profiles-rank-end.result ≡ profile_count (sizes_of s) = c.profiles-rank-end.ensures.count ∙ ap profile_count c.space.ensures.sizes in
    let below : c.loop-rank.rank < profile_count (sizes_of s) = omega (arith, c.loop-rank-test.true, count) in
    missed-here s c.args.mechanism.now c.args.condition.now c.loop-rank.rank c.args.number c.in-Some.unmet below c.loop-rank.invariant c.in-Some.ensures

pub loop-rank-preserved : goal.loop-rank-preserved
loop-rank-preserved c = stay-next c.args.setting.now c.args.mechanism.now c.args.condition.now c.loop-rank.rank c.loop-rank.invariant c.in_default.ensures

pub returns : goal.returns
returns c =
    let s = c.args.setting.now in
    let k = c.args.condition.now in
    let count : c.profiles-rank-end.result ≡ profile_count (sizes_of s) = c.profiles-rank-end.ensures.count ∙ ap profile_count c.space.ensures.sizes in
    let end : c.loop-rank.rank ≡ profile_count (sizes_of s) = omega (arith, count) in
    all-stay s c.args.mechanism.now k (profile_count-pos (sizes_of s) c.space.ensures.shaped.listed.space.some_type)
    (subst (λ n. All (Stays s c.args.mechanism.now k) (up_to n (amounts_at s k.measured))) end c.loop-rank.invariant)
