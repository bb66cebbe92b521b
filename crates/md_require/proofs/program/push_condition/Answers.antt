use Rattle.std.proofs.Common.{◌≡◌, ◌<◌, sym, ap, ◌∙◌, subst, arith}
use Rattle.md_math.specs.Lists.{up_to}
use Rattle.md_space.specs.Profiles.{profile_count}
use Rattle.md_space.proofs.Walks.{profile_count-pos}
use Rattle.md_setting.specs.Meaning.{sizes_of}
use Rattle.md_forms.specs.Built.{Extends, HasRoom}
use Rattle.md_forms.proofs.BuiltLaws.{extends-more, room-at, same_columns}
use Rattle.md_require.specs.Named.{forms_at}
use Rattle.md_require.proofs.ConditionRows.{forms-by_rank}
use Rattle.md_require.proofs.program.push_condition.Goals as goal

pub push_rank-requires-clause-columns : goal.push_rank-requires-clause-columns
push_rank-requires-clause-columns c = same_columns (up_to c.loop-rank.rank (forms_at c.args.setting.now c.args.condition.now)) c.args.lp.now c.loop-rank.lp c.loop-rank.invariant ∙ c.requires.columns

pub push_rank-requires-clause-room : goal.push_rank-requires-clause-room
push_rank-requires-clause-room c =
    let s = c.args.setting.now in
    let n = profile_count (sizes_of s) in
    let count : c.profiles-rank-end.result ≡ n = c.profiles-rank-end.ensures.count ∙ ap profile_count c.space.ensures.sizes in
    let below : c.loop-rank.rank < n = omega (arith, c.loop-rank-test.true, count) in
    room-at n c.loop-rank.rank (forms_at s c.args.condition.now) c.args.lp.now c.loop-rank.lp
    (subst (λ fs. HasRoom fs c.args.lp.now) (forms-by_rank s c.args.condition.now (omega (arith, below))) c.requires.room) below c.loop-rank.invariant

pub loop-rank-preserved : goal.loop-rank-preserved
loop-rank-preserved c = extends-more c.loop-rank.rank (forms_at c.args.setting.now c.args.condition.now) c.args.lp.now c.loop-rank.lp c.push_rank.new.lp c.loop-rank.invariant c.in_ok-push_rank.ensures

pub returns : goal.returns
returns c =
    let s = c.args.setting.now in
    let count : c.profiles-rank-end.result ≡ profile_count (sizes_of s) = c.profiles-rank-end.ensures.count ∙ ap profile_count c.space.ensures.sizes in
    let end : c.loop-rank.rank ≡ profile_count (sizes_of s) = omega (arith, count) in
    subst (λ fs. Extends fs c.args.lp.now c.loop-rank.lp) (ap (λ n. up_to n (forms_at s c.args.condition.now)) end ∙ sym (forms-by_rank s c.args.condition.now (profile_count-pos (sizes_of s) c.space.ensures.shaped.listed.space.some_type))) c.loop-rank.invariant
