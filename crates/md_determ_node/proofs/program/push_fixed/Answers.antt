use Rattle.std.proofs.Common.{◌≡◌, ◌<◌, ◌∙◌, length, ap, subst, arith}
use Rattle.md_math.specs.Lists.{up_to}
use Rattle.md_space.specs.Profiles.{profile_count}
use Rattle.md_forms.specs.Built.{Extends}
use Rattle.md_forms.proofs.BuiltLaws.{extends-more, room-at, same_columns}
use Rattle.md_determ_node.specs.NodeProgram.{forms_at}
use Rattle.md_determ_node.proofs.Sizes.{fixed-room}
use Rattle.md_determ_node.proofs.program.push_fixed.Goals as goal

pub push_rank-requires-clause-rank_in : goal.push_rank-requires-clause-rank_in
push_rank-requires-clause-rank_in c =
    omega (arith, c.loop-rank-test.true, c.profiles-rank-end.ensures.count, ap profile_count c.space.ensures.sizes, c.requires.node.one_each)

pub push_rank-requires-clause-columns : goal.push_rank-requires-clause-columns
push_rank-requires-clause-columns c =
    same_columns (up_to c.loop-rank.rank (forms_at c.args.setting.now c.args.fixed.now)) c.args.lp.now c.loop-rank.lp c.loop-rank.invariant ∙ c.requires.columns

pub push_rank-requires-clause-room : goal.push_rank-requires-clause-room
push_rank-requires-clause-room c =
    let s = c.args.setting.now in
    let node = c.args.fixed.now in
    let below : c.loop-rank.rank < length node = omega (arith, c.loop-rank-test.true, c.profiles-rank-end.ensures.count, ap profile_count c.space.ensures.sizes, c.requires.node.one_each) in
    room-at (length node) c.loop-rank.rank (forms_at s node) c.args.lp.now c.loop-rank.lp (fixed-room s node c.args.lp.now c.space.ensures.shaped c.requires.node c.requires.count) below c.loop-rank.invariant

pub loop-rank-preserved : goal.loop-rank-preserved
loop-rank-preserved c =
    extends-more c.loop-rank.rank (forms_at c.args.setting.now c.args.fixed.now) c.args.lp.now c.loop-rank.lp c.push_rank.new.lp c.loop-rank.invariant c.in_ok-push_rank.ensures

pub returns : goal.returns
returns c =
    let node = c.args.fixed.now in
    let end : c.loop-rank.rank ≡ length node =
    omega (arith, c.loop-rank-test.false, c.loop-rank.auto.rank-end, c.profiles-rank-end.ensures.count, ap profile_count c.space.ensures.sizes, c.requires.node.one_each) in
    subst (λ n. Extends (up_to n (forms_at c.args.setting.now node)) c.args.lp.now c.loop-rank.lp) end c.loop-rank.invariant
