use Rattle.std.proofs.Common.{◌<◌, ap, subst, arith}
use Rattle.md_space.specs.Profiles.{profile_count, rank_of}
use Rattle.md_space.proofs.Ranks.{rank_of-below, profile_at-rank_of}
use Rattle.md_setting.specs.Meaning.{sizes_of}
use Rattle.md_determ_node.specs.Deterministic.{HasNoLottery}
use Rattle.md_determ_node.proofs.lottery.first_lottery.Goals as goal

pub returns : goal.returns
returns c = record {
  at = λ t profile.
      let s = c.args.setting.now in
      let below : rank_of (sizes_of s) t < profile_count (sizes_of s) = rank_of-below (sizes_of s) t profile in
      let inside : rank_of (sizes_of s) t < c.loop-rank.rank = omega (arith, below, c.loop-rank-test.false, c.profiles-rank-end.ensures.count, ap profile_count c.space.ensures.sizes) in
      subst (HasNoLottery s c.args.mechanism.now) (profile_at-rank_of (sizes_of s) t profile) (c.loop-rank.invariant.holds (rank_of (sizes_of s) t) inside);
}
