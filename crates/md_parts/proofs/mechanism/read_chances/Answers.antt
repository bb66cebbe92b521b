use Rattle.std.proofs.Common.{◌≡◌, to_z, of_z}
use mir.Syntax.{w128}
use Rattle.std.proofs.lemmas.Int.{to_z-of_z}
use Rattle.std.proofs.lemmas.Result.{err_from_is_err_and}
use Rattle.md_setting.specs.Meaning.{sizes_of}
use Rattle.md_parts.specs.Table.{lottery_of}
use Rattle.md_parts.proofs.EachProfile.{read-more, read-fails, read-all}
use Rattle.md_parts.proofs.TableSteps.{rank-count, rank-end}
use Rattle.md_parts.proofs.mechanism.read_chances.Goals as goal

pub returns-in_err-read_lottery : goal.returns-in_err-read_lottery
returns-in_err-read_lottery c =
    let p = err_from_is_err_and c.from_residual.result c.from_residual.ensures.1 in
    let den_is : to_z w128 (of_z w128 c.args.den) ≡ c.args.den = to_z-of_z w128 c.args.den c.ranges.den in
    let so_far = rw den_is at c.loop-rank.invariant in
    let one = rw den_is at c.in_err-read_lottery.ensures in
    let below = rank-count c.args.setting.now c.space.result.now c.loop-rank.rank _ c.space.ensures.sizes c.profiles-rank-end.ensures.count c.loop-rank-test.true in
    rw (p.1, p.2) (λ ne. read-fails (sizes_of c.args.setting.now) (lottery_of c.args.setting.now c.args.den) c.loop-rank.rank c.args.reader.now c.loop-rank.reader c.loop-rank.chances _ below so_far (one ne))

pub loop-rank-preserved : goal.loop-rank-preserved
loop-rank-preserved c =
    let one = c.in_ok-read_lottery.ensures in
    let below = rank-count c.args.setting.now c.space.result.now c.loop-rank.rank _ c.space.ensures.sizes c.profiles-rank-end.ensures.count c.loop-rank-test.true in
    rw one.2 (read-more (sizes_of c.args.setting.now) (lottery_of c.args.setting.now (to_z w128 (of_z w128 c.args.den))) c.loop-rank.rank c.args.reader.now c.loop-rank.reader c.read_lottery.new.reader c.loop-rank.chances one.0 below c.loop-rank.invariant one.1)

pub returns : goal.returns
returns c =
    let den_is : to_z w128 (of_z w128 c.args.den) ≡ c.args.den = to_z-of_z w128 c.args.den c.ranges.den in
    let so_far = rw den_is at c.loop-rank.invariant in
    let past = rank-end c.args.setting.now c.space.result.now c.loop-rank.rank _ c.space.ensures.sizes c.profiles-rank-end.ensures.count c.loop-rank-test.false in
    read-all (sizes_of c.args.setting.now) (lottery_of c.args.setting.now c.args.den) c.loop-rank.rank c.args.reader.now c.loop-rank.reader c.loop-rank.chances past so_far
