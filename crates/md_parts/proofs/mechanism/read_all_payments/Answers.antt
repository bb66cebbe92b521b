use Rattle.std.proofs.lemmas.Result.{err_from_is_err_and}
use Rattle.md_setting.specs.Meaning.{sizes_of}
use Rattle.md_parts.specs.Table.{payments_of}
use Rattle.md_parts.proofs.EachProfile.{read-more, read-fails, read-all}
use Rattle.md_parts.proofs.TableSteps.{rank-count, rank-end}
use Rattle.md_parts.proofs.mechanism.read_all_payments.Goals as goal

pub returns-in_err-read_payments : goal.returns-in_err-read_payments
returns-in_err-read_payments c =
    let p = err_from_is_err_and c.from_residual.result c.from_residual.ensures.1 in
    let below = rank-count c.args.setting.now c.space.result.now c.loop-rank.rank _ c.space.ensures.sizes c.profiles-rank-end.ensures.count c.loop-rank-test.true in
    rw (p.1, p.2) (λ ne. read-fails (sizes_of c.args.setting.now) (payments_of c.args.word.now c.args.setting.now) c.loop-rank.rank c.args.reader.now c.loop-rank.reader c.loop-rank.pays _ below c.loop-rank.invariant (c.in_err-read_payments.ensures ne))

pub loop-rank-preserved : goal.loop-rank-preserved
loop-rank-preserved c =
    let one = c.in_ok-read_payments.ensures in
    let below = rank-count c.args.setting.now c.space.result.now c.loop-rank.rank _ c.space.ensures.sizes c.profiles-rank-end.ensures.count c.loop-rank-test.true in
    rw one.2 (read-more (sizes_of c.args.setting.now) (payments_of c.args.word.now c.args.setting.now) c.loop-rank.rank c.args.reader.now c.loop-rank.reader c.read_payments.new.reader c.loop-rank.pays one.0 below c.loop-rank.invariant one.1)

pub returns : goal.returns
returns c =
    let past = rank-end c.args.setting.now c.space.result.now c.loop-rank.rank _ c.space.ensures.sizes c.profiles-rank-end.ensures.count c.loop-rank-test.false in
    read-all (sizes_of c.args.setting.now) (payments_of c.args.word.now c.args.setting.now) c.loop-rank.rank c.args.reader.now c.loop-rank.reader c.loop-rank.pays past c.loop-rank.invariant
