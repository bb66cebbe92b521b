use Rattle.std.proofs.Common.{◌≡◌, ◌<◌, pos, length, ap, ◌∙◌, arith, rules}
use Rattle.std.proofs.lemmas.Result.{err_from_is_err_and}
use Rattle.md_setting.specs.CountLists.{count_lists}
use Rattle.md_expost.specs.Masses.{rank_count}
use Rattle.md_answer.proofs.MassSteps.{masses-more, masses-fail, over-fails}
use Rattle.md_answer.proofs.MassesRead.{masses-known}
use Rattle.md_answer.proofs.mass_reading.read_masses.Goals as goal

pub loop-rank-preserved : goal.loop-rank-preserved
loop-rank-preserved c =
    let (numbers, one, items) = c.in_ok-read_rank.ensures in
    rw items (masses-more c.args.supply.now c.args.auction.now (pos c.den_of-den.result) c.loop-rank.rank c.args.reader.now c.loop-rank.reader c.read_rank.new.reader c.loop-rank.rows numbers c.loop-rank.invariant one)

pub returns-in_err-read_rank-clause-reads : goal.returns-in_err-read_rank-clause-reads
returns-in_err-read_rank-clause-reads c =
    let a = c.args.auction.now in
    let p = err_from_is_err_and c.from_residual-in_err-read_rank.result c.from_residual-in_err-read_rank.ensures.1 in
    let lists : c.len-rank-end.result ≡ rank_count a = c.len-rank-end.ensures.value ∙ ap (λ k. length (count_lists k.bidders k.kinds)) c.in_ok-counts.ensures.ok in
    let below : c.loop-rank.rank < rank_count a = omega (arith, c.loop-rank-test.true, lists) in
    rw (p.1, p.2) (λ ne.
    over-fails c.args.supply.now a (pos c.den_of-den.result) c.args.interim.now.den c.args.reader.now _ c.den_of-den.ensures.value (masses-fail c.args.supply.now a (pos c.den_of-den.result) (rank_count a) c.loop-rank.rank c.args.reader.now c.loop-rank.reader c.loop-rank.rows _ below c.loop-rank.invariant (c.in_err-read_rank.ensures ne)))

pub returns-clause-reads : goal.returns-clause-reads
returns-clause-reads c = search rules

pub returns-clause-known : goal.returns-clause-known
returns-clause-known c = (masses-known c.args.supply.now c.args.auction.now c.args.interim.now.den c.args.reader.now c.loop-rank.reader _ c.requires.den_positive c.requires.den_size (returns-clause-reads c)).0
