use Rattle.std.proofs.Common.{◌<◌, pos, length, sym, subst, arith}
use Rattle.std.specs.Prelude.{slice_index_or}
use Rattle.std.proofs.lemmas.List.{length-map}
use Rattle.md_math.proofs.FirstFailures.{HoldsBelow-more}
use Rattle.md_num.specs.declared.frac.Frac.{Frac}
use Rattle.md_list.specs.Lists.{rank_of, ranks_of}
use Rattle.md_list.specs.Valid.{level_at, IsPool}
use Rattle.md_list_check.specs.ListSums.{IsRecord}
use Rattle.md_list_check.specs.Levels.{IsLevel}
use Rattle.md_list_check.specs.Verdicts.{IsPoolAt}
use Rattle.md_list_check.proofs.LevelLaws.{level-default}
use Rattle.md_list_check.proofs.OrderLaws.{is-record}
use Rattle.md_list_check.proofs.VerdictLaws.{inside-verdict}
use Rattle.md_list_check.proofs.pools.inside_fault.Goals as goal

abbrev none : Frac
none = record { num = pos 0; den = pos 0 }

abbrev nothing : Frac
nothing = record { num = pos 0; den = pos 1 }

pub pool_fault-requires-clause-rank : goal.pool_fault-requires-clause-rank
pool_fault-requires-clause-rank c =
    let inside : c.loop-place.place < length (ranks_of c.args.ranks.now) = omega (arith, c.loop-place-test.true, length-map c.args.ranks.now rank_of) in
    subst (IsRecord c.args.auction.now) (sym c.rank_at.ensures) (is-record c.args.auction.now (ranks_of c.args.ranks.now) c.requires.form c.loop-place.place inside)

pub pool_fault-requires-clause-level : goal.pool_fault-requires-clause-level
pool_fault-requires-clause-level c =
    let inside : c.loop-place.place < length c.args.levels.now = omega (arith, c.loop-place-test.true, c.requires.one_each) in
    subst IsLevel (level-default c.args.levels.now c.loop-place.place nothing none inside) (c.requires.levels.each c.loop-place.place inside)

pub returns-in-Some : goal.returns-in-Some
returns-in-Some c =
    let inside : c.loop-place.place < length (ranks_of c.args.ranks.now) = omega (arith, c.loop-place-test.true, length-map c.args.ranks.now rank_of) in
    let there : c.loop-place.place < length c.args.levels.now = omega (arith, c.loop-place-test.true, c.requires.one_each) in
    inside-verdict c.args.auction.now (ranks_of c.args.ranks.now) c.args.levels.now c.loop-place.place (rank_of c.rank_at.result) (slice_index_or c.args.levels.now c.loop-place.place none) c.in-Some.fault inside c.rank_at.ensures
    (level-default c.args.levels.now c.loop-place.place none nothing there) c.loop-place.invariant (rw c.in-Some.is at c.in_ok-fault.ensures)

pub loop-place-preserved : goal.loop-place-preserved
loop-place-preserved c =
    let ranks = ranks_of c.args.ranks.now in
    let there : c.loop-place.place < length c.args.levels.now = omega (arith, c.loop-place-test.true, c.requires.one_each) in
    let pool : IsPool c.args.auction.now (rank_of c.rank_at.result) (slice_index_or c.args.levels.now c.loop-place.place none) = rw c.in_default.is at c.in_ok-fault.ensures in
    HoldsBelow-more (IsPoolAt c.args.auction.now ranks c.args.levels.now) c.loop-place.place c.loop-place.invariant
    (subst (λ r. IsPool c.args.auction.now r (level_at c.args.levels.now c.loop-place.place)) c.rank_at.ensures
    (subst (IsPool c.args.auction.now (rank_of c.rank_at.result)) (level-default c.args.levels.now c.loop-place.place none nothing there) pool))
