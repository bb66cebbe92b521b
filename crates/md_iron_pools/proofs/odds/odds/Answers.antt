use Rattle.std.proofs.Common.{◌≡◌, sym, subst, arith}
use Rattle.md_math.proofs.Bits.{read_result}
use Rattle.md_setting.specs.Auction.{value_count}
use Rattle.md_iron_pools.specs.Odds.{AreOddsTo, IsOddsOf}
use Rattle.md_iron_pools.specs.Pooling.{pools_of}
use Rattle.md_iron_pools.proofs.InterimLaws.{AreOddsTo-none, AreOddsTo-push, small-odds}
use Rattle.md_iron_pools.proofs.odds.odds.Goals as goal

pub loop-kind-init : goal.loop-kind-init
loop-kind-init c = AreOddsTo-none c.args.auction.now c.args.units (pools_of c.args.pools.now) c.new-odds.result c.new-odds.ensures

pub loop-kind-preserved : goal.loop-kind-preserved
loop-kind-preserved c =
    let a = c.args.auction.now in
    let pools = pools_of c.args.pools.now in
    AreOddsTo-push a c.args.units pools c.loop-kind.kind c.loop-kind.odds _ _ c.loop-kind.invariant c.in_ok-push.ensures.ok
    (subst (IsOddsOf a c.args.units pools c.loop-kind.kind) (sym (read_result c.odds_of.result c.odds_of.type_inv)) c.odds_of.ensures)

pub returns-clause-odds : goal.returns-clause-odds
returns-clause-odds c =
    let whole : c.loop-kind.kind ≡ value_count c.args.auction.now = omega (arith, c.loop-kind-test.false, c.loop-kind.auto.kind-end, c.kinds-kind-end.ensures.count) in
    subst (λ n. AreOddsTo c.args.auction.now c.args.units (pools_of c.args.pools.now) n c.loop-kind.odds) whole c.loop-kind.invariant

pub returns-clause-small : goal.returns-clause-small
returns-clause-small c =
    small-odds c.args.auction.now c.args.units (pools_of c.args.pools.now) c.loop-kind.odds c.kinds-kind-end.ensures.shaped c.requires.pooling.pooled (returns-clause-odds c)
