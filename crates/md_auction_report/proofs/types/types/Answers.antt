use Rattle.std.proofs.Common.{◌≡◌, ◌+◌, sym, subst, arith}
use Rattle.md_setting.specs.Auction.{value_count}
use Rattle.md_auction_report.specs.Types.{AreTold}
use Rattle.md_auction_report.proofs.TypeLaws.{told-more}
use Rattle.md_auction_report.proofs.types.types.Goals as goal

pub loop-kind-preserved : goal.loop-kind-preserved
loop-kind-preserved c =
    subst (AreTold c.args.auction.now c.args.interim.now (c.loop-kind.kind + 1)) (sym c.in_ok-push.ensures.items)
    (told-more c.args.auction.now c.args.interim.now c.loop-kind.kind c.loop-kind.told.items c.value_numbers.result c.loop-kind.invariant c.value_numbers.ensures.told c.value_numbers.ensures.kind)

pub returns-clause-told : goal.returns-clause-told
returns-clause-told c =
    let end : c.loop-kind.kind ≡ value_count c.args.auction.now = omega (arith, c.loop-kind-test.false, c.loop-kind.auto.kind-end, c.kinds-kind-end.ensures.count) in
    subst (λ n. AreTold c.args.auction.now c.args.interim.now n c.loop-kind.told.items) end c.loop-kind.invariant
