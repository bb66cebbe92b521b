use Rattle.std.proofs.Common.{◌<◌, length, sym, subst, arith}
use Rattle.std.proofs.lemmas.List.{length-map}
use Rattle.md_list.specs.Lists.{rank_of, ranks_of}
use Rattle.md_list_check.specs.ListSums.{IsRecord}
use Rattle.md_list_check.proofs.OrderLaws.{is-record}
use Rattle.md_list_check.proofs.order.list_sums.Goals as goal

pub rank_sums-requires : goal.rank_sums-requires
rank_sums-requires c =
    let inside : c.loop-place.place < length (ranks_of c.args.ranks.now) = omega (arith, c.loop-place-test.true, length-map c.args.ranks.now rank_of) in
    subst (IsRecord c.args.auction.now) (sym c.rank_at.ensures) (is-record c.args.auction.now (ranks_of c.args.ranks.now) c.requires c.loop-place.place inside)
