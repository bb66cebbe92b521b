use Rattle.md_run.proofs.UnitLaws.{units-lottery}
use Rattle.md_run.proofs.drawing_units.draw_units.Goals as goal

pub returns-in-AuctionOptimal-clause-lottery : goal.returns-in-AuctionOptimal-clause-lottery
returns-in-AuctionOptimal-clause-lottery c =
    rw c.in-AuctionOptimal.is (λ units fits t p. units-lottery c.args.auction.now units c.in-AuctionOptimal.masses t c.draw_units_at.ensures.shaped fits.2 p)
