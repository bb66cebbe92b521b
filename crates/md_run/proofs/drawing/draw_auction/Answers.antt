use Rattle.md_run.proofs.MassLaws.{masses-lottery}
use Rattle.md_run.proofs.drawing.draw_auction.Goals as goal

pub returns-in-AuctionOptimal-clause-lottery : goal.returns-in-AuctionOptimal-clause-lottery
returns-in-AuctionOptimal-clause-lottery c =
    let fits = rw c.in-AuctionOptimal.is at c.requires.answers in
    rw c.in-AuctionOptimal.is (λ t p. masses-lottery c.args.auction.now c.in-AuctionOptimal.masses t c.draw_at.ensures.shaped fits.2 p)
