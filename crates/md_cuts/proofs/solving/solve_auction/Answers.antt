use Rattle.md_cuts.proofs.AuctionEnds.{odds-with, optimal-with, pays-with, solved-with, tells-with}
use Rattle.md_cuts.proofs.solving.solve_auction.Goals as goal

pub returns-in-Ok-clause-solved : goal.returns-in-Ok-clause-solved
returns-in-Ok-clause-solved c = solved-with c.args.auction.now c.args.width c.in-Ok.end.cuts c.in-Ok.end.optimum c.in-Ok.end.table c.in-Ok.ensures.shows c.in-Ok.ensures.ends c.in-Ok.ensures.shown

pub returns-in-Ok-clause-optimal : goal.returns-in-Ok-clause-optimal
returns-in-Ok-clause-optimal c =
    optimal-with c.args.auction.now c.args.width c.in-Ok.end.cuts c.in-Ok.end.optimum c.in-Ok.end.table c.in-Ok.ensures.shows c.kinds-shaped.ensures.shaped c.in-Ok.ensures.ends c.in-Ok.ensures.shown

pub returns-in-Ok-clause-odds : goal.returns-in-Ok-clause-odds
returns-in-Ok-clause-odds c = odds-with c.args.auction.now c.args.width c.in-Ok.end.cuts c.in-Ok.end.optimum c.in-Ok.end.table c.in-Ok.ensures.shows c.kinds-shaped.ensures.shaped

pub returns-in-Ok-clause-pays : goal.returns-in-Ok-clause-pays
returns-in-Ok-clause-pays c = pays-with c.args.auction.now c.args.width c.in-Ok.end.cuts c.in-Ok.end.optimum c.in-Ok.end.table c.in-Ok.ensures.shows c.kinds-shaped.ensures.shaped

pub returns-in-Ok-clause-settled : goal.returns-in-Ok-clause-settled
returns-in-Ok-clause-settled c = λ cuts optimum ends.
    tells-with c.args.auction.now c.args.width c.in-Ok.end.cuts c.in-Ok.end.optimum c.in-Ok.end.table c.in-Ok.ensures.shows cuts optimum (c.in-Ok.ensures.settled cuts optimum ends)
