use Rattle.md_cuts.proofs.AuctionPrograms.{IsCutting-units}
use Rattle.md_cuts.proofs.auction_cuts.places_of.Goals as goal

pub returns-clause-cutting : goal.returns-clause-cutting
returns-clause-cutting c = IsCutting-units c.args.auction.now 1 c.kinds.ensures.shaped
