use Rattle.md_answer.specs.declared.answer.Answer.TheVariants.{AuctionOptimal}
use Rattle.md_check.proofs.AuctionLaws.{if_sound, if_undecided}
use Rattle.md_check.proofs.auction.check_auction.Goals as goal

pub returns-in-AuctionOptimal-clause-undecided : goal.returns-in-AuctionOptimal-clause-undecided
returns-in-AuctionOptimal-clause-undecided c = rw c.in-AuctionOptimal.is (if_undecided c.args.supply.now c.args.auction.now (AuctionOptimal c.in-AuctionOptimal.value c.in-AuctionOptimal.interim c.in-AuctionOptimal.masses c.in-AuctionOptimal.cuts c.in-AuctionOptimal.bound) c.check_optimal.result c.check_optimal.ensures.verdict)

pub returns-in-AuctionOptimal-clause-sound : goal.returns-in-AuctionOptimal-clause-sound
returns-in-AuctionOptimal-clause-sound c = rw c.in-AuctionOptimal.is (if_sound c.args.supply.now c.args.auction.now (AuctionOptimal c.in-AuctionOptimal.value c.in-AuctionOptimal.interim c.in-AuctionOptimal.masses c.in-AuctionOptimal.cuts c.in-AuctionOptimal.bound) c.check_optimal.result c.check_optimal.ensures.verdict)

pub returns-in-AuctionOptimal-clause-claim : goal.returns-in-AuctionOptimal-clause-claim
returns-in-AuctionOptimal-clause-claim c = rw c.in-AuctionOptimal.is c.check_optimal.ensures.claim
