use Rattle.md_answer.proofs.writing.write_answer.Goals as goal

pub returns-in-Auction-clause-auction_law : goal.returns-in-Auction-clause-auction_law
returns-in-Auction-clause-auction_law c = λ told. rw c.in-Auction.is (c.write_auction_answer.ensures.law told)
