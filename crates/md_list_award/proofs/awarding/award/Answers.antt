use Rattle.md_list.specs.Lists.{ranks_of}
use Rattle.md_list.proofs.PromiseLaws.{keeps-promises}
use Rattle.md_list_award.proofs.awarding.award.Goals as goal

pub returns-in_err-bids-clause-promises : goal.returns-in_err-bids-clause-promises
returns-in_err-bids-clause-promises c = keeps-promises c.args.auction.now (ranks_of c.args.ranks.now) c.groups-shaped.ensures.shaped.ordered c.requires.list

pub returns-in_err-slots-clause-promises : goal.returns-in_err-slots-clause-promises
returns-in_err-slots-clause-promises c = keeps-promises c.args.auction.now (ranks_of c.args.ranks.now) c.groups-shaped.ensures.shaped.ordered c.requires.list

pub returns-clause-promises : goal.returns-clause-promises
returns-clause-promises c = keeps-promises c.args.auction.now (ranks_of c.args.ranks.now) c.groups-shaped.ensures.shaped.ordered c.requires.list
