use Rattle.md_check.proofs.VerdictLaws.{if_sound, if_undecided}
use Rattle.md_check.proofs.checking.check.Goals as goal

pub returns-in-General-clause-undecided : goal.returns-in-General-clause-undecided
returns-in-General-clause-undecided c = if_undecided c.in-General.setting c.args.answer.now c.check_general.result c.check_general.ensures.verdict

pub returns-in-General-clause-sound : goal.returns-in-General-clause-sound
returns-in-General-clause-sound c = rw c.in-General.is (if_sound c.in-General.setting c.args.answer.now c.check_general.result c.check_general.ensures.verdict)

pub returns-in-Auction-clause-auction_sound : goal.returns-in-Auction-clause-auction_sound
returns-in-Auction-clause-auction_sound c = rw c.in-Auction.is c.check_auction.ensures.sound
