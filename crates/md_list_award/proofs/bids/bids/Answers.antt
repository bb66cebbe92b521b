use Rattle.std.proofs.Common.{arith, length, ap}
use Rattle.md_bidders.proofs.SettingLaws.{is-report}
use Rattle.md_list_award.proofs.bids.bids.Goals as goal

pub bounds-profile-bidder : goal.bounds-profile-bidder
bounds-profile-bidder c =
    omega (arith, c.loop-bidder-test.true, ap length c.in_ok-members.ensures, (is-report c.args.auction.now c.args.profile.now c.requires.profile).long)
