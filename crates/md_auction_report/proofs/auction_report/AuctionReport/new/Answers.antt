use Rattle.std.proofs.Common.{subst}
use Rattle.md_answer.specs.Supplies.{units_in}
use Rattle.md_auction_report.specs.ReportOf.{IsAuctionReportOf}
use Rattle.md_auction_report.proofs.AdmissibleLaws.{admissible-shown}
use Rattle.md_auction_report.proofs.ExpectedLaws.{mechanisms-told}
use Rattle.md_auction_report.proofs.MechanismLaws.{mechanisms-judged}
use Rattle.md_auction_report.proofs.ToldLaws.{about, told-whole}
use Rattle.md_auction_report.proofs.auction_report.AuctionReport.new.Goals as goal
use Rattle.md_auction_report.proofs.auction_report.AuctionReport.new.Goals.{In_ok-report}

-- what was told is of the units that the supply has
is : (c : In_ok-report) → IsAuctionReportOf c.args.auction.now (units_in c.args.supply.now) c.args.interim.now c.args.cuts.now c.in_ok-report.report
is c = subst (λ units. IsAuctionReportOf c.args.auction.now units c.args.interim.now c.args.cuts.now c.in_ok-report.report) c.units.ensures.value c.in_ok-report.ensures.parts

pub returns-clause-parts : goal.returns-clause-parts
returns-clause-parts c = is c

pub returns-clause-about : goal.returns-clause-about
returns-clause-about c = about c.args.auction.now (units_in c.args.supply.now) c.args.interim.now c.args.cuts.now c.in_ok-report.report (is c)

pub returns-clause-told : goal.returns-clause-told
returns-clause-told c = told-whole c.args.auction.now (units_in c.args.supply.now) c.args.interim.now c.args.cuts.now c.in_ok-report.report c.in_ok-report.ensures.shaped (is c)

pub returns-clause-admissible : goal.returns-clause-admissible
returns-clause-admissible c =
    admissible-shown c.args.auction.now (units_in c.args.supply.now) c.args.interim.now c.args.cuts.now c.in_ok-report.report c.requires.fits (is c)

pub returns-clause-mechanisms : goal.returns-clause-mechanisms
returns-clause-mechanisms c =
    mechanisms-judged c.args.supply.now c.args.auction.now c.args.interim.now c.args.cuts.now c.in_ok-report.report c.in_ok-report.ensures.shaped c.requires.fits (is c)

pub returns-clause-expected : goal.returns-clause-expected
returns-clause-expected c =
    mechanisms-told c.args.supply.now c.args.auction.now c.args.interim.now c.args.cuts.now c.in_ok-report.report c.in_ok-report.ensures.shaped c.requires.fits (is c)
