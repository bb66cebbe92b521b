-- What is told of interim odds and payments.
use Rattle.std.specs.Prelude.{◌≡◌, ℕ, List}
use Rattle.md_setting.specs.Auction.{SymmetricAuction, value_count}
use Rattle.md_border.specs.declared.interim.Interim.{Interim}
use Rattle.md_reduced.specs.Conditions.{truths, rationals}
use Rattle.md_unit_tables.specs.Worth.{IsUnitWorthOf}
use Rattle.md_auction_report.specs.declared.auction_report.AuctionReport.{AuctionReport}
use Rattle.md_auction_report.specs.Averages.{IsRevenue, IsWelfare}
use Rattle.md_auction_report.specs.Greatest.{IsGreatest, IsGreatestOf}
use Rattle.md_auction_report.specs.Tight.{tight_rows}
use Rattle.md_auction_report.specs.Types.{AreTold}

-- each part of the report is what its definition says of the odds and payments, and of the reduced program of so many units with
-- these cuts
pub record IsAuctionReportOf (a : SymmetricAuction) (units : ℕ) (interim : Interim) (cuts : List ℕ) (report : AuctionReport) : Type 0 where
  pub value : IsUnitWorthOf a units interim report.value
  pub revenue : IsRevenue a interim report.revenue
  pub welfare : IsWelfare a interim report.welfare
  pub types : AreTold a interim (value_count a) report.types.items
  pub gain : IsGreatestOf a units interim (truths (value_count a)) report.gain
  pub loss : IsGreatest a units interim (rationals (value_count a)) report.loss
  pub tight : report.tight.items ≡ tight_rows a units interim cuts
