-- What a report says of the mechanisms of its sale, with any denominator and numbers of any size.
use Rattle.std.specs.Prelude.{◌↔◌}
use Rattle.md_setting.specs.Setting.{GeneralSetting}
use Rattle.md_setting.specs.Auction.{SymmetricAuction}
use Rattle.md_mech.specs.declared.mechanism.Mechanism.{Mechanism}
use Rattle.md_mech.specs.Mechanism.{IsMechanism}
use Rattle.md_mech.specs.Admissible.{IsAdmissible}
use Rattle.md_mech.specs.Value.{IsValueOf}
use Rattle.md_border.specs.declared.interim.Interim.{Interim}
use Rattle.md_report.specs.Averages.{IsRevenue, IsWelfare}
use Rattle.md_answer.specs.declared.supply.Supply.{Supply}
use Rattle.md_auction_report.specs.declared.auction_report.AuctionReport.{AuctionReport}
use Rattle.md_auction_report.specs.Admissible.{MissesNothing}
use Rattle.md_auction_report.specs.Supplies.{setting_of, HasOddsOf, HasPaysOf}

-- a mechanism with the odds and the payments, also one that treats bidders differently, is admissible exactly where the report
-- shows neither a gain nor a loss above 0
abbrev pub JudgesMechanisms : Supply → SymmetricAuction → Interim → AuctionReport → Type 0
JudgesMechanisms supply a interim report =
    (m : Mechanism) → IsMechanism (setting_of supply a) m → HasOddsOf supply a m interim.den interim.odds → HasPaysOf supply a m interim.den interim.pays
    → IsAdmissible (setting_of supply a) m ↔ MissesNothing report

-- the mechanism has the told value, and over all profiles the told revenue and welfare
pub record TellsExpected (s : GeneralSetting) (m : Mechanism) (report : AuctionReport) : Type 0 where
  pub value : IsValueOf s m report.value
  pub revenue : IsRevenue s m report.revenue
  pub welfare : IsWelfare s m report.welfare

-- so has each mechanism with the odds and the payments
abbrev pub TellsMechanisms : Supply → SymmetricAuction → Interim → AuctionReport → Type 0
TellsMechanisms supply a interim report =
    (m : Mechanism) → IsMechanism (setting_of supply a) m → HasOddsOf supply a m interim.den interim.odds → HasPaysOf supply a m interim.den interim.pays
    → TellsExpected (setting_of supply a) m report
