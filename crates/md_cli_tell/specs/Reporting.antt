-- What `report` says of a setting and of a mechanism, or of odds and payments.
use Rattle.std.specs.Prelude.{◌≡◌, ◌⊎◌, ◌↔◌, [], ℕ, List}
use Rattle.md_setting.specs.Setting.{GeneralSetting}
use Rattle.md_setting.specs.Auction.{SymmetricAuction}
use Rattle.md_setting.specs.declared.file.SettingFile.{SettingFile}
use Rattle.md_setting.specs.declared.file.SettingFile.TheVariants.{General, Auction, Bidders}
use Rattle.md_mech.specs.declared.mechanism.Mechanism.{Mechanism}
use Rattle.md_mech.specs.Admissible.{IsAdmissible}
use Rattle.md_mechanism_text.specs.Proposals.{Proposed}
use Rattle.md_border.specs.declared.interim.Interim.{Interim}
use Rattle.md_expost.specs.declared.masses.Masses.{Masses}
use Rattle.md_expost.specs.Masses.{AreMasses}
use Rattle.md_expost.specs.Implementing.{Implements}
use Rattle.md_unit_tables.specs.Mechanisms.{unit_mechanism_of}
use Rattle.md_answer.specs.declared.supply.Supply.{Supply}
use Rattle.md_answer.specs.declared.supply.Supply.TheVariants.{Item, Units}
use Rattle.md_answer.specs.Supplies.{AreMassesOf, units_in}
use Rattle.md_claims.specs.AuctionClaims.{mechanism_in}
use Rattle.md_report.specs.declared.report.Report.{Report}
use Rattle.md_report.specs.Admissible.{IsToldWhole, MissesNothing}
use Rattle.md_report.specs.Records.{report_text}
use Rattle.md_report.specs.ReportOf.{IsReportOf}
use Rattle.md_auction_report.specs.declared.auction_report.AuctionReport.{AuctionReport}
use Rattle.md_auction_report.specs.Admissible.{IsTruthfulAndRational, IsToldWhole as IsAuctionToldWhole, MissesNothing as MissesNothingOfAuction}
use Rattle.md_auction_report.specs.Mechanisms.{JudgesMechanisms, TellsMechanisms}
use Rattle.md_auction_report.specs.Records.{report_text as auction_report_text}
use Rattle.md_auction_report.specs.ReportOf.{IsAuctionReportOf}
use Rattle.md_auction_report.specs.Supplies.{setting_of}
use Rattle.md_cli_driver.specs.Saying.{Saying}
use Rattle.md_cli_tell.specs.Realising.{IsViolatedSaying}
use Rattle.md_cli_tell.specs.SaleReporting.{IsOtherReporting}
use Rattle.md_cli_tell.specs.Standings.{TellStandings}
use Rattle.md_cli_tell.specs.declared.reported.Reported.{Reported}
use Rattle.md_cli_tell.specs.declared.reported.Reported.TheVariants as reported

-- The text tells of a mechanism what it does, and how it stands against each condition of the designer. It is admissible exactly where
-- the text tells no gain and no loss above 0, and no deficit below, and it meets the conditions exactly where each is told to be met.
pub record IsMechanismText (s : GeneralSetting) (proposed : Proposed) (text : List ℕ) : Type 0 where
  pub report : Report
  pub is_report : IsReportOf s proposed.mechanism report
  pub whole : IsToldWhole s report
  pub admissible : IsAdmissible s proposed.mechanism ↔ MissesNothing report
  pub conditions : List (List (List ℕ))
  pub stands : TellStandings s proposed conditions
  pub told : text ≡ report_text s report conditions

-- the mechanism of the masses of what is sold, in which each bidder pays what the payments say of its value
abbrev pub mechanism_for : Supply → SymmetricAuction → Interim → Masses → Mechanism
mechanism_for Item a interim masses = mechanism_in a interim masses
mechanism_for (Units units) a interim masses = unit_mechanism_of a units masses interim.pays

-- for each table of masses with these odds it is admissible exactly where the report shows neither a gain nor a loss above 0
abbrev pub JudgesTables : Supply → SymmetricAuction → Interim → AuctionReport → Type 0
JudgesTables supply a interim report =
    (masses : Masses) → AreMassesOf supply a masses → Implements a interim masses
    → IsAdmissible (setting_of supply a) (mechanism_for supply a interim masses) ↔ MissesNothingOfAuction report

-- The text tells what interim odds and payments of one item, or of several units, do, against the reduced program with some cuts.
-- They meet all conditions on truth and on taking part exactly where the text tells neither a gain nor a loss above 0. Exactly there
-- each mechanism of the sale with these odds and payments is admissible, and so is that of each table of masses with the odds. The
-- value, the revenue and the welfare that it tells are those of each mechanism with the odds and payments.
pub record IsInterimText (supply : Supply) (a : SymmetricAuction) (interim : Interim) (cuts : List ℕ) (text : List ℕ) : Type 0 where
  pub report : AuctionReport
  pub is_report : IsAuctionReportOf a (units_in supply) interim cuts report
  pub whole : IsAuctionToldWhole a report
  pub admissible : IsTruthfulAndRational a (units_in supply) interim ↔ MissesNothingOfAuction report
  pub mechanisms : JudgesMechanisms supply a interim report
  pub expected : TellsMechanisms supply a interim report
  pub tables : JudgesTables supply a interim report
  pub told : text ≡ auction_report_text a cuts report

-- Of an auction of the designer's own what its odds and payments do is told, where some mass table has the odds.
pub record IsOwnText (a : SymmetricAuction) (interim : Interim) (saying : Saying) : Type 0 where
  pub masses : Masses
  pub table : AreMasses a masses
  pub odds : Implements a interim masses
  pub status : saying.status ≡ 0
  pub text : IsInterimText Item a interim [] saying.text

-- else the set of values that asks for too much, as `realise` tells it
abbrev pub IsOwnReporting : SymmetricAuction → Interim → Saying → Type 0
IsOwnReporting a interim saying = IsOwnText a interim saying ⊎ IsViolatedSaying a interim saying

abbrev pub IsReporting : SettingFile → Reported → Saying → Type 0
IsReporting (General s) (reported.Mechanism proposed) saying = (saying.status ≡ 0) × IsMechanismText s proposed saying.text
IsReporting (General s) (reported.Odds interim cuts) saying = ⊥
IsReporting (General s) (reported.Own interim) saying = ⊥
IsReporting (General s) (reported.Other bytes) saying = IsOtherReporting s bytes saying
IsReporting (Auction a) (reported.Mechanism proposed) saying = ⊥
IsReporting (Auction a) (reported.Odds interim cuts) saying = (saying.status ≡ 0) × IsInterimText Item a interim cuts saying.text
IsReporting (Auction a) (reported.Own interim) saying = IsOwnReporting a interim saying
IsReporting (Auction a) (reported.Other bytes) saying = ⊥
IsReporting (Bidders a) reported saying = ⊥

-- the statuses of what is answered
abbrev pub IsReportStatus : ℕ → Type 0
IsReportStatus status = (status ≡ 0) ⊎ (status ≡ 21)
