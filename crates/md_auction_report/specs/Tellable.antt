-- What must be so for a report to have records.
use Rattle.std.specs.Prelude.{ℕ, ◌<◌, List, length, Option, None, Some}
use Rattle.std.specs.List.{All}
use Rattle.md_setting.specs.Auction.{SymmetricAuction, value_count}
use Rattle.md_reduced.specs.Conditions.{conditions_of, IsInside}
use Rattle.md_auction_report.specs.declared.auction_report.AuctionReport.{AuctionReport}
use Rattle.md_auction_report.specs.declared.greatest.Greatest.{Greatest}

-- the condition is about values of the auction
abbrev pub IsTold : SymmetricAuction → Option Greatest → Type 0
IsTold a None = Unit {0}
IsTold a (Some told) = IsInside (value_count a) told.condition

-- all that is told is about the auction, and about conditions with these cuts
pub record IsAbout (a : SymmetricAuction) (cuts : List ℕ) (report : AuctionReport) : Type 0 where
  pub types : All (λ told. told.kind < value_count a) report.types.items
  pub gain : IsTold a report.gain
  pub loss : IsInside (value_count a) report.loss.condition
  pub tight : All (λ row. row < length (conditions_of (value_count a) cuts)) report.tight.items
