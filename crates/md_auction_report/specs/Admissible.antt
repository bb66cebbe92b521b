-- When a report shows interim odds and payments to be truthful and rational, and which of its parts it tells.
use Rattle.std.specs.Prelude.{◌≡◌, ℕ, ◌↔◌, pos, ◌≤ℤ◌, ◌++◌, Option, None, Some, IsNone}
use Rattle.std.specs.List.{All}
use Rattle.md_setting.specs.Auction.{SymmetricAuction, value_count}
use Rattle.md_forms.specs.Forms.{Holds}
use Rattle.md_border.specs.declared.interim.Interim.{Interim}
use Rattle.md_reduced.specs.declared.condition.ReducedCondition.{ReducedCondition}
use Rattle.md_reduced.specs.Conditions.{truths, rationals}
use Rattle.md_reduced.specs.ProgramOf.{form_of}
use Rattle.md_auction_report.specs.declared.auction_report.AuctionReport.{AuctionReport}
use Rattle.md_auction_report.specs.declared.greatest.Greatest.{Greatest}
use Rattle.md_auction_report.specs.Tight.{columns_of}

-- the condition of the reduced program of so many units holds at the odds and payments
abbrev pub HoldsAt : SymmetricAuction → ℕ → Interim → ReducedCondition → Type 0
HoldsAt a units interim c = Holds interim.den (columns_of interim) (form_of a units c)

-- each condition on truth does, and each on taking part
abbrev pub IsTruthfulAndRational : SymmetricAuction → ℕ → Interim → Type 0
IsTruthfulAndRational a units interim = All (HoldsAt a units interim) (truths (value_count a) ++ rationals (value_count a))

-- what is missed is at most 0
abbrev pub IsNoneMissed : Option Greatest → Type 0
IsNoneMissed None = Unit {0}
IsNoneMissed (Some told) = told.amount.num ≤ℤ pos 0

-- neither the gain nor the loss is above 0
pub record MissesNothing (report : AuctionReport) : Type 0 where
  pub gain : IsNoneMissed report.gain
  pub loss : report.loss.amount.num ≤ℤ pos 0

-- a gain is told where there is more than one value
pub record IsToldWhole (a : SymmetricAuction) (report : AuctionReport) : Type 0 where
  pub gain : IsNone report.gain ↔ (value_count a ≡ 1)
