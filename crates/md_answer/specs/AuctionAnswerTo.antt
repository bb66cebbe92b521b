-- What is known of an answer that was read for an auction, or for several units, and what an answer must be to be written.
use Rattle.std.specs.Prelude.{◌≡◌, Option, None, Some, IfSome}
use Rattle.md_setting.specs.Auction.{SymmetricAuction, value_count}
use Rattle.md_lp.specs.Cuts.{AreCuts}
use Rattle.md_lp.specs.declared.wide.Wide.{Wide}
use Rattle.md_border.specs.Odds.{IsInterim}
use Rattle.md_parts.specs.Fitting.{IsFraction, IsBoundOver, HasFraction}
use Rattle.md_answer.specs.declared.answer.Answer.{Answer}
use Rattle.md_answer.specs.declared.answer.Answer.TheVariants.{AuctionOptimal, TooWide}
use Rattle.md_answer.specs.declared.supply.Supply.{Supply}
use Rattle.md_answer.specs.declared.supply.Supply.TheVariants.{Item, Units}
use Rattle.md_answer.specs.Supplies.{AreMassesOf}
use Rattle.md_answer.specs.ReducedRows.{reduced_rows}

-- the second part of a `toowide` answer, which one about units always has
abbrev pub HasSecond : Supply → Option Wide → Type 0
HasSecond Item second = IfSome second HasFraction
HasSecond (Units units) None = ⊥
HasSecond (Units units) (Some second) = HasFraction second

-- the answer has the auction's sizes, and its numbers are in their ranges: masses and odds have one denominator, and the
-- multipliers are those of the reduced program with the answer's cuts
abbrev pub IsAnswerFor : Supply → SymmetricAuction → Answer → Type 0
IsAnswerFor supply a (AuctionOptimal value interim masses cuts bound) =
    IsFraction value.num value.den × IsInterim a interim × AreMassesOf supply a masses × (masses.den ≡ interim.den) × AreCuts (value_count a) cuts × IsBoundOver (reduced_rows a cuts) bound
IsAnswerFor supply a (TooWide cuts first second) = AreCuts (value_count a) cuts × HasFraction first × HasSecond supply second
IsAnswerFor supply a _ = ⊥

-- the same about the auction of one item
abbrev pub IsAuctionAnswer : SymmetricAuction → Answer → Type 0
IsAuctionAnswer a answer = IsAnswerFor Item a answer
