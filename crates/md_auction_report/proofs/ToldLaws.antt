-- What is told of odds and payments: where a gain is, and that all is about the auction.
use Rattle.std.proofs.Common.{◌≡◌, ◌↔◌, ℕ, ◌-◌, ◌*◌, ◌<◌, List, length, All, refl, sym, ◌∙◌, subst, Option, None, Some}
use Rattle.std.specs.Prelude.{IsNone, slice_get}
use Rattle.md_math.proofs.Builders.{All-up_to}
use Rattle.md_setting.specs.Auction.{SymmetricAuction, value_count}
use Rattle.md_setting.specs.AuctionShaped.{IsAuction}
use Rattle.md_border.specs.declared.interim.Interim.{Interim}
use Rattle.md_reduced.specs.declared.condition.ReducedCondition.{ReducedCondition}
use Rattle.md_reduced.specs.Conditions.{conditions_of, truths}
use Rattle.md_reduced.proofs.ConditionLaws.{truths-length}
use Rattle.md_report.proofs.ToldLaws.{both, no-false_report, nil-length, some-rows, tight-row}
use Rattle.md_auction_report.specs.declared.auction_report.AuctionReport.{AuctionReport}
use Rattle.md_auction_report.specs.declared.greatest.Greatest.{Greatest}
use Rattle.md_auction_report.specs.Admissible.{IsToldWhole}
use Rattle.md_auction_report.specs.Greatest.{IsGreatestOf}
use Rattle.md_auction_report.specs.ReportOf.{IsAuctionReportOf}
use Rattle.md_auction_report.specs.Tellable.{IsTold, IsAbout}
use Rattle.md_auction_report.specs.Tight.{is_tight, tight_at, tight_rows}

-- ---- where a gain is told

truths-none : (a : SymmetricAuction) → IsAuction a → (length (truths (value_count a)) ≡ 0) ↔ (value_count a ≡ 1)
truths-none a shaped =
    let n = value_count a in
    let long : length (truths n) ≡ n * (n - 1) = truths-length n in
    let none = no-false_report n n shaped.some_value shaped.some_value in
    ((λ e. none.0 (sym long ∙ e)), (λ e. long ∙ none.1 e))

told-where : (a : SymmetricAuction) (units : ℕ) (interim : Interim) (conditions : List ReducedCondition) (told : Option Greatest) → IsGreatestOf a units interim conditions told → IsNone told ↔ (length conditions ≡ 0)
told-where a units interim conditions None none = ((λ _. nil-length conditions none), (λ _. refl))
told-where a units interim conditions (Some told) is = ((λ e. cc), (λ none. absurd (some-rows conditions is.place _ is.here none)))

pub told-whole : (a : SymmetricAuction) (units : ℕ) (interim : Interim) (cuts : List ℕ) (report : AuctionReport) → IsAuction a → IsAuctionReportOf a units interim cuts report → IsToldWhole a report
told-whole a units interim cuts report shaped is = record { gain = both (told-where a units interim (truths (value_count a)) report.gain is.gain) (truths-none a shaped) }

-- ---- what is told is about the auction

one-about : (a : SymmetricAuction) (units : ℕ) (interim : Interim) (conditions : List ReducedCondition) (told : Option Greatest) → IsGreatestOf a units interim conditions told → IsTold a told
one-about a units interim conditions None is = tt
one-about a units interim conditions (Some told) is = is.is_missed.inside

tight-about : (a : SymmetricAuction) (units : ℕ) (interim : Interim) (cuts : List ℕ) → All (λ r. r < length (conditions_of (value_count a) cuts)) (tight_rows a units interim cuts)
tight-about a units interim cuts =
    let rows = conditions_of (value_count a) cuts in
    All-up_to (λ r. r < length rows) (length rows) (tight_at a units interim cuts) (λ r h. tight-row (length rows) r (is_tight a units interim (slice_get rows r)) h)

pub about : (a : SymmetricAuction) (units : ℕ) (interim : Interim) (cuts : List ℕ) (report : AuctionReport) → IsAuctionReportOf a units interim cuts report → IsAbout a cuts report
about a units interim cuts report is = record {
  types = λ k d h. (is.types.each k d h).kind_in;
  gain = one-about a units interim (truths (value_count a)) report.gain is.gain;
  loss = is.loss.is_missed.inside;
  tight = subst (All (λ r. r < length (conditions_of (value_count a) cuts))) (sym is.tight) (tight-about a units interim cuts);
}
