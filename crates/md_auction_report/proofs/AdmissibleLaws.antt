-- Odds and payments are truthful and rational exactly where neither gain nor loss shows them not to be.
use Rattle.std.proofs.Common.{◌≡◌, ◌↔◌, ℕ, ◌<◌, pos, ◌≤ℤ◌, List, get_or, length, All, sym, subst, Option, None, Some}
use Rattle.std.specs.Prelude.{slice_get}
use Rattle.std.proofs.lemmas.List.Elements.{All-nil, All-append}
use Rattle.std.proofs.lemmas.Option.{slice_get-get_or, slice_get_within, get_or_from_slice_get}
use Rattle.md_math.proofs.Builders.{All-left, All-right, All-list_to, All-up_to}
use Rattle.md_math.proofs.Order.{≤ℤ_trans}
use Rattle.md_mech.proofs.RowLaws.{all-by_report}
use Rattle.md_setting.specs.Auction.{SymmetricAuction, value_count}
use Rattle.md_border.specs.declared.interim.Interim.{Interim}
use Rattle.md_border.specs.Odds.{IsInterim}
use Rattle.md_reduced.specs.declared.condition.ReducedCondition.{ReducedCondition}
use Rattle.md_reduced.specs.declared.condition.ReducedCondition.TheVariants.{Truth, Rational}
use Rattle.md_reduced.specs.Conditions.{truths_at, truths, rationals}
use Rattle.md_report.proofs.RatioLaws.{not_positive}
use Rattle.md_auction_report.specs.declared.auction_report.AuctionReport.{AuctionReport}
use Rattle.md_auction_report.specs.declared.greatest.Greatest.{Greatest}
use Rattle.md_auction_report.specs.Admissible.{HoldsAt, IsTruthfulAndRational, IsNoneMissed, MissesNothing}
use Rattle.md_auction_report.specs.Greatest.{IsGreatest, IsGreatestOf}
use Rattle.md_auction_report.specs.ReportOf.{IsAuctionReportOf}
use Rattle.md_auction_report.specs.Shortfalls.{missed}
use Rattle.md_auction_report.proofs.ColumnLaws.{IsThere, holds-missed}
use Rattle.md_auction_report.proofs.SizeLaws.{den-positive}

-- ---- the values of all conditions are there

pub record AllThere (kinds : ℕ) (conditions : List ReducedCondition) : Type 0 where
  pub each : All (IsThere kinds) conditions

pub truths-there : (kinds : ℕ) → AllThere kinds (truths kinds)
truths-there kinds = record {
  each = All-up_to (IsThere kinds) kinds (truths_at kinds) (λ v l. all-by_report (IsThere kinds) kinds v (Truth v) (λ w k. (l, k)));
}

pub rationals-there : (kinds : ℕ) → AllThere kinds (rationals kinds)
rationals-there kinds = record { each = All-list_to (IsThere kinds) kinds Rational (λ v l. l) }

-- ---- the greatest of some conditions

-- it is at most 0 exactly where all hold
greatest-holds : (a : SymmetricAuction) (units : ℕ) (interim : Interim) (conditions : List ReducedCondition) (told : Greatest) → IsInterim a interim → AllThere (value_count a) conditions
    → IsGreatest a units interim conditions told → (told.amount.num ≤ℤ pos 0) ↔ All (HoldsAt a units interim) conditions
greatest-holds a units interim conditions told fits all h = (to, from)
  where
    at : (c : ReducedCondition) (k : ℕ) → slice_get conditions k ≡ Some c → HoldsAt a units interim c ↔ (missed a units interim c ≤ℤ pos 0)
    at c k e =
        (let l : k < length conditions = slice_get_within conditions k c e in
        let same : get_or conditions k c ≡ c = get_or_from_slice_get conditions k c c e in holds-missed a units interim c fits (subst (IsThere (value_count a)) same (all.each k c l)))

    sign : (told.amount.num ≤ℤ pos 0) ↔ (missed a units interim told.condition ≤ℤ pos 0)
    sign = not_positive (missed a units interim told.condition) interim.den told.amount (den-positive a interim fits) h.is_missed.amount

    to : told.amount.num ≤ℤ pos 0 → All (HoldsAt a units interim) conditions
    to l = λ k d b.
        let c = get_or conditions k d in
        let e : slice_get conditions k ≡ Some c = slice_get-get_or conditions k d b in
        (at c k e).1 (≤ℤ_trans (missed a units interim c) (missed a units interim told.condition) (pos 0) (h.most k c e) (sign.0 l))

    from : All (HoldsAt a units interim) conditions → told.amount.num ≤ℤ pos 0
    from holds =
        let l : h.place < length conditions = slice_get_within conditions h.place told.condition h.here in
        let same = get_or_from_slice_get conditions h.place told.condition told.condition h.here in
        sign.1 ((at told.condition h.place h.here).0 (subst (HoldsAt a units interim) same (holds h.place told.condition l)))

told-holds : (a : SymmetricAuction) (units : ℕ) (interim : Interim) (conditions : List ReducedCondition) (told : Option Greatest) → IsInterim a interim → AllThere (value_count a) conditions
    → IsGreatestOf a units interim conditions told → IsNoneMissed told ↔ All (HoldsAt a units interim) conditions
told-holds a units interim conditions None fits all none = ((λ _. subst (All (HoldsAt a units interim)) (sym none) (All-nil (HoldsAt a units interim))), (λ _. tt))
told-holds a units interim conditions (Some told) fits all h = greatest-holds a units interim conditions told fits all h

pub admissible-shown : (a : SymmetricAuction) (units : ℕ) (interim : Interim) (cuts : List ℕ) (report : AuctionReport) → IsInterim a interim → IsAuctionReportOf a units interim cuts report
    → IsTruthfulAndRational a units interim ↔ MissesNothing report
admissible-shown a units interim cuts report fits is =
    let gain = told-holds a units interim (truths (value_count a)) report.gain fits (truths-there (value_count a)) is.gain in
    let loss = greatest-holds a units interim (rationals (value_count a)) report.loss fits (rationals-there (value_count a)) is.loss in (
      λ all. record {
        gain = gain.1 (All-left (HoldsAt a units interim) (truths (value_count a)) (rationals (value_count a)) all);
        loss = loss.1 (All-right (HoldsAt a units interim) (truths (value_count a)) (rationals (value_count a)) all);
      },
      λ none. All-append (HoldsAt a units interim) (truths (value_count a)) (rationals (value_count a)) (gain.0 none.gain) (loss.0 none.loss),
    )
