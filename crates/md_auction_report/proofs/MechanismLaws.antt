-- A mechanism of a sale with some odds and payments is admissible exactly where they are truthful and rational.
use Rattle.std.proofs.Common.{◌≡◌, ◌↔◌, ℕ, ◌<◌, ℤ, pos, ◌-ℤ◌, ◌*ℤ◌, neg_ℤ, ◌≤ℤ◌, ◌<ℤ◌, List, inl, inr, sym, ap, subst, arith, ne_eqb}
use Rattle.std.proofs.lemmas.Bool.{cases_eq}
use Rattle.std.proofs.lemmas.List.Elements.{All-append}
use Rattle.md_math.specs.Lists.{list_to}
use Rattle.md_math.proofs.Builders.{All-left, All-right, All-list_to, All-up_to, All-up_to_at, length-list_to, get_or-list_to, same_list_to}
use Rattle.md_math.proofs.Ring.{linear, *ℤ-zero}
use Rattle.md_setting.specs.Auction.{SymmetricAuction, value_count}
use Rattle.md_setting.specs.AuctionShaped.{IsAuction}
use Rattle.md_mech.specs.declared.mechanism.Mechanism.{Mechanism}
use Rattle.md_mech.specs.Admissible.{IsAdmissible}
use Rattle.md_mech.specs.Mechanism.{IsMechanism}
use Rattle.md_mech.proofs.RowLaws.{all-by_report, by_report-at}
use Rattle.md_border.specs.declared.interim.Interim.{Interim}
use Rattle.md_border.specs.Odds.{IsInterim, WinsAs}
use Rattle.md_border.proofs.Sales.{Sale, IsSaleOf, paid_at, item_sale, item-sale, odds-as, pays-as}
use Rattle.md_winners.proofs.UnitSales.{unit_sale, unit-sale, unit-odds-as, unit-pays-as}
use Rattle.md_reduced.specs.declared.condition.ReducedCondition.TheVariants.{Truth, Rational}
use Rattle.md_reduced.specs.Conditions.{truths_at, truths, rationals}
use Rattle.md_reduced.specs.Sides.{pay_in, utility_in}
use Rattle.md_reduced.proofs.AdmissibleLaws.{KeepsRows, keeps-by_odds, sale-admits-rows, sale-on_average}
use Rattle.md_answer.specs.declared.supply.Supply.{Supply}
use Rattle.md_answer.specs.declared.supply.Supply.TheVariants.{Item, Units}
use Rattle.md_answer.specs.Supplies.{units_in}
use Rattle.md_auction_report.specs.declared.auction_report.AuctionReport.{AuctionReport}
use Rattle.md_auction_report.specs.Admissible.{HoldsAt, IsTruthfulAndRational, MissesNothing}
use Rattle.md_auction_report.specs.Mechanisms.{JudgesMechanisms}
use Rattle.md_auction_report.specs.ReportOf.{IsAuctionReportOf}
use Rattle.md_auction_report.specs.Tight.{columns_of}
use Rattle.md_auction_report.proofs.AdmissibleLaws.{admissible-shown}
use Rattle.md_auction_report.proofs.ColumnLaws.{odds-column, pay-column}
use Rattle.md_auction_report.proofs.SizeLaws.{den-positive}

-- ---- the odds and payments as a point

odds-point : (a : SymmetricAuction) (interim : Interim) → IsInterim a interim → interim.odds ≡ list_to (value_count a) (columns_of interim)
odds-point a interim fits = same_list_to interim.odds (value_count a) (columns_of interim) (pos 0) fits.one_odds (λ v l. sym (odds-column a interim v fits l))

pays-point : (a : SymmetricAuction) (interim : Interim) → IsInterim a interim → interim.pays ≡ list_to (value_count a) (pay_in a (columns_of interim))
pays-point a interim fits = same_list_to interim.pays (value_count a) (pay_in a (columns_of interim)) (pos 0) fits.one_pay (λ v l. sym (pay-column a interim v fits))

-- ---- its conditions, one by one and all together

no_more : (y z o : ℤ) → o ≡ pos 0 → y ≤ℤ z → (y -ℤ z) ≤ℤ o
no_more y z o e l = omega (arith, linear)

less : (y z o : ℤ) → o ≡ pos 0 → (y -ℤ z) ≤ℤ o → y ≤ℤ z
less y z o e l = omega (arith, linear)

no_loss : (y o : ℤ) → o ≡ pos 0 → pos 0 ≤ℤ y → neg_ℤ y ≤ℤ o
no_loss y o e l = omega (arith, linear)

negative : (y o : ℤ) → o ≡ pos 0 → neg_ℤ y ≤ℤ o → pos 0 ≤ℤ y
negative y o e l = omega (arith, linear)

same : (y z : ℤ) → y ≡ z → y ≤ℤ z
same y z e = omega (arith, linear)

rows-hold : (a : SymmetricAuction) (units : ℕ) (interim : Interim) → KeepsRows a (columns_of interim) → IsTruthfulAndRational a units interim
rows-hold a units interim rows =
    All-append (HoldsAt a units interim) (truths (value_count a)) (rationals (value_count a))
    (All-up_to (HoldsAt a units interim) (value_count a) (truths_at (value_count a))
    (λ v l. all-by_report (HoldsAt a units interim) (value_count a) v (Truth v)
    (λ w k. no_more (utility_in a (columns_of interim) v w) (utility_in a (columns_of interim) v v) (interim.den *ℤ pos 0) (*ℤ-zero interim.den) (rows.truth v w l k))))
    (All-list_to (HoldsAt a units interim) (value_count a) Rational
    (λ v l. no_loss (utility_in a (columns_of interim) v v) (interim.den *ℤ pos 0) (*ℤ-zero interim.den) (rows.rational v l)))

held-rows : (a : SymmetricAuction) (units : ℕ) (interim : Interim) → IsTruthfulAndRational a units interim → KeepsRows a (columns_of interim)
held-rows a units interim all = record {
  truth = λ v w l k. elim (cases_eq w v) [
    | inl e ↦ same (utility_in a x v w) (utility_in a x v v) (ap (utility_in a x v) e)
    | inr d ↦
        less (utility_in a x v w) (utility_in a x v v) (interim.den *ℤ pos 0) (*ℤ-zero interim.den)
        (by_report-at (HoldsAt a units interim) kinds v (Truth v) w k (ne_eqb w v d)
        (All-up_to_at (HoldsAt a units interim) kinds v (truths_at kinds) l (All-left (HoldsAt a units interim) (truths kinds) (rationals kinds) all)))
  ];
  rational = λ v l.
      negative (utility_in a x v v) (interim.den *ℤ pos 0) (*ℤ-zero interim.den)
      (subst (HoldsAt a units interim) (get_or-list_to kinds Rational v (Rational v) l)
      (All-right (HoldsAt a units interim) (truths kinds) (rationals kinds) all v (Rational v) (subst (λ n. v < n) (sym (length-list_to kinds Rational)) l)));
}
  where
    kinds : ℕ
    kinds = value_count a

    x : ℕ → ℤ
    x = columns_of interim

-- ---- mechanisms with them

sale-rows : (a : SymmetricAuction) (sale : Sale) (is : IsSaleOf a sale) (interim : Interim) (m : Mechanism) → IsAuction a → IsInterim a interim → IsMechanism sale.setting m
    → WinsAs a (sale.win m) m.den interim.den interim.odds → WinsAs a (paid_at sale m) m.den interim.den interim.pays → IsAdmissible sale.setting m ↔ KeepsRows a (columns_of interim)
sale-rows a sale is interim m shaped fits mechanism odds pays = (
  λ admissible. keeps-by_odds a sale.units (sale.win m) (paid_at sale m) m.den interim.den (columns_of interim) shaped above there paid (sale-on_average a sale is m admissible),
  λ rows. sale-admits-rows a sale is m interim.den (columns_of interim) shaped above rows mechanism there paid,
)
  where
    above : pos 0 <ℤ interim.den
    above = den-positive a interim fits

    there : WinsAs a (sale.win m) m.den interim.den (list_to (value_count a) (columns_of interim))
    there = subst (WinsAs a (sale.win m) m.den interim.den) (odds-point a interim fits) odds

    paid : WinsAs a (paid_at sale m) m.den interim.den (list_to (value_count a) (pay_in a (columns_of interim)))
    paid = subst (WinsAs a (paid_at sale m) m.den interim.den) (pays-point a interim fits) pays

sale-judged : (a : SymmetricAuction) (units : ℕ) (sale : Sale) (is : IsSaleOf a sale) (interim : Interim) (cuts : List ℕ) (report : AuctionReport) (m : Mechanism) → IsAuction a → IsInterim a interim
    → IsAuctionReportOf a units interim cuts report → IsMechanism sale.setting m → WinsAs a (sale.win m) m.den interim.den interim.odds → WinsAs a (paid_at sale m) m.den interim.den interim.pays
    → IsAdmissible sale.setting m ↔ MissesNothing report
sale-judged a units sale is interim cuts report m shaped fits told mechanism odds pays =
    let rows = sale-rows a sale is interim m shaped fits mechanism odds pays in
    let shown = admissible-shown a units interim cuts report fits told in (
      λ admissible. shown.0 (rows-hold a units interim (rows.0 admissible)),
      λ none. rows.1 (held-rows a units interim (shown.1 none)),
    )

pub mechanisms-judged : (supply : Supply) (a : SymmetricAuction) (interim : Interim) (cuts : List ℕ) (report : AuctionReport) → IsAuction a → IsInterim a interim
    → IsAuctionReportOf a (units_in supply) interim cuts report → JudgesMechanisms supply a interim report
mechanisms-judged Item a interim cuts report shaped fits told m mechanism odds pays =
    sale-judged a 1 (item_sale a) (item-sale a) interim cuts report m shaped fits told mechanism (odds-as a m interim.den interim.odds odds) (pays-as a m interim.den interim.pays pays)
mechanisms-judged (Units units) a interim cuts report shaped fits told m mechanism odds pays =
    sale-judged a units (unit_sale a units) (unit-sale a units) interim cuts report m shaped fits told mechanism
    (unit-odds-as a units m interim.den interim.odds odds) (unit-pays-as a units m interim.den interim.pays pays)
