-- What is computed of a threshold auction is so of its mechanism.
use Rattle.std.proofs.Common.{◌≡◌, ℕ, ℤ, pos, ◌+ℤ◌, ◌*ℤ◌, ◌≤ℤ◌, ◌<ℤ◌, ap, ◌∙◌, arith}
use Rattle.std.proofs.lemmas.Int.{ints}
use Rattle.md_math.specs.Lists.{number_at}
use Rattle.md_math.proofs.Ring.{linear}
use Rattle.md_num.specs.declared.frac.Frac.{Frac}
use Rattle.md_setting.specs.Auction.{SymmetricAuction, total_weight}
use Rattle.md_setting.specs.AuctionShaped.{IsAuction}
use Rattle.md_border.specs.Worth.{gain_of}
use Rattle.md_border.proofs.MechanismWorth.{value-of_wins}
use Rattle.md_winners.specs.Odds.{HasUnitOdds, HasUnitPays}
use Rattle.md_winners.proofs.UnitSales.{unit_sale, unit-sale, unit-odds-as, unit-pays-as}
use Rattle.md_report.specs.Ratio.{IsRatio}
use Rattle.md_auction_report.specs.Averages.{of_all}
use Rattle.md_auction_report.proofs.ExpectedLaws.{revenue-of, welfare-of}
use Rattle.md_iron_pools.specs.declared.pools.AuctionPools.{AuctionPools}
use Rattle.md_iron_pools.specs.ByRule.{IsAuctionByRule}
use Rattle.md_iron_pools.specs.Pooling.{IsPooling, pools_of}
use Rattle.md_border.specs.declared.interim.Interim.{Interim}
use Rattle.md_threshold_laws.specs.ClosedOdds.{IsClosedInterim}
use Rattle.md_threshold_laws.proofs.ClosedInterims.{has-interim_odds, has-interim_pays}
use Rattle.md_threshold_laws.specs.Mechanisms.{threshold_mechanism}
use Rattle.md_threshold_laws.proofs.MechanismLaws.{is-mechanism}
use Rattle.md_threshold_laws.proofs.Optimal.{threshold-optimal}
use Rattle.md_threshold_laws.proofs.TruthLaws.{dominant-truth, ex-post}
use Rattle.md_threshold.specs.Interims.{worth_in}
use Rattle.md_threshold.specs.Thresholds.{IsThreshold}

pub is-threshold : (a : SymmetricAuction) (units : ℕ) (kept : AuctionPools) (interim : Interim) (value revenue welfare : Frac) → IsAuction a → IsPooling a kept → IsAuctionByRule a (pools_of kept) → IsClosedInterim a units (pools_of kept) interim
    → IsRatio (worth_in a units interim) (pos (total_weight a.weights) *ℤ interim.den) value
    → IsRatio (of_all a (number_at interim.pays)) (pos (total_weight a.weights) *ℤ interim.den) revenue
    → IsRatio (of_all a (λ v. number_at a.values v *ℤ number_at interim.odds v)) (pos (total_weight a.weights) *ℤ interim.den) welfare
    → IsThreshold a units (record { pools = kept; value = value; revenue = revenue; welfare = welfare })
is-threshold a units kept interim value revenue welfare shaped pooling by_rule closed has_value has_revenue has_welfare =
    let pools = pools_of kept in
    let p = by_rule.pooled in
    let m = threshold_mechanism a units pools in
    let mechanism = is-mechanism a units pools shaped p in
    let positive : pos 1 ≤ℤ interim.den = above interim.den closed.odds.positive in
    let odds : HasUnitOdds a units m interim.den interim.odds = has-interim_odds a units pools shaped p interim closed in
    let pays : HasUnitPays a units m interim.den interim.pays = has-interim_pays a units pools shaped p interim closed in
    record {
      pooling = pooling;
      by_rule = by_rule;
      mechanism = mechanism;
      optimal = threshold-optimal a units pools shaped p;
      dominant = dominant-truth a units pools shaped p;
      ex_post = ex-post a units pools shaped p;
      value = record {
        is_value =
            value-of_wins a (unit_sale a units) m interim shaped (unit-sale a units) mechanism (unit-odds-as a units m interim.den interim.odds odds) (unit-pays-as a units m interim.den interim.pays pays) value positive
            (has_value.is_ratio ∙ ap (λ z. z *ℤ value.den) (turned (of_all a (gain_of a interim)) ((a.keep *ℤ pos units) *ℤ (pos (total_weight a.weights) *ℤ interim.den))));
        least = has_value.least;
      };
      revenue = revenue-of a (unit_sale a units) (unit-sale a units) m interim shaped positive revenue (unit-pays-as a units m interim.den interim.pays pays) has_revenue;
      welfare = welfare-of a (unit_sale a units) (unit-sale a units) m interim shaped positive welfare (unit-odds-as a units m interim.den interim.odds odds) has_welfare;
    }
  where
    above : (z : ℤ) → pos 0 <ℤ z → pos 1 ≤ℤ z
    above z l = omega (arith, ints, l)

    turned : (x y : ℤ) → x +ℤ y ≡ y +ℤ x
    turned x y = omega (arith, linear)
