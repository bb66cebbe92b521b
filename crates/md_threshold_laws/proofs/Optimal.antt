-- The threshold rule is optimal (Myerson 1981): no mechanism of the units that is truthful and rational on average, of any denominator, is
-- worth more.
use Rattle.std.proofs.Common.{◌≡◌, ℕ, ℤ, sym, subst}
use Rattle.md_math.specs.Lists.{number_at, list_to}
use Rattle.md_math.proofs.Builders.{list_to-same}
use Rattle.md_setting.specs.Auction.{SymmetricAuction, value_count}
use Rattle.md_setting.specs.AuctionShaped.{IsAuction}
use Rattle.md_mech.specs.declared.mechanism.Mechanism.{Mechanism}
use Rattle.md_mech.specs.Mechanism.{IsMechanism}
use Rattle.md_mech.specs.Optimal.{IsOptimal}
use Rattle.md_reduced.specs.Points.{interim_in}
use Rattle.md_reduced.specs.Sides.{pay_in}
use Rattle.md_reduced.proofs.OptimalLaws.{sale-optimal}
use Rattle.md_winners.specs.Setting.{units_of}
use Rattle.md_winners.specs.Odds.{HasUnitOdds, HasUnitPays}
use Rattle.md_winners.proofs.UnitSales.{unit_sale, unit-sale, unit-odds-as, unit-pays-as}
use Rattle.md_iron_values.specs.Pools.{Pools}
use Rattle.md_iron_values.specs.VirtualValues.{IsPooledAuction}
use Rattle.md_iron_values.specs.Cuts.{cuts_of}
use Rattle.md_iron_values.specs.Odds.{pay_by}
use Rattle.md_iron_laws.specs.PoolOdds.{ArePoolOdds}
use Rattle.md_iron_laws.specs.Closed.{closed_point}
use Rattle.md_iron_laws.proofs.Optimal.{pools-optimal, closed-point}
use Rattle.md_iron_laws.proofs.PointRows.{pay-is}
use Rattle.md_iron_laws.proofs.Programs.{pools-program}
use Rattle.md_threshold_laws.specs.Mechanisms.{threshold_mechanism}
use Rattle.md_threshold_laws.proofs.Averages.{average_odds, average_den}
use Rattle.md_threshold_laws.proofs.MechanismLaws.{is-mechanism}
use Rattle.md_threshold_laws.proofs.AverageLaws.{are-pool-odds}
use Rattle.md_threshold_laws.proofs.BidderOdds.{has-odds, has-pays}

-- whatever mechanism of the units has odds of the pools, and the payments by them
pub odds-optimal : (a : SymmetricAuction) (units : ℕ) (pools : Pools) (den : ℤ) (q : ℕ → ℤ) (m : Mechanism) → IsAuction a → IsPooledAuction a pools → ArePoolOdds a units pools den q → IsMechanism (units_of a units) m
    → HasUnitOdds a units m den (list_to (value_count a) q) → HasUnitPays a units m den (list_to (value_count a) (pay_by (number_at a.values) q)) → IsOptimal (units_of a units) m
odds-optimal a units pools den q m shaped p are mechanism odds pays =
    let x = number_at (closed_point a q) in
    let at = closed-point a q in
    let (program, is) = pools-program a units pools in
    let same_odds : (interim_in a den x).odds ≡ list_to (value_count a) q = list_to-same (value_count a) x q at.odds in
    let same_pays : (interim_in a den x).pays ≡ list_to (value_count a) (pay_by (number_at a.values) q) = list_to-same (value_count a) (pay_in a x) (pay_by (number_at a.values) q) (pay-is a q x at) in
    sale-optimal a (unit_sale a units) (unit-sale a units) shaped (cuts_of (value_count a) pools) program is den x (pools-optimal a units pools program den q x shaped p is are at) m mechanism
    (unit-odds-as a units m den (interim_in a den x).odds (subst (λ odds. HasUnitOdds a units m den odds) (sym same_odds) odds))
    (unit-pays-as a units m den (interim_in a den x).pays (subst (λ pays. HasUnitPays a units m den pays) (sym same_pays) pays))

pub threshold-optimal : (a : SymmetricAuction) (units : ℕ) (pools : Pools) → IsAuction a → IsPooledAuction a pools → IsOptimal (units_of a units) (threshold_mechanism a units pools)
threshold-optimal a units pools shaped p =
    odds-optimal a units pools (average_den a) (average_odds a units pools) (threshold_mechanism a units pools) shaped p (are-pool-odds a units pools shaped p) (is-mechanism a units pools shaped p)
    (has-odds a units pools shaped p) (has-pays a units pools shaped p)
