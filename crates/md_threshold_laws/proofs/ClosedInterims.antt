-- Odds and payments in closed form are those of the threshold rule, and none others are.
use Rattle.std.proofs.Common.{◌≡◌, ℕ, ◌<◌, ℤ, pos, ◌*ℤ◌, ◌≤ℤ◌, ◌<ℤ◌, List, sym, ap, ap₂, ◌∙◌, subst, arith}
use Rattle.std.proofs.lemmas.Int.{ints}
use lib.IntN.{*ℤ_comm}
use Rattle.md_math.specs.Lists.{number_at, list_to}
use Rattle.md_math.proofs.Builders.{list_to-get_or, list_to-same}
use Rattle.md_math.proofs.Order.{*ℤ-le, *ℤ_cancel, le_from_*ℤ, le_from_lt}
use Rattle.md_setting.specs.Auction.{SymmetricAuction, value_count}
use Rattle.md_setting.specs.AuctionShaped.{IsAuction}
use Rattle.md_mech.specs.declared.mechanism.Mechanism.{Mechanism}
use Rattle.md_mech.specs.Mechanism.{IsMechanism}
use Rattle.md_mech.specs.Optimal.{IsOptimal}
use Rattle.md_border.specs.declared.interim.Interim.{Interim}
use Rattle.md_winners.specs.Odds.{HasUnitOdds, HasUnitPays, MeetsUnitBorder}
use Rattle.md_winners.specs.Setting.{units_of}
use Rattle.md_winners.proofs.UnitSales.{border-units}
use Rattle.md_iron_values.specs.Odds.{pay_by}
use Rattle.md_iron_values.specs.Pools.{Pools}
use Rattle.md_iron_values.specs.VirtualValues.{IsPooledAuction}
use Rattle.md_iron_laws.specs.PoolOdds.{ArePoolOdds}
use Rattle.md_threshold_laws.specs.ClosedOdds.{AreClosedOdds, IsClosedInterim}
use Rattle.md_threshold_laws.specs.Interim.{interim_odds, interim_den}
use Rattle.md_threshold_laws.specs.Mechanisms.{threshold_mechanism}
use Rattle.md_threshold_laws.proofs.ClosedOdds.{closed-same}
use Rattle.md_threshold_laws.proofs.InterimLaws.{closed-interim, closed-odds, has-closed_odds, has-closed_pays, interim-most, interim-positive}
use Rattle.md_threshold_laws.proofs.MechanismLaws.{is-mechanism}
use Rattle.md_threshold_laws.proofs.Optimal.{odds-optimal}
use Rattle.md_threshold_laws.proofs.TruthLaws.{pay-same}

module _ (a : SymmetricAuction) (units : ℕ) (pools : Pools) (shaped : IsAuction a) (p : IsPooledAuction a pools) where
  -- nobody wins more often than always
  pub closed-most : (den : ℤ) (q : ℕ → ℤ) → AreClosedOdds a units pools den q → (v : ℕ) → v < value_count a → q v ≤ℤ den
  closed-most den q closed v b =
      let most = *ℤ-le den (interim_odds a units pools v) (interim_den a) (le_from_lt (pos 0) den closed.positive) (interim-most a units pools shaped p v) in
      le_from_*ℤ (interim_den a) (q v) den (interim-positive a units pools shaped p)
      (subst (λ z. z ≤ℤ (interim_den a *ℤ den)) (sym (closed-interim a units pools shaped p den q closed v b)) (subst (λ z. (den *ℤ interim_odds a units pools v) ≤ℤ z) (*ℤ_comm den (interim_den a)) most))

  module _ (interim : Interim) (closed : IsClosedInterim a units pools interim) where
    pub odds-listed : list_to (value_count a) (number_at interim.odds) ≡ interim.odds
    odds-listed = ap (λ n. list_to n (number_at interim.odds)) (sym closed.one_odds) ∙ list_to-get_or interim.odds (pos 0)

    pub are-odds : ArePoolOdds a units pools interim.den (number_at interim.odds)
    are-odds = closed-odds a units pools shaped p interim.den (number_at interim.odds) closed.odds

    pub has-interim_odds : HasUnitOdds a units (threshold_mechanism a units pools) interim.den interim.odds
    has-interim_odds =
        subst (HasUnitOdds a units (threshold_mechanism a units pools) interim.den) odds-listed (has-closed_odds a units pools shaped p interim.den (number_at interim.odds) closed.odds)

    pub has-interim_pays : HasUnitPays a units (threshold_mechanism a units pools) interim.den interim.pays
    has-interim_pays =
        subst (HasUnitPays a units (threshold_mechanism a units pools) interim.den) (sym closed.pays_are) (has-closed_pays a units pools shaped p interim.den (number_at interim.odds) closed.odds)

    -- no set of values asks for more units than there are
    pub interim-border : MeetsUnitBorder a units interim
    interim-border = record { none_over = λ set b. border-units a units interim set (threshold_mechanism a units pools) (one interim.den closed.odds.positive) (is-mechanism a units pools shaped p) has-interim_odds }
      where
        one : (z : ℤ) → pos 0 <ℤ z → pos 1 ≤ℤ z
        one z h = omega (arith, ints, h)

    -- whatever mechanism has them
    pub interim-optimal : (m : Mechanism) → IsMechanism (units_of a units) m → HasUnitOdds a units m interim.den interim.odds → HasUnitPays a units m interim.den interim.pays → IsOptimal (units_of a units) m
    interim-optimal m mechanism odds pays =
        odds-optimal a units pools interim.den (number_at interim.odds) m shaped p are-odds mechanism
        (subst (HasUnitOdds a units m interim.den) (sym odds-listed) odds) (subst (HasUnitPays a units m interim.den) closed.pays_are pays)

  -- no others are so
  pub interim-only : (one other : Interim) → IsClosedInterim a units pools one → IsClosedInterim a units pools other → one ≡ other
  interim-only one other h k =
      let same : (v : ℕ) → v < value_count a → number_at one.odds v ≡ number_at other.odds v =
      λ v b. *ℤ_cancel other.den (number_at one.odds v) (number_at other.odds v) k.odds.positive
      (closed-same a pools shaped p units other.den one.den (number_at other.odds) (number_at one.odds) k.odds h.odds v b ∙ ap (λ z. z *ℤ number_at other.odds v) dens) in
      alike one other dens
      (sym (odds-listed one h) ∙ list_to-same (value_count a) (number_at one.odds) (number_at other.odds) same ∙ odds-listed other k)
      (h.pays_are
      ∙ list_to-same (value_count a) _ _ (λ v b. pay-same (number_at a.values) (number_at one.odds) (number_at other.odds) v (λ u l. same u (omega (arith, l, b))))
      ∙ sym k.pays_are)
    where
      dens : one.den ≡ other.den
      dens = h.den_is ∙ sym k.den_is

      alike : (x y : Interim) → x.den ≡ y.den → x.odds ≡ y.odds → x.pays ≡ y.pays → x ≡ y
      alike x y d e f = (let odds = ap₂ (λ d o. record { den = d; odds = o; pays = x.pays }) d e in odds ∙ ap (λ l. record { den = y.den; odds = y.odds; pays = l }) f)
