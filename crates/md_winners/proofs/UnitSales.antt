-- Several units of an auction are a sale to its bidders. The odds and payments of its mechanisms are averages of what bidders win and
-- pay, and Border's condition is necessary.
use Rattle.std.proofs.Common.{◌≡◌, ℕ, ◌<◌, ◌≤◌, ℤ, pos, ◌*ℤ◌, ◌≤ℤ◌, if◌then◌else◌, List, refl, sym, ap, ◌∙◌, subst, arith}
use Rattle.std.proofs.lemmas.Int.{ints}
use Rattle.md_math.specs.Sums.{sum_to}
use Rattle.md_setting.specs.Meaning.{outcome_count}
use Rattle.md_setting.specs.Auction.{SymmetricAuction}
use Rattle.md_setting.specs.General.{general_of}
use Rattle.md_mech.specs.declared.mechanism.Mechanism.{Mechanism}
use Rattle.md_mech.specs.Mechanism.{IsMechanism}
use Rattle.md_mech.specs.Utility.{weighted_given}
use Rattle.md_border.specs.declared.interim.Interim.{Interim}
use Rattle.md_border.specs.Odds.{WinsAs, unit_excess_of}
use Rattle.md_border.proofs.Necessity.{sale-border}
use Rattle.md_border.proofs.Sales.{Sale, IsSaleOf, sale-given}
use Rattle.md_winners.specs.Sets.{holds, set_count, set_at}
use Rattle.md_winners.specs.Setting.{units_of}
use Rattle.md_winners.specs.Odds.{HasUnitOdds, HasUnitPays, win_in, paid_in}
use Rattle.md_winners.proofs.SetLaws.{length-set_at, size-set_at, size-sum_to}
use Rattle.md_winners.proofs.SettingLaws.{units-truth, units-rational, units-no_deficit, units-revenue, agent_count-units, outcome_count-units, sizes_of-units, weight_of-units, utility_of-units, outside_of-units, value-by_surplus}

-- a bidder gets a unit at the sets that hold it
abbrev pub unit_sale : SymmetricAuction → ℕ → Sale
unit_sale a units = record {
  units = units;
  kept = a.keep *ℤ pos units;
  setting = units_of a units;
  gets = λ o i. holds (set_at a.bidders units o) i;
  win = win_in a units;
}

enough : (n units o : ℕ) → o < set_count n units → sum_to n (λ i. if holds (set_at n units o) i then pos 1 else pos 0) ≤ℤ pos units
enough n units o l = subst (λ z. z ≤ℤ pos units) (size-sum_to n (set_at n units o) (length-set_at n units o l)) (few _ (size-set_at n units o l))
  where
    few : (k : ℕ) → k ≤ units → pos k ≤ℤ pos units
    few k h = omega (arith, ints)

pub unit-sale : (a : SymmetricAuction) (units : ℕ) → IsSaleOf a (unit_sale a units)
unit-sale a units = record {
  agents = agent_count-units a units;
  sizes = sizes_of-units a units;
  weight = weight_of-units a units;
  utility = λ i t o b l c. utility_of-units a units i t o b l (inside o c);
  outside = outside_of-units a units;
  value = λ t o h c. value-by_surplus a units t o h (inside o c);
  enough = λ o c. enough a.bidders units o (inside o c);
  wins = λ m i t b. refl;
  truth = units-truth a units;
  rational = units-rational a units;
  no_deficit = units-no_deficit a units;
  revenue = units-revenue a units;
}
  where
    inside : (o : ℕ) → o < outcome_count (units_of a units) → o < set_count a.bidders units
    inside o c = subst (λ n. o < n) (outcome_count-units a units) c

-- what f is over the profiles in which a bidder has a value, it is in the sale of one item
pub given-units : (a : SymmetricAuction) (units i v : ℕ) (f : List ℕ → ℤ) → weighted_given (units_of a units) i v f ≡ weighted_given (general_of a) i v f
given-units a units = sale-given a (unit_sale a units) (unit-sale a units)

-- ---- odds and payments

pub unit-odds-as : (a : SymmetricAuction) (units : ℕ) (m : Mechanism) (den : ℤ) (odds : List ℤ) → HasUnitOdds a units m den odds → WinsAs a (win_in a units m) m.den den odds
unit-odds-as a units m den odds h = record { wins = λ i v b l. sym (ap (λ z. den *ℤ z) (given-units a units i v (win_in a units m i))) ∙ h.wins i v b l }

pub unit-pays-as : (a : SymmetricAuction) (units : ℕ) (m : Mechanism) (den : ℤ) (pays : List ℤ) → HasUnitPays a units m den pays → WinsAs a (paid_in a units m) m.den den pays
unit-pays-as a units m den pays h = record { wins = λ i v b l. sym (ap (λ z. den *ℤ z) (given-units a units i v (paid_in a units m i))) ∙ h.paid i v b l }

-- and the other way round
pub has-unit_odds : (a : SymmetricAuction) (units : ℕ) (m : Mechanism) (den : ℤ) (odds : List ℤ) → WinsAs a (win_in a units m) m.den den odds → HasUnitOdds a units m den odds
has-unit_odds a units m den odds h = record { wins = λ i v b l. ap (λ z. den *ℤ z) (given-units a units i v (win_in a units m i)) ∙ h.wins i v b l }

pub has-unit_pays : (a : SymmetricAuction) (units : ℕ) (m : Mechanism) (den : ℤ) (pays : List ℤ) → WinsAs a (paid_in a units m) m.den den pays → HasUnitPays a units m den pays
has-unit_pays a units m den pays h = record { paid = λ i v b l. ap (λ z. den *ℤ z) (given-units a units i v (paid_in a units m i)) ∙ h.wins i v b l }

-- where some mechanism has the odds, no set of values asks for more units than there are
pub border-units : (a : SymmetricAuction) (units : ℕ) (interim : Interim) (set : ℕ) (m : Mechanism) → pos 1 ≤ℤ interim.den → IsMechanism (units_of a units) m → HasUnitOdds a units m interim.den interim.odds
    → unit_excess_of a units interim set ≤ℤ pos 0
border-units a units interim set m positive mechanism odds =
    sale-border a (unit_sale a units) interim set m (unit-sale a units) positive mechanism (unit-odds-as a units m interim.den interim.odds odds)
