-- The mechanism of a unit table is a mechanism of the units, and has the odds whose demands are the masses.
use Rattle.std.proofs.Common.{◌≡◌, ℕ, ◌<◌, ℤ, pos, ◌*ℤ◌, ◌≤ℤ◌, ◌<ℤ◌, true, false, Bool, if◌then◌else◌, List, refl, sym, ap, ◌∙◌, subst, arith}
use Rattle.std.specs.Prelude.{slice_index, unsigned_abs}
use Rattle.std.proofs.lemmas.Int.{ints}
use Rattle.std.proofs.Math.ListN.{replicate}
use Rattle.md_math.specs.Lists.{number_at}
use Rattle.md_math.specs.Sums.{sum_to}
use Rattle.md_math.proofs.Order.{le_from_lt}
use Rattle.md_math.proofs.SumLaws.{sum_to-same}
use Rattle.md_space.specs.Profiles.{IsProfile}
use Rattle.md_lp.proofs.WorstLaws.{worst-over}
use Rattle.md_setting.specs.Meaning.{outcome_count, sizes_of}
use Rattle.md_setting.specs.Auction.{SymmetricAuction, value_count}
use Rattle.md_setting.specs.AuctionShaped.{IsAuction}
use Rattle.md_setting.specs.General.{general_of}
use Rattle.md_setting.proofs.GeneralLaws.{sizes_of-general}
use Rattle.md_mech.specs.declared.mechanism.Mechanism.{Mechanism}
use Rattle.md_mech.specs.Mechanism.{IsMechanism}
use Rattle.md_mech.proofs.ByProfileLaws.{chance_of-mechanism_by, pay_of-mechanism_by, IsMechanism-mechanism_by}
use Rattle.md_border.specs.declared.interim.Interim.{Interim}
use Rattle.md_border.specs.Odds.{IsInterim, unit_excess_of}
use Rattle.md_expost.specs.declared.masses.Masses.{Masses}
use Rattle.md_expost.specs.Mechanisms.{all_orders, win_of, whole_of}
use Rattle.md_expost.proofs.MechanismLaws.{odds-of_wins, pays-of_kinds}
use Rattle.md_winners.specs.Sets.{holds, set_at}
use Rattle.md_winners.proofs.DrawLaws.{all-draws, draws-with}
use Rattle.md_winners.specs.Setting.{units_of}
use Rattle.md_winners.specs.Odds.{win_in, paid_in, HasUnitOdds, HasUnitPays, IsWorstUnitSet}
use Rattle.md_winners.proofs.SettingLaws.{units-payments, agent_count-units, outcome_count-units, sizes_of-units}
use Rattle.md_winners.proofs.UnitSales.{has-unit_odds, has-unit_pays, border-units}
use Rattle.md_unit_tables.specs.Tables.{IsUnitTable, ImplementsUnits, table_of}
use Rattle.md_unit_tables.specs.Mechanisms.{part_of, unit_lottery_of, unit_mechanism_of}
use Rattle.md_unit_tables.proofs.WinnerLaws.{AreParts, are-parts, none-absent, whole-positive, win-nonneg}

-- a profile of the units is one of the values
profile : (a : SymmetricAuction) (units : ℕ) (t : List ℕ) → IsProfile (sizes_of (units_of a units)) t → IsProfile (replicate a.bidders (value_count a)) t
profile a units t p = subst (λ sizes. IsProfile sizes t) (sizes_of-units a units ∙ sizes_of-general a) p

there : (a : SymmetricAuction) (units : ℕ) (t : List ℕ) → IsProfile (sizes_of (general_of a)) t → IsProfile (sizes_of (units_of a units)) t
there a units t p = subst (λ sizes. IsProfile sizes t) (sym (sizes_of-units a units)) p

-- what a bidder pays, by the kind of its value
abbrev paid : SymmetricAuction → List ℤ → ℕ → List ℕ → ℤ
paid a pays i t = number_at pays (slice_index t i) *ℤ pos (all_orders a)

size-of : (z : ℤ) → pos 0 ≤ℤ z → pos (unsigned_abs z) ≡ z
size-of z l = omega (arith, ints)

-- ---- a mechanism

pub mechanism-of_table : (a : SymmetricAuction) (units : ℕ) (y : Masses) (pays : List ℤ) → IsAuction a → IsUnitTable a units y → IsMechanism (units_of a units) (unit_mechanism_of a units y pays)
mechanism-of_table a units y pays h table =
    IsMechanism-mechanism_by (units_of a units) (whole_of a y) (unit_lottery_of a units y) (paid a pays)
    (record {
      positive = some (whole_of a y) (whole-positive a units y h table);
      not_negative = λ t o p l. nonneg _;
      whole = λ t p. all t (are-parts a units y t h table (profile a units t p));
      no_payment = λ off t i p l. off_is_on (units-payments a units) off;
    })
  where
    some : (z : ℤ) → pos 0 <ℤ z → pos 1 ≤ℤ z
    some z l = omega (arith, ints)

    nonneg : (m : ℕ) → pos 0 ≤ℤ pos m
    nonneg m = omega (arith, ints)

    off_is_on : {P : Type 0} {b : Bool} → b ≡ true → b ≡ false → P
    off_is_on e f = cc

    all : (t : List ℕ) → AreParts a.bidders units (unsigned_abs (whole_of a y)) (part_of a y t) → sum_to (outcome_count (units_of a units)) (unit_lottery_of a units y t) ≡ whole_of a y
    all t parts =
        ap (λ n. sum_to n (unit_lottery_of a units y t)) (outcome_count-units a units)
        ∙ all-draws a.bidders units (unsigned_abs (whole_of a y)) (part_of a y t) parts.some parts.each parts.all
        ∙ size-of (whole_of a y) (le_from_lt (pos 0) (whole_of a y) (whole-positive a units y h table))

-- ---- the odds

-- a bidder wins a unit as often as its part says
wins-part : (a : SymmetricAuction) (units : ℕ) (y : Masses) (pays : List ℤ) (i : ℕ) (t : List ℕ) → IsAuction a → IsUnitTable a units y → i < a.bidders → IsProfile (sizes_of (units_of a units)) t
    → win_in a units (unit_mechanism_of a units y pays) i t ≡ win_of a y t i
wins-part a units y pays i t h table b p =
    let s = units_of a units in
    let parts = are-parts a units y t h table (profile a units t p) in
    sum_to-same (outcome_count s) _ (λ o. if holds (set_at a.bidders units o) i then unit_lottery_of a units y t o else pos 0)
    (λ o l. ap (λ z. if holds (set_at a.bidders units o) i then z else pos 0) (chance_of-mechanism_by s (whole_of a y) (unit_lottery_of a units y) (paid a pays) t o p l))
    ∙ ap (λ n. sum_to n (λ o. if holds (set_at a.bidders units o) i then unit_lottery_of a units y t o else pos 0)) (outcome_count-units a units)
    ∙ draws-with a.bidders units (unsigned_abs (whole_of a y)) (part_of a y t) i parts.some parts.each parts.all b
    ∙ size-of (win_of a y t i) (win-nonneg a units y t i table (profile a units t p) b)

pub odds-of_table : (a : SymmetricAuction) (units : ℕ) (interim : Interim) (rows pays : List ℤ) → IsAuction a → IsUnitTable a units (table_of interim rows) → ImplementsUnits a interim rows
    → HasUnitOdds a units (unit_mechanism_of a units (table_of interim rows) pays) interim.den interim.odds
odds-of_table a units interim rows pays h table exact =
    let y = table_of interim rows in
    let m = unit_mechanism_of a units y pays in
    has-unit_odds a units m interim.den interim.odds
    (odds-of_wins a interim y (win_in a units m) h (none-absent a units y table) (record { same_den = refl; exact = exact.exact })
    (λ i t b p. wins-part a units y pays i t h table b (there a units t p)))

-- ---- the payments

-- each bidder with a value pays the same at each profile
pub pays-of_table : (a : SymmetricAuction) (units : ℕ) (y : Masses) (pays : List ℤ) → IsAuction a → HasUnitPays a units (unit_mechanism_of a units y pays) y.den pays
pays-of_table a units y pays h =
    let m = unit_mechanism_of a units y pays in
    has-unit_pays a units m y.den pays
    (pays-of_kinds a y pays (paid_in a units m) h
    (λ i t b p. pay_of-mechanism_by (units_of a units) (whole_of a y) (unit_lottery_of a units y) (paid a pays) t i (there a units t p) (omega (arith, agent_count-units a units, b))))

-- ---- no mechanism

-- where a set asks for more units than there are, no mechanism has the odds
pub no_mechanism : (a : SymmetricAuction) (units : ℕ) (interim : Interim) (set : ℕ) (m : Mechanism) → IsInterim a interim → IsWorstUnitSet a units interim set → IsMechanism (units_of a units) m
    → HasUnitOdds a units m interim.den interim.odds → ⊥
no_mechanism a units interim set m fits worst mechanism odds =
    worst-over (value_count a) (unit_excess_of a units interim) set worst (border-units a units interim set m fits.den_positive mechanism odds)
