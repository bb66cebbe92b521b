-- What a sale of one unit is worth, the auction of its item is worth.
use Rattle.std.proofs.Common.{◌≡◌, ℕ, ℤ, pos, ◌*ℤ◌, ◌≤ℤ◌, ◌<ℤ◌, refl, sym, ap, ◌∙◌, subst, arith}
use Rattle.std.proofs.lemmas.Int.{ints}
use Rattle.md_math.specs.Lists.{number_at}
use Rattle.md_math.specs.Sums.{sum_to}
use Rattle.md_math.proofs.Order.{*ℤ_cancel, ≤ℤ_antisymm}
use Rattle.md_math.proofs.Ring.{*ℤ-one, *ℤ-zero, one-*ℤ}
use Rattle.md_setting.specs.Auction.{SymmetricAuction, value_count}
use Rattle.md_setting.specs.AuctionShaped.{IsAuction}
use Rattle.md_setting.specs.General.{general_of}
use Rattle.md_mech.specs.declared.mechanism.Mechanism.{Mechanism}
use Rattle.md_mech.specs.Accepted.{number_limit}
use Rattle.md_mech.specs.Mechanism.{IsMechanism}
use Rattle.md_mech.specs.Optimal.{IsOptimal, worth_of}
use Rattle.md_mech.specs.Value.{IsValueOf}
use Rattle.md_border.specs.declared.interim.Interim.{Interim}
use Rattle.md_border.specs.Odds.{HasOdds, HasPays, IsInterim}
use Rattle.md_border.proofs.MechanismWorth.{others, worth-of_wins, worth_with}
use Rattle.md_border.proofs.Sales.{item-sale, item_sale, odds-as, pays-as, sale-total}
use Rattle.md_expost.specs.declared.masses.Masses.{Masses}
use Rattle.md_expost.specs.Masses.{AreMasses, cap_at, mass_at}
use Rattle.md_expost.specs.Mechanisms.{mechanism_of, whole_of}
use Rattle.md_expost.proofs.MechanismLaws.{mechanism-of_masses, odds-of_masses, pays-of_masses}
use Rattle.md_cert.specs.Claims.{IsOptimalPoint}
use Rattle.md_cert.proofs.Duality.{optimal-claim}
use Rattle.md_reduced.proofs.OptimalLaws.{makes-optimal}
use Rattle.md_winners.specs.Odds.{HasUnitOdds, HasUnitPays}
use Rattle.md_winners.specs.Setting.{units_of}
use Rattle.md_winners.proofs.UnitSales.{unit-odds-as, unit-pays-as, unit-sale, unit_sale}
use Rattle.md_unit_tables.specs.Tables.{ImplementsUnits, IsUnitTable, table_of}
use Rattle.md_units.specs.Solved.{IsSolvedUnits, mechanism_in}
use Rattle.md_units.specs.declared.units_answer.UnitsAnswer.{UnitsAnswer}
use Rattle.md_check.proofs.OptimalValues.{value-of_each}

-- a table of one unit is a mass table
masses-of_unit : (a : SymmetricAuction) (interim : Interim) (y : Masses) → y.den ≡ interim.den → IsInterim a interim → IsUnitTable a 1 y → AreMasses a y
masses-of_unit a interim y same fits table = record {
  den_positive = table.den_positive;
  den_size = subst (λ d. d ≤ℤ pos number_limit) (sym same) fits.den_size;
  whole = table.whole;
  nonneg = table.nonneg;
  absent = λ rank v b c none.
      ≤ℤ_antisymm (mass_at a y rank v) (pos 0)
      (subst (λ z. mass_at a y rank v ≤ℤ z) (ap (λ n. cap_at a y.den rank *ℤ pos n) none ∙ *ℤ-zero (cap_at a y.den rank)) (table.each rank v b c))
      (table.nonneg rank v b c);
  over = λ rank b. subst (λ z. sum_to (value_count a) (mass_at a y rank) ≤ℤ z) (one-*ℤ (cap_at a y.den rank)) (table.over rank b);
}

-- what is known of an answer about so many units
pub record IsSoldSo (a : SymmetricAuction) (width : ℕ) (answer : UnitsAnswer) (units : ℕ) : Type 0 where
  pub solved : IsSolvedUnits a units width answer
  pub table : IsUnitTable a units (table_of answer.interim answer.masses)
  pub optimal : IsOptimal (units_of a units) (mechanism_in a units answer)
  pub odds : HasUnitOdds a units (mechanism_in a units answer) answer.interim.den answer.interim.odds
  pub pays : HasUnitPays a units (mechanism_in a units answer) answer.interim.den answer.interim.pays
  pub value : IsValueOf (units_of a units) (mechanism_in a units answer) answer.value

module _ (a : SymmetricAuction) (width : ℕ) (answer : UnitsAnswer) (shaped : IsAuction a) (fits : IsInterim a answer.interim) (implements : ImplementsUnits a answer.interim answer.masses) where
  abbrev y : Masses
  y = table_of answer.interim answer.masses

  -- the mechanism of the item by the same table
  abbrev item : Mechanism
  item = mechanism_of a y answer.interim.pays

  module _ (h : IsSoldSo a width answer 1) where
    masses : AreMasses a y
    masses = masses-of_unit a answer.interim y refl fits h.table

    mechanism : IsMechanism (general_of a) item
    mechanism = mechanism-of_masses a y answer.interim.pays shaped masses

    odds : HasOdds a item answer.interim.den answer.interim.odds
    odds = odds-of_masses a answer.interim y answer.interim.pays shaped masses (record { same_den = refl; exact = implements.exact })

    pays : HasPays a item answer.interim.den answer.interim.pays
    pays = pays-of_masses a y answer.interim.pays shaped

    item-optimal : IsOptimal (general_of a) item
    item-optimal =
        let best = h.solved.optimum in
        let p = h.solved.ends.optimum_of.program in
        let is = h.solved.ends.optimum_of.is_program in
        let x = number_at best.point in
        let greatest : IsOptimalPoint p best.den x = optimal-claim p best.den best.bound.den x (number_at best.bound.main) (number_at best.bound.face) (h.solved.shown.certified p is) in
        makes-optimal a answer.cuts p shaped is item best.den x greatest mechanism
        (subst (λ (i : Interim). HasOdds a item i.den i.odds) h.solved.tells.interim odds)
        (subst (λ (i : Interim). HasPays a item i.den i.pays) h.solved.tells.interim pays)

    -- both mechanisms have one denominator and one worth
    same-worth : worth_of (units_of a 1) (mechanism_in a 1 answer) ≡ worth_of (general_of a) item
    same-worth =
        let den = answer.interim.den in
        *ℤ_cancel den (worth_of (units_of a 1) (mechanism_in a 1 answer)) (worth_of (general_of a) item) (above den fits.den_positive)
        (worth-of_wins a (unit_sale a 1) (mechanism_in a 1 answer) answer.interim shaped (unit-sale a 1) h.optimal.admissible.mechanism
        (unit-odds-as a 1 (mechanism_in a 1 answer) den answer.interim.odds h.odds) (unit-pays-as a 1 (mechanism_in a 1 answer) den answer.interim.pays h.pays)
        ∙ ap (λ kept. (whole_of a y *ℤ others a) *ℤ worth_with a kept answer.interim) (*ℤ-one a.keep)
        ∙ sym
        (worth-of_wins a (item_sale a) item answer.interim shaped (item-sale a) mechanism
        (odds-as a item den answer.interim.odds odds) (pays-as a item den answer.interim.pays pays)))
      where
        above : (z : ℤ) → pos 1 ≤ℤ z → pos 0 <ℤ z
        above z l = omega (arith, ints, l)

    of-one_unit : (n : Mechanism) → IsOptimal (general_of a) n → IsValueOf (general_of a) n answer.value
    of-one_unit n best =
        let v = answer.value in
        value-of_each (general_of a) item n v item-optimal
        (record {
          is_value = ap (λ t. v.num *ℤ (whole_of a y *ℤ t)) (sym (sale-total a (unit_sale a 1) (unit-sale a 1))) ∙ h.value.is_value ∙ ap (λ w. w *ℤ v.den) same-worth;
          least = h.value.least;
        })
        best

  pub if-one_unit : (units : ℕ) → IsSoldSo a width answer units → units ≡ 1 → (n : Mechanism) → IsOptimal (general_of a) n → IsValueOf (general_of a) n answer.value
  if-one_unit units h one = of-one_unit (subst (IsSoldSo a width answer) one h)
