-- What a verdict on an answer about an auction, or about several units, says, and what it shows.
use Rattle.std.proofs.Common.{◌≡◌, ◌≢◌, ◌↔◌, Result, Ok, Err, IfOk, Option, Some, None, IfSome, IsNone, ℕ, ℤ, pos, ◌≤ℤ◌, List, refl, sym, ◌∙◌, ap, subst, arith}
use Rattle.std.proofs.lemmas.Int.{ints}
use Rattle.std.proofs.lemmas.List.Elements.{All-get_or}
use Rattle.md_math.specs.Lists.{number_at}
use Rattle.md_math.proofs.FirstFailures.{HoldsBelow-no_failure}
use Rattle.md_num.specs.declared.frac.Frac.{Frac}
use Rattle.md_num.specs.declared.no_memory.NoMemory.{NoMemory}
use Rattle.md_setting.specs.Auction.{SymmetricAuction, value_count}
use Rattle.md_setting.specs.AuctionShaped.{IsAuction}
use Rattle.md_setting.specs.General.{general_of}
use Rattle.md_mech.specs.declared.mechanism.Mechanism.{Mechanism}
use Rattle.md_mech.specs.Mechanism.{IsMechanism}
use Rattle.md_mech.specs.Optimal.{IsOptimal}
use Rattle.md_lp.specs.Program.{Program, row_count}
use Rattle.md_lp.specs.Point.{IsPoint, Meets, MeetsRow}
use Rattle.md_lp.proofs.SamePrograms.{IsSameProgram}
use Rattle.md_border.specs.declared.interim.Interim.{Interim}
use Rattle.md_border.specs.Odds.{IsInterim, HasOdds, HasPays, WinsAs}
use Rattle.md_border.proofs.DemandLaws.{den-within}
use Rattle.md_border.proofs.MechanismWorth.{value-of_odds, value-of_wins}
use Rattle.md_border.proofs.Sales.{Sale, IsSaleOf, item_sale, item-sale, odds-as, paid_at, pays-as}
use Rattle.md_winners.specs.Odds.{HasUnitOdds, HasUnitPays}
use Rattle.md_winners.specs.Setting.{units_of}
use Rattle.md_winners.proofs.UnitSales.{unit_sale, unit-odds-as, unit-pays-as, unit-sale}
use Rattle.md_unit_tables.specs.Tables.{IsUnitTable, table_of}
use Rattle.md_unit_tables.specs.Worth.{HasUnitWorth}
use Rattle.md_unit_tables.proofs.FurtherUnits.{worth-of_one}
use Rattle.md_unit_tables.proofs.MechanismLaws.{mechanism-of_table, odds-of_table, pays-of_table}
use Rattle.md_expost.specs.declared.masses.Masses.{Masses}
use Rattle.md_expost.specs.Masses.{AreMasses}
use Rattle.md_expost.specs.Implementing.{Implements}
use Rattle.md_expost.proofs.MechanismLaws.{mechanism-of_masses, odds-of_masses, pays-of_masses}
use Rattle.md_cert.specs.declared.bound.Bound.{Bound}
use Rattle.md_cert.specs.declared.cert_fault.CertFault.{CertFault}
use Rattle.md_cert.specs.declared.cert_fault.CertFault.TheVariants as fault
use Rattle.md_cert.specs.declared.certificate.Certificate.{Certificate}
use Rattle.md_cert.specs.Certified.{Certified}
use Rattle.md_cert.specs.Claims.{IsOptimalPoint}
use Rattle.md_cert.specs.Fault.{BreaksRow, IsFirstFault}
use Rattle.md_cert.specs.Fitting.{FitsColumns, FitsRows, IsDenominator, Fits}
use Rattle.md_cert.proofs.Duality.{optimal-claim}
use Rattle.md_forms.proofs.OneProgram as forms
use Rattle.md_reduced.specs.Conditions.{conditions_of}
use Rattle.md_reduced.specs.Points.{interim_in}
use Rattle.md_reduced.specs.ProgramOf.{IsReducedProgram, column_count, forms_of}
use Rattle.md_reduced.specs.Sides.{cost_of}
use Rattle.md_reduced.proofs.BuiltLaws.{rows-count}
use Rattle.md_reduced.proofs.OptimalLaws.{sale-optimal}
use Rattle.md_parts.specs.Fitting.{AreMultipliers, IsBoundOver}
use Rattle.md_answer.specs.declared.answer.Answer.{Answer}
use Rattle.md_answer.specs.declared.answer.Answer.TheVariants.{Table, Optimal, Infeasible, Unbounded, AuctionOptimal, TooWide}
use Rattle.md_answer.specs.ReducedRows.{reduced_rows}
use Rattle.md_answer.specs.Supplies.{AreMassesOf, units_in}
use Rattle.md_answer.specs.declared.supply.Supply.{Supply}
use Rattle.md_answer.specs.declared.supply.Supply.TheVariants.{Item, Units}
use Rattle.md_claims.specs.AuctionCertificates.{auction_certificate, point_of}
use Rattle.md_claims.specs.AuctionClaims.{mechanism_in}
use Rattle.md_claims.proofs.AuctionPoints.{point-length, point-nonneg, point-within, interim-back}
use Rattle.md_question_check.specs.declared.verdict.Reject.TheVariants.{Audit, Value, Pair, Column, FaceRight, MainRight, RayRow, RayGain, Masses as OtherMass, Reduced, Level, Unmet}
use Rattle.md_question_check.specs.declared.verdict.Verdict.{Verdict}
use Rattle.md_question_check.specs.declared.verdict.Verdict.TheVariants.{Valid, Undecided, Rejected}
use Rattle.md_question_check.specs.Certificates.{IsBehindPoint, Judges}
use Rattle.md_check.specs.Verdicts.{ClaimsNothing}
use Rattle.md_check.specs.AuctionVerdicts.{HasMass, AddUp, OfReduced, IsOtherWorth, IsRightlyAuction, IsAuctionOptimalVerdict, IsVerdictFor, IsSoundAuctionOptimal, IsSoundFor, IsClaimed}
use Rattle.md_check.specs.UnitClaims.{unit_mechanism_in}
use Rattle.md_question_check.proofs.SameVerdict.{meets-to, row-first, judges-to}
use Rattle.md_question_check.proofs.VerdictLaws.{certified-no_fault}

-- ---- the program of some cuts is one

one-program : (a : SymmetricAuction) (units : ℕ) (cuts : List ℕ) (p q : Program) → IsReducedProgram a units cuts p → IsReducedProgram a units cuts q → IsSameProgram p q
one-program a units cuts p q = forms.same_program (column_count a) (forms_of a units (conditions_of (value_count a) cuts)) (cost_of a) p q

meets-all : (a : SymmetricAuction) (units : ℕ) (cuts : List ℕ) (p : Program) (den : ℤ) (x : ℕ → ℤ) → IsReducedProgram a units cuts p → Meets p den x → OfReduced a units cuts (λ q. Meets q den x)
meets-all a units cuts p den x is m = record { program = p; is_program = is; holds = λ q there. meets-to p q den x (one-program a units cuts q p there is) m }

breaks-all : (a : SymmetricAuction) (units : ℕ) (cuts : List ℕ) (p : Program) (den : ℤ) (x : ℕ → ℤ) (row : ℕ) (left right : ℤ) → IsReducedProgram a units cuts p → BreaksRow p den x row left right
    → OfReduced a units cuts (λ q. BreaksRow q den x row left right)
breaks-all a units cuts p den x row left right is b = record {
  program = p;
  is_program = is;
  holds = λ q there. row-first p q den x row left right (one-program a units cuts q p there is) b;
}

judged-all : (a : SymmetricAuction) (units : ℕ) (cuts : List ℕ) (p : Program) (c : Certificate) (v : Verdict) → IsReducedProgram a units cuts p → Judges p c v → OfReduced a units cuts (λ q. Judges q c v)
judged-all a units cuts p c v is j = record { program = p; is_program = is; holds = λ q there. judges-to p q c v (one-program a units cuts q p there is) j }

never : (a : SymmetricAuction) (units : ℕ) (cuts : List ℕ) (Has : Program → Type 0) → OfReduced a units cuts Has → ((p : Program) → Has p → ⊥) → ⊥
never a units cuts Has j none = none j.program (j.holds j.program j.is_program)

-- ---- sizes

fits-den : (a : SymmetricAuction) (interim : Interim) → IsInterim a interim → IsDenominator interim.den
fits-den a interim h = record { positive = (let one : pos 1 ≤ℤ interim.den = h.den_positive in omega (arith, ints)); size = den-within a interim h }

fits-point : (a : SymmetricAuction) (units : ℕ) (cuts : List ℕ) (p : Program) (interim : Interim) → IsReducedProgram a units cuts p → IsInterim a interim → FitsColumns p (point_of interim)
fits-point a units cuts p interim is h = record {
  one_each = point-length a interim h ∙ sym is.columns;
  sizes = point-within a interim h;
  nonneg = λ j b. All-get_or (λ z. pos 0 ≤ℤ z) (point_of interim) j (pos 0) (omega (arith, b, point-length a interim h, is.columns)) (point-nonneg a interim h);
}

fits-rows : (a : SymmetricAuction) (units : ℕ) (cuts : List ℕ) (p : Program) (numbers : List ℤ) → IsReducedProgram a units cuts p → AreMultipliers (reduced_rows a cuts) numbers → FitsRows p numbers
fits-rows a units cuts p numbers is h = record { one_each = h.one_each ∙ sym (rows-count a units cuts p is); sizes = h.sizes }

pub fits-auction : (a : SymmetricAuction) (units : ℕ) (cuts : List ℕ) (p : Program) (interim : Interim) (bound : Bound) → IsReducedProgram a units cuts p → IsInterim a interim
    → IsBoundOver (reduced_rows a cuts) bound → Fits p (auction_certificate interim bound)
fits-auction a units cuts p interim bound is h b = (
  fits-den a interim h,
  fits-point a units cuts p interim is h,
  record { den = b.den; main = fits-rows a units cuts p bound.main is b.main; face = fits-rows a units cuts p bound.face is b.face },
)

-- ---- the point

point-is : (a : SymmetricAuction) (units : ℕ) (cuts : List ℕ) (p : Program) (interim : Interim) → IsReducedProgram a units cuts p → IsInterim a interim → IsPoint p interim.den (number_at (point_of interim))
point-is a units cuts p interim is h = record { positive = (fits-den a interim h).positive; nonneg = (fits-point a units cuts p interim is h).nonneg }

-- where the first fault is none of the point, the point meets the program
met : (a : SymmetricAuction) (units : ℕ) (cuts : List ℕ) (p : Program) (interim : Interim) (bound : Bound) (found : Option CertFault) → IsReducedProgram a units cuts p → IsInterim a interim
    → IfSome found IsBehindPoint → (IsNone found ↔ Certified p (auction_certificate interim bound)) → IfSome found (IsFirstFault p (auction_certificate interim bound))
    → Meets p interim.den (number_at (point_of interim))
met a units cuts p interim bound None is h behind certified told = (certified.0 refl).meets
met a units cuts p interim bound (Some (fault.Point row left right)) is h behind certified told = absurd behind
met a units cuts p interim bound (Some (fault.Pair row f m)) is h behind certified told = record { point = point-is a units cuts p interim is h; rows = told.0 }
met a units cuts p interim bound (Some (fault.Column column f m)) is h behind certified told = record { point = point-is a units cuts p interim is h; rows = told.0 }
met a units cuts p interim bound (Some (fault.FaceRight sum)) is h behind certified told = record { point = point-is a units cuts p interim is h; rows = told.0 }
met a units cuts p interim bound (Some (fault.MainRight limit cost)) is h behind certified told = record { point = point-is a units cuts p interim is h; rows = told.0 }
met a units cuts p interim bound (Some (fault.RayRow row sum)) is h behind certified told = record { point = point-is a units cuts p interim is h; rows = told.0 }
met a units cuts p interim bound (Some (fault.RayGain sum)) is h behind certified told = record { point = point-is a units cuts p interim is h; rows = told.0 }

-- ---- the conditions in their order

-- the verdict on odds and payments whose masses, rows and value are right
rightly-verdict : (a : SymmetricAuction) (units : ℕ) (value : Frac) (interim : Interim) (masses : Masses) (cuts : List ℕ) (bound : Bound) (v : Verdict) → IsRightlyAuction a units value interim masses cuts
    → OfReduced a units cuts (λ p. Judges p (auction_certificate interim bound) v) → IsAuctionOptimalVerdict a units value interim masses cuts bound v
rightly-verdict a units value interim masses cuts bound Valid r j = (r, j)
rightly-verdict a units value interim masses cuts bound Undecided r j = (r, j)
rightly-verdict a units value interim masses cuts bound (Rejected (Audit broken)) r j = (r, j)
rightly-verdict a units value interim masses cuts bound (Rejected (Value right)) r j = absurd (never a units cuts (λ p. ⊥) j (λ p h. h))
rightly-verdict a units value interim masses cuts bound (Rejected (Pair row f m)) r j = (r, j)
rightly-verdict a units value interim masses cuts bound (Rejected (Column column f m)) r j = (r, j)
rightly-verdict a units value interim masses cuts bound (Rejected (FaceRight sum)) r j = (r, j)
rightly-verdict a units value interim masses cuts bound (Rejected (MainRight limit cost)) r j = (r, j)
rightly-verdict a units value interim masses cuts bound (Rejected (RayRow row sum)) r j = (r, j)
rightly-verdict a units value interim masses cuts bound (Rejected (RayGain sum)) r j = (r, j)
rightly-verdict a units value interim masses cuts bound (Rejected (Level level)) r j = (r, j)
rightly-verdict a units value interim masses cuts bound (Rejected (OtherMass kind sum demand)) r j = absurd (never a units cuts (λ p. ⊥) j (λ p h. h))
rightly-verdict a units value interim masses cuts bound (Rejected (Reduced row left right)) r j = absurd (never a units cuts (λ p. ⊥) j (λ p h. h))
rightly-verdict a units value interim masses cuts bound (Rejected (Unmet unmet)) r j = (r, j)

pub told-row : (a : SymmetricAuction) (units : ℕ) (value : Frac) (interim : Interim) (masses : Masses) (cuts : List ℕ) (bound : Bound) (p : Program) (row : ℕ) (left right : ℤ) → IsReducedProgram a units cuts p
    → AddUp a interim masses → IsFirstFault p (auction_certificate interim bound) (fault.Point row left right) → IsAuctionOptimalVerdict a units value interim masses cuts bound (Rejected (Reduced row left right))
told-row a units value interim masses cuts bound p row left right is add_up told = (add_up, breaks-all a units cuts p interim.den (number_at (point_of interim)) row left right is told)

pub told-value : (a : SymmetricAuction) (units : ℕ) (value right : Frac) (interim : Interim) (masses : Masses) (cuts : List ℕ) (bound : Bound) (p : Program) (found : Option CertFault) → IsReducedProgram a units cuts p
    → IsInterim a interim → AddUp a interim masses → IfSome found IsBehindPoint → (IsNone found ↔ Certified p (auction_certificate interim bound)) → IfSome found (IsFirstFault p (auction_certificate interim bound))
    → IsOtherWorth a units interim value right → IsAuctionOptimalVerdict a units value interim masses cuts bound (Rejected (Value right))
told-value a units value right interim masses cuts bound p found is h add_up behind certified told other =
    (add_up, meets-all a units cuts p interim.den (number_at (point_of interim)) is (met a units cuts p interim bound found is h behind certified told), other)

pub told-fault : (a : SymmetricAuction) (units : ℕ) (value : Frac) (interim : Interim) (masses : Masses) (cuts : List ℕ) (bound : Bound) (p : Program) (found : Option CertFault) (v : Verdict)
    → IsReducedProgram a units cuts p → IsInterim a interim → AddUp a interim masses → IfSome found IsBehindPoint → (IsNone found ↔ Certified p (auction_certificate interim bound))
    → IfSome found (IsFirstFault p (auction_certificate interim bound)) → HasUnitWorth a units interim value → Judges p (auction_certificate interim bound) v → IsAuctionOptimalVerdict a units value interim masses cuts bound v
told-fault a units value interim masses cuts bound p found v is h add_up behind certified told worth j =
    rightly-verdict a units value interim masses cuts bound v
    (record {
      add_up = add_up;
      meets = meets-all a units cuts p interim.den (number_at (point_of interim)) is (met a units cuts p interim bound found is h behind certified told);
      worth = worth;
    })
    (judged-all a units cuts p (auction_certificate interim bound) v is j)

-- ---- where all conditions hold the verdict is valid

optimal-sound : (a : SymmetricAuction) (units : ℕ) (p : Program) (value : Frac) (interim : Interim) (masses : Masses) (cuts : List ℕ) (bound : Bound) (v : Verdict)
    → IsAuctionOptimalVerdict a units value interim masses cuts bound v → IsSoundAuctionOptimal a units p value interim masses cuts bound → v ≡ Valid
optimal-sound a units p value interim masses cuts bound Valid v h = refl
optimal-sound a units p value interim masses cuts bound Undecided v h = absurd (v.1.holds p h.is_program)
optimal-sound a units p value interim masses cuts bound (Rejected (OtherMass kind sum demand)) v h = absurd (HoldsBelow-no_failure (HasMass a interim masses) (value_count a) kind h.add_up v.first)
optimal-sound a units p value interim masses cuts bound (Rejected (Reduced row left right)) v h =
    absurd (HoldsBelow-no_failure (MeetsRow p interim.den (number_at (point_of interim))) (row_count p) row h.certified.meets.rows (v.1.holds p h.is_program).first)
optimal-sound a units p value interim masses cuts bound (Rejected (Value right)) v h = absurd (v.2.other h.worth)
optimal-sound a units p value interim masses cuts bound (Rejected (Audit broken)) v h = absurd (certified-no_fault p (auction_certificate interim bound) (Audit broken) h.certified (v.1.holds p h.is_program))
optimal-sound a units p value interim masses cuts bound (Rejected (Pair row f m)) v h = absurd (certified-no_fault p (auction_certificate interim bound) (Pair row f m) h.certified (v.1.holds p h.is_program))
optimal-sound a units p value interim masses cuts bound (Rejected (Column column f m)) v h = absurd (certified-no_fault p (auction_certificate interim bound) (Column column f m) h.certified (v.1.holds p h.is_program))
optimal-sound a units p value interim masses cuts bound (Rejected (FaceRight sum)) v h = absurd (certified-no_fault p (auction_certificate interim bound) (FaceRight sum) h.certified (v.1.holds p h.is_program))
optimal-sound a units p value interim masses cuts bound (Rejected (MainRight limit cost)) v h = absurd (certified-no_fault p (auction_certificate interim bound) (MainRight limit cost) h.certified (v.1.holds p h.is_program))
optimal-sound a units p value interim masses cuts bound (Rejected (RayRow row sum)) v h = absurd (certified-no_fault p (auction_certificate interim bound) (RayRow row sum) h.certified (v.1.holds p h.is_program))
optimal-sound a units p value interim masses cuts bound (Rejected (RayGain sum)) v h = absurd (certified-no_fault p (auction_certificate interim bound) (RayGain sum) h.certified (v.1.holds p h.is_program))
optimal-sound a units p value interim masses cuts bound (Rejected (Level level)) v h = absurd (certified-no_fault p (auction_certificate interim bound) (Level level) h.certified (v.1.holds p h.is_program))
optimal-sound a units p value interim masses cuts bound (Rejected (Unmet unmet)) v h = absurd (certified-no_fault p (auction_certificate interim bound) (Unmet unmet) h.certified (v.1.holds p h.is_program))

sound : (supply : Supply) (a : SymmetricAuction) (p : Program) (answer : Answer) (v : Verdict) → IsVerdictFor supply a answer v → IsSoundFor supply a p answer → v ≡ Valid
sound supply a p (AuctionOptimal value interim masses cuts bound) v is h = optimal-sound a (units_in supply) p value interim masses cuts bound v is h
sound supply a p (TooWide cuts first second) v is h = absurd h
sound supply a p (Table m) v is h = absurd h
sound supply a p (Optimal value m bound) v is h = absurd h
sound supply a p (Infeasible face) v is h = absurd h
sound supply a p (Unbounded m ray) v is h = absurd h

-- ---- undecided

optimal-decided : (a : SymmetricAuction) (units : ℕ) (value : Frac) (interim : Interim) (masses : Masses) (cuts : List ℕ) (bound : Bound) (v : Verdict)
    → IsAuctionOptimalVerdict a units value interim masses cuts bound v → v ≢ Undecided
optimal-decided a units value interim masses cuts bound Valid v = λ e. cc
optimal-decided a units value interim masses cuts bound Undecided v = absurd (never a units cuts (λ p. ⊥) v.1 (λ p h. h))
optimal-decided a units value interim masses cuts bound (Rejected reject) v = λ e. cc

undecided : (supply : Supply) (a : SymmetricAuction) (answer : Answer) (v : Verdict) → IsVerdictFor supply a answer v → (v ≡ Undecided) ↔ ClaimsNothing answer
undecided supply a (AuctionOptimal value interim masses cuts bound) v is = (λ e. absurd (optimal-decided a (units_in supply) value interim masses cuts bound v is e), λ n. absurd n)
undecided supply a (TooWide cuts first second) v is = (λ e. tt, λ n. is)
undecided supply a (Table m) v is = absurd is
undecided supply a (Optimal value m bound) v is = absurd is
undecided supply a (Infeasible face) v is = absurd is
undecided supply a (Unbounded m ray) v is = absurd is

-- ---- what is claimed

-- a mechanism of a sale that has the odds and payments of a valid answer is optimal
best-of : (a : SymmetricAuction) (sale : Sale) (value : Frac) (interim : Interim) (masses : Masses) (cuts : List ℕ) (bound : Bound) (m : Mechanism) → IsSaleOf a sale → IsAuction a → IsInterim a interim
    → IsAuctionOptimalVerdict a sale.units value interim masses cuts bound Valid → IsMechanism sale.setting m
    → WinsAs a (sale.win m) m.den interim.den interim.odds → WinsAs a (paid_at sale m) m.den interim.den interim.pays → IsOptimal sale.setting m
best-of a sale value interim masses cuts bound m of shaped h v mechanism odds pays =
    sale-optimal a sale of shaped cuts p v.1.is_program interim.den x greatest m mechanism
    (subst (λ (i : Interim). WinsAs a (sale.win m) m.den interim.den i.odds) (sym back) odds)
    (subst (λ (i : Interim). WinsAs a (paid_at sale m) m.den interim.den i.pays) (sym back) pays)
  where
    p : Program
    p = v.1.program

    x : ℕ → ℤ
    x = number_at (point_of interim)

    greatest : IsOptimalPoint p interim.den x
    greatest = optimal-claim p interim.den bound.den x (number_at bound.main) (number_at bound.face) (v.1.holds p v.1.is_program)

    back : interim_in a interim.den x ≡ interim
    back = interim-back a interim h

-- the item
item-claim : (a : SymmetricAuction) (value : Frac) (interim : Interim) (masses : Masses) (cuts : List ℕ) (bound : Bound) → IsAuction a → IsInterim a interim → AreMasses a masses
    → masses.den ≡ interim.den → IsAuctionOptimalVerdict a 1 value interim masses cuts bound Valid → IsClaimed Item a value interim masses
item-claim a value interim masses cuts bound shaped h are same_den v = (
  record {
    optimal = best-of a (item_sale a) value interim masses cuts bound m (item-sale a) shaped h v mechanism (odds-as a m interim.den interim.odds odds) (pays-as a m interim.den interim.pays pays);
    odds = odds;
    pays = pays;
  },
  value-of_odds a m interim value shaped h.den_positive mechanism odds pays (worth-of_one a interim value v.0.worth),
)
  where
    m : Mechanism
    m = mechanism_in a interim masses

    mechanism : IsMechanism (general_of a) m
    mechanism = mechanism-of_masses a masses interim.pays shaped are

    exact : Implements a interim masses
    exact = record { same_den = same_den; exact = λ k l. v.0.add_up.holds k l }

    odds : HasOdds a m interim.den interim.odds
    odds = odds-of_masses a interim masses interim.pays shaped are exact

    pays : HasPays a m interim.den interim.pays
    pays = subst (λ d. HasPays a m d interim.pays) same_den (pays-of_masses a masses interim.pays shaped)

-- several units
units-claim : (a : SymmetricAuction) (units : ℕ) (value : Frac) (interim : Interim) (rows : List ℤ) (cuts : List ℕ) (bound : Bound) → IsAuction a → IsInterim a interim → IsUnitTable a units (table_of interim rows)
    → IsAuctionOptimalVerdict a units value interim (table_of interim rows) cuts bound Valid → IsClaimed (Units units) a value interim (table_of interim rows)
units-claim a units value interim rows cuts bound shaped h table v = (
  record {
    optimal = best-of a (unit_sale a units) value interim (table_of interim rows) cuts bound m (unit-sale a units) shaped h v mechanism won paid;
    odds = odds;
    pays = pays;
  },
  value-of_wins a (unit_sale a units) m interim shaped (unit-sale a units) mechanism won paid value h.den_positive v.0.worth,
)
  where
    m : Mechanism
    m = unit_mechanism_in a units interim (table_of interim rows)

    mechanism : IsMechanism (units_of a units) m
    mechanism = mechanism-of_table a units (table_of interim rows) interim.pays shaped table

    odds : HasUnitOdds a units m interim.den interim.odds
    odds = odds-of_table a units interim rows interim.pays shaped table (record { exact = λ k l. v.0.add_up.holds k l })

    pays : HasUnitPays a units m interim.den interim.pays
    pays = pays-of_table a units (table_of interim rows) interim.pays shaped

    won : WinsAs a ((unit_sale a units).win m) m.den interim.den interim.odds
    won = unit-odds-as a units m interim.den interim.odds odds

    paid : WinsAs a (paid_at (unit_sale a units) m) m.den interim.den interim.pays
    paid = unit-pays-as a units m interim.den interim.pays pays

valid-claim : (supply : Supply) (a : SymmetricAuction) (value : Frac) (interim : Interim) (masses : Masses) (cuts : List ℕ) (bound : Bound) → IsAuction a → IsInterim a interim → AreMassesOf supply a masses
    → masses.den ≡ interim.den → IsAuctionOptimalVerdict a (units_in supply) value interim masses cuts bound Valid → IsClaimed supply a value interim masses
valid-claim Item a value interim masses cuts bound shaped h are same_den v = item-claim a value interim masses cuts bound shaped h are same_den v
valid-claim (Units units) a value interim masses cuts bound shaped h are same_den v =
    subst (IsClaimed (Units units) a value interim) same
    (units-claim a units value interim masses.rows cuts bound shaped h (subst (IsUnitTable a units) (sym same) are)
    (subst (λ (y : Masses). IsAuctionOptimalVerdict a units value interim y cuts bound Valid) (sym same) v))
  where
    same : table_of interim masses.rows ≡ masses
    same = ap (λ (d : ℤ). record { den = d; rows = masses.rows }) (sym same_den)

claimed : (supply : Supply) (a : SymmetricAuction) (value : Frac) (interim : Interim) (masses : Masses) (cuts : List ℕ) (bound : Bound) (v : Verdict) → IsAuction a → IsInterim a interim → AreMassesOf supply a masses
    → masses.den ≡ interim.den → IsAuctionOptimalVerdict a (units_in supply) value interim masses cuts bound v → v ≡ Valid → IsClaimed supply a value interim masses
claimed supply a value interim masses cuts bound v shaped h are same_den is valid =
    valid-claim supply a value interim masses cuts bound shaped h are same_den (subst (IsAuctionOptimalVerdict a (units_in supply) value interim masses cuts bound) valid is)

-- ---- the answer of a call

pub if_add_up : (a : SymmetricAuction) (units : ℕ) (value : Frac) (interim : Interim) (masses : Masses) (cuts : List ℕ) (bound : Bound) (r : Result Verdict NoMemory) → AddUp a interim masses
    → IfOk r (λ v. (y : Masses) → AddUp a interim y → IsAuctionOptimalVerdict a units value interim y cuts bound v) → IfOk r (IsAuctionOptimalVerdict a units value interim masses cuts bound)
if_add_up a units value interim masses cuts bound (Ok v) add_up is = is masses add_up
if_add_up a units value interim masses cuts bound (Err e) add_up is = tt

pub if_claimed : (supply : Supply) (a : SymmetricAuction) (value : Frac) (interim : Interim) (masses : Masses) (cuts : List ℕ) (bound : Bound) (r : Result Verdict NoMemory) → IsAuction a → IsInterim a interim
    → AreMassesOf supply a masses → masses.den ≡ interim.den → IfOk r (IsAuctionOptimalVerdict a (units_in supply) value interim masses cuts bound)
    → IfOk r (λ v. v ≡ Valid → IsClaimed supply a value interim masses)
if_claimed supply a value interim masses cuts bound (Ok v) shaped h are same_den is = claimed supply a value interim masses cuts bound v shaped h are same_den is
if_claimed supply a value interim masses cuts bound (Err e) shaped h are same_den is = tt

pub if_sound : (supply : Supply) (a : SymmetricAuction) (answer : Answer) (r : Result Verdict NoMemory) → IfOk r (IsVerdictFor supply a answer) → IfOk r (λ v. (p : Program) → IsSoundFor supply a p answer → v ≡ Valid)
if_sound supply a answer (Ok v) is = λ p h. sound supply a p answer v is h
if_sound supply a answer (Err e) is = tt

pub if_undecided : (supply : Supply) (a : SymmetricAuction) (answer : Answer) (r : Result Verdict NoMemory) → IfOk r (IsVerdictFor supply a answer) → IfOk r (λ v. (v ≡ Undecided) ↔ ClaimsNothing answer)
if_undecided supply a answer (Ok v) is = undecided supply a answer v is
if_undecided supply a answer (Err e) is = tt
