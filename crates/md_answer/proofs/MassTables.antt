-- What masses keep that are a table of what is sold, and which numbers make such a table.
use Rattle.std.proofs.Common.{◌≡◌, ℕ, zero, suc, ◌-◌, ◌*◌, ◌^◌, ◌<◌, ◌≤◌, ℤ, pos, ◌*ℤ◌, ◌≤ℤ◌, ◌==◌, false, length, refl, sym, ap, subst, ◌∙◌, arith}
use Rattle.std.specs.Prelude.{unsigned_abs}
use Rattle.std.proofs.lemmas.Bool.Decides.{nat_tests}
use Rattle.std.proofs.lemmas.Int.{ints}
use Rattle.std.proofs.Math.IntN.{pos-*ℤ-pos}
use Rattle.md_math.specs.Sizes.{IsWithin}
use Rattle.md_math.specs.Sums.{sum_to}
use Rattle.md_math.proofs.Ring.{one-*ℤ}
use Rattle.md_math.proofs.SizeLaws.{IsWithin-wider}
use Rattle.md_setting.specs.Auction.{SymmetricAuction, value_count}
use Rattle.md_setting.specs.AuctionShaped.{IsAuction}
use Rattle.md_mech.specs.Accepted.{number_limit}
use Rattle.md_expost.specs.declared.masses.Masses.{Masses}
use Rattle.md_expost.specs.Masses.{rank_count, cap_at, mass_at}
use Rattle.md_expost.proofs.MassLaws.{cap-nonneg}
use Rattle.md_unit_tables.specs.Tables.{IsUnitTable}
use Rattle.md_unit_tables.proofs.MassLaws.{mass-within, table-of_masses}
use Rattle.md_answer.specs.MassReading.{most_mass, weight_at}
use Rattle.md_answer.specs.Supplies.{AreMassesOf, units_in}
use Rattle.md_answer.specs.declared.supply.Supply.{Supply}
use Rattle.md_answer.specs.declared.supply.Supply.TheVariants.{Item, Units}
use Rattle.md_answer.proofs.MassSteps.{count_of}

-- what the records of the masses keep
pub record AreTold (supply : Supply) (a : SymmetricAuction) (y : Masses) : Type 0 where
  pub den_positive : pos 1 ≤ℤ y.den
  pub den_size : y.den ≤ℤ pos number_limit
  pub whole : length y.rows ≡ rank_count a * value_count a
  pub nonneg : (rank v : ℕ) → rank < rank_count a → v < value_count a → pos 0 ≤ℤ mass_at a y rank v
  pub most : (rank v : ℕ) → rank < rank_count a → v < value_count a → unsigned_abs (mass_at a y rank v) ≤ most_mass supply (weight_at a y.den rank) (count_of a rank v)
  pub over : (rank : ℕ) → rank < rank_count a → sum_to (value_count a) (mass_at a y rank) ≤ℤ (pos (units_in supply) *ℤ cap_at a y.den rank)

size-of : (z : ℤ) → pos 0 ≤ℤ z → pos (unsigned_abs z) ≡ z
size-of z l = omega (arith, ints)

-- a product of a number that is not negative, by its size
by-size : (c : ℤ) (n : ℕ) → pos 0 ≤ℤ c → c *ℤ pos n ≡ pos (unsigned_abs c * n)
by-size c n l = ap (λ x. x *ℤ pos n) (sym (size-of c l)) ∙ pos-*ℤ-pos (unsigned_abs c) n

-- ---- a table is told so

-- it is a unit table of as many units
pub is-table : (supply : Supply) (a : SymmetricAuction) (y : Masses) → AreMassesOf supply a y → IsUnitTable a (units_in supply) y
is-table Item a y h = table-of_masses a y h
is-table (Units units) a y h = h

-- a mass is at most what may stand for its count
most-of_item : (count weight : ℕ) (z : ℤ) → (count ≡ 0 → z ≡ pos 0) → unsigned_abs z ≤ 2 ^ 126 - 1 → unsigned_abs z ≤ most_mass Item weight count
most-of_item zero weight z none l = let e : z ≡ pos 0 = none refl in rw e (omega arith)
most-of_item (suc count) weight z none l = rw (some count) l
  where
    some : (n : ℕ) → (suc n == 0) ≡ false
    some n = grind (arith, nat_tests)

most-of_units : (z c : ℤ) (n : ℕ) → pos 0 ≤ℤ c → z ≤ℤ (c *ℤ pos n) → pos 0 ≤ℤ z → unsigned_abs z ≤ unsigned_abs c * n
most-of_units z c n low l h = of_pos (subst (λ x. z ≤ℤ x) (by-size c n low) l)
  where
    of_pos : z ≤ℤ pos (unsigned_abs c * n) → unsigned_abs z ≤ unsigned_abs c * n
    of_pos m = omega (arith, ints, h, m)

mass-small : (a : SymmetricAuction) (units : ℕ) (y : Masses) (rank v : ℕ) → IsAuction a → IsUnitTable a units y → y.den ≤ℤ pos number_limit → rank < rank_count a → v < value_count a
    → IsWithin (2 ^ 126 - 1) (mass_at a y rank v)
mass-small a units y rank v h table small b l =
    IsWithin-wider (number_limit * 10 ^ 12 * 12) (2 ^ 126 - 1) (mass_at a y rank v) (omega arith) (mass-within a units y rank v h table small b l)

pub told-small : (supply : Supply) (a : SymmetricAuction) (y : Masses) (rank v : ℕ) → IsAuction a → AreMassesOf supply a y → y.den ≤ℤ pos number_limit → rank < rank_count a → v < value_count a
    → IsWithin (2 ^ 126 - 1) (mass_at a y rank v)
told-small supply a y rank v h are small b l = mass-small a (units_in supply) y rank v h (is-table supply a y are) small b l

told-most : (supply : Supply) (a : SymmetricAuction) (y : Masses) → IsAuction a → AreMassesOf supply a y → y.den ≤ℤ pos number_limit → (rank v : ℕ) → rank < rank_count a → v < value_count a
    → unsigned_abs (mass_at a y rank v) ≤ most_mass supply (weight_at a y.den rank) (count_of a rank v)
told-most Item a y h are small rank v b l =
    most-of_item (count_of a rank v) (weight_at a y.den rank) (mass_at a y rank v) (are.absent rank v b l) (mass-small a 1 y rank v h (table-of_masses a y are) small b l).within
told-most (Units units) a y h are small rank v b l =
    most-of_units (mass_at a y rank v) (cap_at a y.den rank) (count_of a rank v) (cap-nonneg a y.den rank are.den_positive) (are.each rank v b l) (are.nonneg rank v b l)

pub told-of_table : (supply : Supply) (a : SymmetricAuction) (y : Masses) → IsAuction a → AreMassesOf supply a y → y.den ≤ℤ pos number_limit → AreTold supply a y
told-of_table supply a y h are small =
    let table = is-table supply a y are in
    record {
      den_positive = table.den_positive;
      den_size = small;
      whole = table.whole;
      nonneg = table.nonneg;
      most = told-most supply a y h are small;
      over = table.over;
    }

-- ---- what is told is a table

none-at : (count weight : ℕ) (z : ℤ) → count ≡ 0 → unsigned_abs z ≤ most_mass Item weight count → z ≡ pos 0
none-at count weight z e l = let m : unsigned_abs z ≤ most_mass Item weight 0 = rw e at l in zero_of z m
  where
    zero_of : (z : ℤ) → unsigned_abs z ≤ 0 → z ≡ pos 0
    zero_of z l = omega (arith, ints)

each-of : (z c : ℤ) (n : ℕ) → pos 0 ≤ℤ c → unsigned_abs z ≤ unsigned_abs c * n → z ≤ℤ (c *ℤ pos n)
each-of z c n low l = subst (λ x. z ≤ℤ x) (sym (by-size c n low)) (below l)
  where
    below : unsigned_abs z ≤ unsigned_abs c * n → z ≤ℤ pos (unsigned_abs c * n)
    below l = omega (arith, ints, l)

pub table-of_told : (supply : Supply) (a : SymmetricAuction) (y : Masses) → AreTold supply a y → AreMassesOf supply a y
table-of_told Item a y h = record {
  den_positive = h.den_positive;
  den_size = h.den_size;
  whole = h.whole;
  nonneg = h.nonneg;
  absent = λ rank v b l none. none-at (count_of a rank v) (weight_at a y.den rank) (mass_at a y rank v) none (h.most rank v b l);
  over = λ rank b. subst (λ z. sum_to (value_count a) (mass_at a y rank) ≤ℤ z) (one-*ℤ (cap_at a y.den rank)) (h.over rank b);
}
table-of_told (Units units) a y h = record {
  den_positive = h.den_positive;
  whole = h.whole;
  nonneg = h.nonneg;
  each = λ rank v b l. each-of (mass_at a y rank v) (cap_at a y.den rank) (count_of a rank v) (cap-nonneg a y.den rank h.den_positive) (h.most rank v b l);
  over = h.over;
}
