-- How large the masses of unit tables are, and which tables are of one unit.
use Rattle.std.proofs.Common.{◌≡◌, ℕ, ◌*◌, ◌/◌, ◌^◌, ◌<◌, ◌≤◌, ℤ, pos, ◌*ℤ◌, ◌≤ℤ◌, zero, suc, length, sym, ap₂, ◌∙◌, subst, arith, mul-le-mul, le_refl, le_trans}
use Rattle.std.specs.Prelude.{slice_index}
use Rattle.std.proofs.lemmas.Int.{ints}
use Rattle.md_math.specs.Sizes.{IsWithin}
use Rattle.md_math.specs.Sums.{sum_to}
use Rattle.md_math.proofs.Order.{*ℤ-le}
use Rattle.md_math.proofs.Ring.{*ℤ-one, *ℤ-zero, one-*ℤ}
use Rattle.md_math.proofs.SizeLaws.{IsWithin-wider, IsWithin-*ℤ, sum_to-within}
use Rattle.md_math.proofs.SumLaws.{sum_to-at_least}
use Rattle.md_space.proofs.Walks.{divided}
use Rattle.md_setting.specs.Auction.{SymmetricAuction, value_count}
use Rattle.md_setting.specs.AuctionShaped.{IsAuction}
use Rattle.md_mech.specs.Accepted.{number_limit}
use Rattle.md_expost.specs.declared.masses.Masses.{Masses}
use Rattle.md_expost.specs.Masses.{AreMasses, rank_count, counts_in, cap_at, mass_at}
use Rattle.md_expost.proofs.MassLaws.{cap-nonneg, cap-within}
use Rattle.md_unit_tables.specs.Tables.{IsUnitTable, room_at}
use Rattle.md_unit_tables.proofs.NetLaws.{count-few}

-- ---- sizes

-- a mass is at most a unit for each bidder with the value
pub mass-within : (a : SymmetricAuction) (units : ℕ) (y : Masses) (rank v : ℕ) → IsAuction a → IsUnitTable a units y → y.den ≤ℤ pos number_limit → rank < rank_count a → v < value_count a
    → IsWithin (number_limit * 10 ^ 12 * 12) (mass_at a y rank v)
mass-within a units y rank v h table small b l =
    smaller (number_limit * 10 ^ 12 * 12) (mass_at a y rank v) (room_at a y.den rank v) (table.nonneg rank v b l) (table.each rank v b l)
    (IsWithin-*ℤ (number_limit * 10 ^ 12) 12 (cap_at a y.den rank) (pos (slice_index (counts_in a rank) v)) (cap-within a y.den rank h table.den_positive small b)
    (record { within = le_trans (count-few a rank v b l) h.few_bidders }))
  where
    smaller : (limit : ℕ) (x room : ℤ) → pos 0 ≤ℤ x → x ≤ℤ room → IsWithin limit room → IsWithin limit x
    smaller limit x room n l w = record { within = omega (arith, ints, n, l, w.within) }

-- and so is the sum of those of a value at the first lists of counts
pub masses-within : (a : SymmetricAuction) (units : ℕ) (y : Masses) (v k : ℕ) → IsAuction a → IsUnitTable a units y → y.den ≤ℤ pos number_limit → v < value_count a → k ≤ rank_count a
    → IsWithin (2 ^ 120) (sum_to k (λ rank. mass_at a y rank v))
masses-within a units y v k h table small l m =
    IsWithin-wider (k * (number_limit * 10 ^ 12 * 12)) (2 ^ 120) _ (of_few (few h.few_counts))
    (sum_to-within k (number_limit * 10 ^ 12 * 12) (λ rank. mass_at a y rank v) (λ r b. mass-within a units y r v h table small (omega (arith, b, m)) l))
  where
    few : rank_count a ≤ 20000 → k ≤ 20000
    few c = omega (arith, m, c)

    of_few : k ≤ 20000 → k * (number_limit * 10 ^ 12 * 12) ≤ 2 ^ 120
    of_few c = (let most : k * (number_limit * 10 ^ 12 * 12) ≤ 20000 * (number_limit * 10 ^ 12 * 12) = mul-le-mul c (le_refl (number_limit * 10 ^ 12 * 12)) in omega (arith, most))

-- how many lists of counts a table has
pub ranks-counted : (a : SymmetricAuction) (y : Masses) (long kinds : ℕ) → IsAuction a → length y.rows ≡ rank_count a * value_count a → long ≡ length y.rows → kinds ≡ value_count a → long / kinds ≡ rank_count a
ranks-counted a y long kinds h whole e f =
    ap₂ (λ m k. m / k) (e ∙ whole) f ∙ divided (value_count a) (rank_count a) (rank_count a * value_count a) (turned (rank_count a) (value_count a)) (some h.some_value)
  where
    turned : (m k : ℕ) → m * k ≡ k * m
    turned m k = omega arith

    some : 1 ≤ value_count a → 0 < value_count a
    some l = omega arith

-- ---- one unit

-- a mass table is a unit table of one unit
pub table-of_masses : (a : SymmetricAuction) (y : Masses) → AreMasses a y → IsUnitTable a 1 y
table-of_masses a y h = record {
  den_positive = h.den_positive;
  whole = h.whole;
  nonneg = h.nonneg;
  each = λ rank v b l.
      one-each (slice_index (counts_in a rank) v) (mass_at a y rank v) (cap_at a y.den rank) (cap-nonneg a y.den rank h.den_positive) (h.absent rank v b l)
      (all (mass_at a y rank v) _ (cap_at a y.den rank) (sum_to-at_least (value_count a) v (mass_at a y rank) l (λ u m. h.nonneg rank u b m)) (h.over rank b));
  over = λ rank b. subst (λ z. sum_to (value_count a) (mass_at a y rank) ≤ℤ z) (sym (one-*ℤ (cap_at a y.den rank))) (h.over rank b);
}
  where
    all : (x s c : ℤ) → x ≤ℤ s → s ≤ℤ c → x ≤ℤ c
    all x s c l m = omega (arith, ints)

    one-each : (n : ℕ) (x c : ℤ) → pos 0 ≤ℤ c → (n ≡ 0 → x ≡ pos 0) → x ≤ℤ c → x ≤ℤ (c *ℤ pos n)
    one-each zero x c low none l = let e : x ≡ pos 0 = none (omega arith) in let t = *ℤ-zero c in omega (arith, ints, e, t)
    one-each (suc n) x c low none l =
        all x c (c *ℤ pos (suc n)) l (subst (λ z. z ≤ℤ (c *ℤ pos (suc n))) (*ℤ-one c) (*ℤ-le c (pos 1) (pos (suc n)) low (some n)))
      where
        some : (m : ℕ) → pos 1 ≤ℤ pos (suc m)
        some m = omega (arith, ints)
