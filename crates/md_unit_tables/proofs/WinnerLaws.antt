-- How often bidders win by a unit table at a profile: none more often than always, and together as many units as there are.
use Rattle.std.proofs.Common.{◌≡◌, ℕ, zero, suc, ◌+◌, ◌*◌, ◌<◌, ◌≤◌, ℤ, pos, ◌+ℤ◌, ◌*ℤ◌, ◌≤ℤ◌, ◌<ℤ◌, List, refl, sym, ap, ◌∙◌, subst, arith, inl, inr}
use Rattle.std.specs.Prelude.{slice_index, unsigned_abs}
use Rattle.std.proofs.lemmas.Bool.{cases_lt}
use Rattle.std.proofs.lemmas.Int.{ints}
use Rattle.std.proofs.Math.IntN.{pos-*ℤ-pos}
use Rattle.std.proofs.Math.ListN.{replicate}
use Rattle.md_math.specs.Sums.{sum_to}
use Rattle.md_math.proofs.Order.{le_from_lt, nonneg-*ℤ, positive-*ℤ, positive_pos, *ℤ-le, le_from_*ℤ}
use Rattle.md_math.proofs.Ring.{ring, *ℤ-zero, zero-*ℤ}
use Rattle.md_space.specs.Profiles.{IsProfile}
use Rattle.md_setting.specs.Auction.{SymmetricAuction, value_count}
use Rattle.md_setting.specs.AuctionShaped.{IsAuction}
use Rattle.md_counts.specs.Weights.{weight_of_counts}
use Rattle.md_counts.proofs.ListsOfValues.{HasOneRank, one_rank}
use Rattle.md_counts.proofs.RankLaws.{ranked}
use Rattle.md_expost.specs.declared.masses.Masses.{Masses}
use Rattle.md_expost.specs.Masses.{counts_in, cap_at, mass_at}
use Rattle.md_expost.specs.Mechanisms.{all_orders, share, win_of, whole_of}
use Rattle.md_expost.proofs.Shares.{all_orders-positive, weight-positive}
use Rattle.md_expost.proofs.Winners.{NoneAbsent, shared, win-at, wins-of_counts, value-below}
use Rattle.md_winners.specs.Draws.{start_of}
use Rattle.md_unit_tables.specs.Tables.{IsUnitTable, room_at}
use Rattle.md_unit_tables.specs.Mechanisms.{part_of}

nonneg_pos : (m : ℕ) → pos 0 ≤ℤ pos m
nonneg_pos m = omega (arith, ints)

-- ---- what a unit table keeps

-- where no bidder has a value there is no room
pub none-absent : (a : SymmetricAuction) (units : ℕ) (y : Masses) → IsUnitTable a units y → NoneAbsent a y
none-absent a units y table = λ rank v b l none.
    let room : room_at a y.den rank v ≡ pos 0 = ap (λ c. cap_at a y.den rank *ℤ pos c) none ∙ *ℤ-zero (cap_at a y.den rank) in
    nothing (mass_at a y rank v) (table.nonneg rank v b l) (subst (λ z. mass_at a y rank v ≤ℤ z) room (table.each rank v b l))
  where
    nothing : (z : ℤ) → pos 0 ≤ℤ z → z ≤ℤ pos 0 → z ≡ pos 0
    nothing z l m = omega (arith, ints)

above : (z : ℤ) → pos 1 ≤ℤ z → pos 0 <ℤ z
above z l = omega (arith, ints)

pub whole-positive : (a : SymmetricAuction) (units : ℕ) (y : Masses) → IsAuction a → IsUnitTable a units y → pos 0 <ℤ whole_of a y
whole-positive a units y h table = positive-*ℤ y.den (pos (all_orders a)) (above y.den table.den_positive) (positive_pos (all_orders a) (all_orders-positive a h))

-- ---- one bidder

pub win-nonneg : (a : SymmetricAuction) (units : ℕ) (y : Masses) (t : List ℕ) (i : ℕ) → IsUnitTable a units y → IsProfile (replicate a.bidders (value_count a)) t → i < a.bidders → pos 0 ≤ℤ win_of a y t i
win-nonneg a units y t i table p b = at (one_rank a.bidders (value_count a) t p)
  where
    at : HasOneRank a.bidders (value_count a) t → pos 0 ≤ℤ win_of a y t i
    at o =
        subst (λ z. pos 0 ≤ℤ z) (sym (win-at a y t i o))
        (nonneg-*ℤ (mass_at a y o.rank (slice_index t i)) _ (table.nonneg o.rank (slice_index t i) o.below (value-below a.bidders (value_count a) t i p b)) (nonneg_pos _))

-- a mass is at most its room, so that each bidder with its value wins at most always
most-of_room : (s w c o : ℕ) (m d : ℤ) → 0 < w → pos 0 <ℤ d → pos 0 ≤ℤ m → m ≤ℤ ((d *ℤ pos w) *ℤ pos c) → (c ≡ 0 → m ≡ pos 0) → (m *ℤ pos s) *ℤ (pos w *ℤ pos c) ≡ pos o *ℤ m
    → (m *ℤ pos s) ≤ℤ (d *ℤ pos o)
most-of_room s w c o m d some den low high none e = elim (cases_lt 0 c) [
  | inl p ↦
      let both : pos 0 <ℤ (pos w *ℤ pos c) = positive-*ℤ (pos w) (pos c) (positive_pos w some) (positive_pos c p) in
      let all : (pos o *ℤ m) ≤ℤ (pos o *ℤ ((d *ℤ pos w) *ℤ pos c)) = *ℤ-le (pos o) m _ (nonneg_pos o) high in
      le_from_*ℤ (pos w *ℤ pos c) (m *ℤ pos s) (d *ℤ pos o) both
      (subst (λ z. z ≤ℤ ((pos w *ℤ pos c) *ℤ (d *ℤ pos o))) (sym e ∙ turned m (pos s) (pos w *ℤ pos c))
      (subst (λ z. (pos o *ℤ m) ≤ℤ z) (parts (pos o) d (pos w) (pos c)) all))
  | inr z ↦
      subst (λ x. (x *ℤ pos s) ≤ℤ (d *ℤ pos o)) (sym (none (omega arith)))
      (subst (λ x. x ≤ℤ (d *ℤ pos o)) (sym (zero-*ℤ (pos s))) (nonneg-*ℤ d (pos o) (le_from_lt (pos 0) d den) (nonneg_pos o)))
]
  where
    turned : (x y z : ℤ) → (x *ℤ y) *ℤ z ≡ z *ℤ (x *ℤ y)
    turned x y z = simp ring

    parts : (o d w c : ℤ) → o *ℤ ((d *ℤ w) *ℤ c) ≡ (w *ℤ c) *ℤ (d *ℤ o)
    parts o d w c = simp ring

pub win-le : (a : SymmetricAuction) (units : ℕ) (y : Masses) (t : List ℕ) (i : ℕ) → IsAuction a → IsUnitTable a units y → IsProfile (replicate a.bidders (value_count a)) t → i < a.bidders
    → win_of a y t i ≤ℤ whole_of a y
win-le a units y t i h table p b = at (one_rank a.bidders (value_count a) t p)
  where
    at : HasOneRank a.bidders (value_count a) t → win_of a y t i ≤ℤ whole_of a y
    at o =
        let r = o.rank in
        let v = slice_index t i in
        let counts = counts_in a r in
        let l : v < value_count a = value-below a.bidders (value_count a) t i p b in
        let absent = none-absent a units y table in
        subst (λ z. z ≤ℤ whole_of a y) (sym (win-at a y t i o))
        (most-of_room (share a counts v) (weight_of_counts a.weights a.bidders counts) (slice_index counts v) (all_orders a) (mass_at a y r v) y.den
        (weight-positive a counts h (ranked (value_count a) a.bidders r o.below).counts) (above y.den table.den_positive)
        (table.nonneg r v o.below l) (table.each r v o.below l) (absent r v o.below l) (shared a y r v h absent o.below l))

-- ---- all bidders

pub wins-le : (a : SymmetricAuction) (units : ℕ) (y : Masses) (t : List ℕ) → IsAuction a → IsUnitTable a units y → IsProfile (replicate a.bidders (value_count a)) t
    → sum_to a.bidders (win_of a y t) ≤ℤ (pos units *ℤ whole_of a y)
wins-le a units y t h table p = at (one_rank a.bidders (value_count a) t p)
  where
    caps : (o d w n : ℤ) → o *ℤ (n *ℤ (d *ℤ w)) ≡ w *ℤ (n *ℤ (d *ℤ o))
    caps o d w n = simp ring

    at : HasOneRank a.bidders (value_count a) t → sum_to a.bidders (win_of a y t) ≤ℤ (pos units *ℤ whole_of a y)
    at o =
        let r = o.rank in
        let counts = counts_in a r in
        let w = weight_of_counts a.weights a.bidders counts in
        let k = value_count a in
        let most : (pos (all_orders a) *ℤ sum_to k (mass_at a y r)) ≤ℤ (pos (all_orders a) *ℤ (pos units *ℤ cap_at a y.den r)) =
        *ℤ-le (pos (all_orders a)) _ _ (nonneg_pos _) (table.over r o.below) in
        le_from_*ℤ (pos w) _ _ (positive_pos w (weight-positive a counts h (ranked k a.bidders r o.below).counts))
        (subst (λ z. z ≤ℤ (pos w *ℤ (pos units *ℤ whole_of a y))) (sym (wins-of_counts a y t o h (none-absent a units y table) p))
        (subst (λ z. (pos (all_orders a) *ℤ sum_to k (mass_at a y r)) ≤ℤ z) (caps (pos (all_orders a)) y.den (pos w) (pos units)) most))

-- ---- their parts as numbers of draws

-- where the stretch of a bidder begins, the parts of those before it end
starts : (n : ℕ) (f : ℕ → ℤ) → ((i : ℕ) → i < n → pos 0 ≤ℤ f i) → pos (start_of (λ i. unsigned_abs (f i)) n) ≡ sum_to n f
starts zero f low = refl
starts (suc n) f low = next (start_of (λ i. unsigned_abs (f i)) n) (sum_to n f) (f n) (starts n f (λ i b. low i (omega arith))) (low n (omega arith))
  where
    next : (s : ℕ) (x z : ℤ) → pos s ≡ x → pos 0 ≤ℤ z → pos (s + unsigned_abs z) ≡ x +ℤ z
    next s x z e l = omega (arith, ints)

-- the parts of a profile fit into the draws
pub record AreParts (n units whole : ℕ) (x : ℕ → ℕ) : Type 0 where
  pub some : 0 < whole
  pub each : (i : ℕ) → i < n → x i ≤ whole
  pub all : start_of x n ≤ units * whole

pub are-parts : (a : SymmetricAuction) (units : ℕ) (y : Masses) (t : List ℕ) → IsAuction a → IsUnitTable a units y → IsProfile (replicate a.bidders (value_count a)) t
    → AreParts a.bidders units (unsigned_abs (whole_of a y)) (part_of a y t)
are-parts a units y t h table p = record {
  some = above (whole_of a y) positive;
  each = λ i b. size-le (win_of a y t i) (whole_of a y) (win-nonneg a units y t i table p b) (win-le a units y t i h table p b);
  all =
      fewer _ units (whole_of a y) positive
      (subst (λ z. z ≤ℤ (pos units *ℤ whole_of a y)) (sym (starts a.bidders (win_of a y t) (λ i b. win-nonneg a units y t i table p b))) (wins-le a units y t h table p));
}
  where
    positive : pos 0 <ℤ whole_of a y
    positive = whole-positive a units y h table

    above : (z : ℤ) → pos 0 <ℤ z → 0 < unsigned_abs z
    above z l = omega (arith, ints)

    size-le : (x z : ℤ) → pos 0 ≤ℤ x → x ≤ℤ z → unsigned_abs x ≤ unsigned_abs z
    size-le x z l m = omega (arith, ints)

    size : (z : ℤ) → pos 0 <ℤ z → z ≡ pos (unsigned_abs z)
    size z l = omega (arith, ints)

    below : (m n : ℕ) → pos m ≤ℤ pos n → m ≤ n
    below m n l = omega (arith, ints)

    fewer : (s n : ℕ) (z : ℤ) → pos 0 <ℤ z → pos s ≤ℤ (pos n *ℤ z) → s ≤ n * unsigned_abs z
    fewer s n z l m = below s (n * unsigned_abs z) (subst (λ x. pos s ≤ℤ x) (ap (λ x. pos n *ℤ x) (size z l) ∙ pos-*ℤ-pos n (unsigned_abs z)) m)
