-- What the bidders get together at a profile, by the mechanism of a mass table.
use Rattle.std.proofs.Common.{◌≡◌, ℕ, suc, ◌+◌, ◌*◌, ◌<◌, ℤ, pos, ◌+ℤ◌, ◌*ℤ◌, ◌≤ℤ◌, Bool, true, false, if◌then◌else◌, List, [], ◌∷◌, length, refl, sym, ap, ap₂, ◌∙◌, subst, arith, inl, inr, eqb}
use Rattle.std.specs.Prelude.{slice_index}
use Rattle.std.proofs.lemmas.Bool.{cases_lt}
use Rattle.std.proofs.lemmas.Int.{ints}
use Rattle.std.proofs.lemmas.List.{length-replicate, get_or-replicate}
use Rattle.std.proofs.Math.IntN.{pos-*ℤ-pos}
use Rattle.std.proofs.Math.ListN.{replicate}
use Rattle.md_math.specs.Sums.{sum_to}
use Rattle.md_math.proofs.Builders.{get_or-list_to}
use Rattle.md_math.proofs.Order.{nonneg-*ℤ, *ℤ-le, le_from_*ℤ, positive_pos, chosen-nonneg}
use Rattle.md_math.proofs.Regroup.{sum_to-by_key_count}
use Rattle.md_math.proofs.Ring.{ring, *ℤ_left_comm}
use Rattle.md_math.proofs.SumLaws.{sum_to-same, sum_to-single, sum_to-nonneg, sum_to-*ℤ, sum_to-front}
use Rattle.md_space.specs.Profiles.{IsProfile}
use Rattle.md_space.proofs.Ranks.{length-IsProfile, report-below}
use Rattle.md_setting.specs.Auction.{SymmetricAuction, value_count}
use Rattle.md_setting.specs.AuctionShaped.{IsAuction}
use Rattle.md_counts.specs.Weights.{count_in, weight_of_counts}
use Rattle.md_counts.proofs.ListsOfValues.{HasOneRank, one_rank}
use Rattle.md_counts.proofs.RankLaws.{ranked}
use Rattle.md_expost.specs.declared.masses.Masses.{Masses}
use Rattle.md_expost.specs.Masses.{AreMasses, counts_in, cap_at, mass_at, rank_count}
use Rattle.md_expost.specs.Mechanisms.{all_orders, share, win_of, whole_of}
use Rattle.md_expost.proofs.Shares.{weight-positive, share-exact}

-- no mass is of a value that no bidder has
abbrev pub NoneAbsent : SymmetricAuction → Masses → Type 0
NoneAbsent a y = (rank v : ℕ) → rank < rank_count a → v < value_count a → slice_index (counts_in a rank) v ≡ 0 → mass_at a y rank v ≡ pos 0

-- no mass is negative
abbrev pub NoneNegative : SymmetricAuction → Masses → Type 0
NoneNegative a y = (rank v : ℕ) → rank < rank_count a → v < value_count a → pos 0 ≤ℤ mass_at a y rank v

-- ---- one mass

-- the share of a mass, as often as its value comes, by the weight of the counts
pub shared : (a : SymmetricAuction) (y : Masses) (rank v : ℕ) → IsAuction a → NoneAbsent a y → rank < rank_count a → v < value_count a
    → (mass_at a y rank v *ℤ pos (share a (counts_in a rank) v)) *ℤ (pos (weight_of_counts a.weights a.bidders (counts_in a rank)) *ℤ pos (slice_index (counts_in a rank) v)) ≡ pos (all_orders a) *ℤ mass_at a y rank v
shared a y rank v h absent b l =
    let counts = counts_in a rank in
    let w = weight_of_counts a.weights a.bidders counts in
    let c = slice_index counts v in
    elim (cases_lt 0 c) [
      | inl p ↦
          times (mass_at a y rank v) (share a counts v) w c (all_orders a) (share-exact a counts v h (ranked (value_count a) a.bidders rank b).counts l p)
      | inr z ↦
          let none : mass_at a y rank v ≡ pos 0 = absent rank v b l (omega arith) in
          rw none (nothing (pos (share a counts v)) (pos w *ℤ pos c) (pos (all_orders a)))
    ]
  where
    times : (m : ℤ) (s w c o : ℕ) → s * (w * c) ≡ o → (m *ℤ pos s) *ℤ (pos w *ℤ pos c) ≡ pos o *ℤ m
    times m s w c o e = (let whole : pos s *ℤ (pos w *ℤ pos c) ≡ pos o = ap (λ z. pos s *ℤ z) (pos-*ℤ-pos w c) ∙ pos-*ℤ-pos s (w * c) ∙ ap pos e in first m (pos s) (pos w *ℤ pos c) ∙ ap (λ z. z *ℤ m) whole)
      where
        first : (m s z : ℤ) → (m *ℤ s) *ℤ z ≡ (s *ℤ z) *ℤ m
        first m s z = simp ring

    nothing : (s z o : ℤ) → (pos 0 *ℤ s) *ℤ z ≡ o *ℤ pos 0
    nothing s z o = simp ring

-- ---- at a profile

-- how often a value comes, counted over the bidders
pub count-places : (t : List ℕ) (v : ℕ) → sum_to (length t) (λ i. if eqb (slice_index t i) v then pos 1 else pos 0) ≡ pos (count_in v t)
count-places [] v = refl
count-places (x ∷ t) v =
    sum_to-front (length t) (λ i. if eqb (slice_index (x ∷ t) i) v then pos 1 else pos 0)
    ∙ ap₂ (λ y z. y +ℤ z) (one (eqb x v)) (sum_to-same (length t) _ _ (λ i b. ap (λ y. if eqb y v then pos 1 else pos 0) (behind i)) ∙ count-places t v)
    ∙ together (if eqb x v then 1 else 0) (count_in v t)
  where
    one : (s : Bool) → (if s then pos 1 else pos 0) ≡ pos (if s then 1 else 0)
    one true = refl
    one false = refl

    behind : (i : ℕ) → slice_index (x ∷ t) (i + 1) ≡ slice_index t i
    behind i = ap (slice_index (x ∷ t)) (let e : i + 1 ≡ suc i = omega arith in e)

    together : (m n : ℕ) → pos m +ℤ pos n ≡ pos (m + n)
    together m n = omega (arith, ints)

-- of all lists of counts a bidder wins only by that of the profile
pub win-at : (a : SymmetricAuction) (y : Masses) (t : List ℕ) (i : ℕ) (o : HasOneRank a.bidders (value_count a) t)
    → win_of a y t i ≡ mass_at a y o.rank (slice_index t i) *ℤ pos (share a (counts_in a o.rank) (slice_index t i))
win-at a y t i o =
    let won = λ (r : ℕ). mass_at a y r (slice_index t i) *ℤ pos (share a (counts_in a r) (slice_index t i)) in
    sum_to-single (rank_count a) o.rank _ o.below (λ r b d. ap (λ s. if s then won r else pos 0) (o.only r b d))
    ∙ ap (λ s. if s then won o.rank else pos 0) o.has

pub win-nonneg : (a : SymmetricAuction) (y : Masses) (t : List ℕ) (i : ℕ) → NoneNegative a y → slice_index t i < value_count a → pos 0 ≤ℤ win_of a y t i
win-nonneg a y t i nonnegative b =
    sum_to-nonneg (rank_count a) _ (λ r l. chosen-nonneg _ _ (nonneg-*ℤ (mass_at a y r (slice_index t i)) (pos (share a (counts_in a r) (slice_index t i))) (nonnegative r (slice_index t i) l b) (nonneg _)))
  where
    nonneg : (m : ℕ) → pos 0 ≤ℤ pos m
    nonneg m = omega (arith, ints)

pub value-below : (n k : ℕ) (t : List ℕ) (i : ℕ) → IsProfile (replicate n k) t → i < n → slice_index t i < k
value-below n k t i p b =
    subst (λ m. slice_index t i < m) (get_or-replicate n i k 0 b) (report-below (replicate n k) t i p (omega (arith, length-replicate n k, b)))

-- what all bidders get together, by their values
pub wins-by_value : (a : SymmetricAuction) (y : Masses) (t : List ℕ) (o : HasOneRank a.bidders (value_count a) t) → IsProfile (replicate a.bidders (value_count a)) t
    → sum_to a.bidders (win_of a y t) ≡ sum_to (value_count a) (λ v. (mass_at a y o.rank v *ℤ pos (share a (counts_in a o.rank) v)) *ℤ pos (slice_index (counts_in a o.rank) v))
wins-by_value a y t o p =
    let n = a.bidders in
    let k = value_count a in
    let g = λ (v : ℕ). mass_at a y o.rank v *ℤ pos (share a (counts_in a o.rank) v) in
    sum_to-same n _ (λ i. g (slice_index t i)) (λ i b. win-at a y t i o)
    ∙ sum_to-by_key_count k n (slice_index t) g (λ i b. value-below n k t i p b)
    ∙ sum_to-same k _ (λ v. g v *ℤ pos (slice_index (counts_in a o.rank) v)) (λ v b. ap (λ z. g v *ℤ z) (often v b))
  where
    long : length t ≡ a.bidders
    long = length-IsProfile _ t p ∙ length-replicate a.bidders (value_count a)

    often : (v : ℕ) → v < value_count a → sum_to a.bidders (λ i. if eqb (slice_index t i) v then pos 1 else pos 0) ≡ pos (slice_index (counts_in a o.rank) v)
    often v b =
        ap (λ m. sum_to m (λ i. if eqb (slice_index t i) v then pos 1 else pos 0)) (sym long)
        ∙ count-places t v
        ∙ ap pos (sym (ap (λ counts. slice_index counts v) o.is ∙ get_or-list_to (value_count a) (λ u. count_in u t) v 0 b))

-- as often as there are profiles with the counts, they get together what the masses of these counts say
pub wins-of_counts : (a : SymmetricAuction) (y : Masses) (t : List ℕ) (o : HasOneRank a.bidders (value_count a) t) → IsAuction a → NoneAbsent a y → IsProfile (replicate a.bidders (value_count a)) t
    → pos (weight_of_counts a.weights a.bidders (counts_in a o.rank)) *ℤ sum_to a.bidders (win_of a y t) ≡ pos (all_orders a) *ℤ sum_to (value_count a) (mass_at a y o.rank)
wins-of_counts a y t o h absent p =
    let r = o.rank in
    let counts = counts_in a r in
    let w = weight_of_counts a.weights a.bidders counts in
    let k = value_count a in
    let g = λ (v : ℕ). mass_at a y r v *ℤ pos (share a counts v) in
    ap (λ z. pos w *ℤ z) (wins-by_value a y t o p)
    ∙ sym (sum_to-*ℤ k (pos w) (λ v. g v *ℤ pos (slice_index counts v)))
    ∙ sum_to-same k _ (λ v. pos (all_orders a) *ℤ mass_at a y r v) (λ v b. *ℤ_left_comm (pos w) (g v) (pos (slice_index counts v)) ∙ shared a y r v h absent o.below b)
    ∙ sum_to-*ℤ k (pos (all_orders a)) (mass_at a y r)

-- they get no more than one item
pub wins-le : (a : SymmetricAuction) (y : Masses) (t : List ℕ) → IsAuction a → AreMasses a y → IsProfile (replicate a.bidders (value_count a)) t
    → sum_to a.bidders (win_of a y t) ≤ℤ whole_of a y
wins-le a y t h masses p = at (one_rank a.bidders (value_count a) t p)
  where
    nonneg : (m : ℕ) → pos 0 ≤ℤ pos m
    nonneg m = omega (arith, ints)

    caps : (o d w : ℤ) → o *ℤ (d *ℤ w) ≡ w *ℤ (d *ℤ o)
    caps o d w = simp ring

    at : HasOneRank a.bidders (value_count a) t → sum_to a.bidders (win_of a y t) ≤ℤ whole_of a y
    at o =
        let r = o.rank in
        let counts = counts_in a r in
        let w = weight_of_counts a.weights a.bidders counts in
        let k = value_count a in
        let most : (pos (all_orders a) *ℤ sum_to k (mass_at a y r)) ≤ℤ (pos (all_orders a) *ℤ cap_at a y.den r) =
        *ℤ-le (pos (all_orders a)) _ _ (nonneg _) (masses.over r o.below) in
        le_from_*ℤ (pos w) _ _ (positive_pos w (weight-positive a counts h (ranked k a.bidders r o.below).counts))
        (subst (λ z. z ≤ℤ (pos w *ℤ whole_of a y)) (sym (wins-of_counts a y t o h masses.absent p))
        (subst (λ z. (pos (all_orders a) *ℤ sum_to k (mass_at a y r)) ≤ℤ z) (caps (pos (all_orders a)) y.den (pos w)) most))
