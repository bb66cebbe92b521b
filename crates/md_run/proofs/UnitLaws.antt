-- The draws of a unit table at a profile make the lottery of its mechanism.
use Rattle.std.proofs.Common.{◌≡◌, ℕ, zero, suc, ◌*◌, ◌/◌, ◌^◌, ◌<◌, ◌≤◌, ℤ, pos, ◌*ℤ◌, ◌≤ℤ◌, true, Bool, List, take, refl, sym, ap, ap₂, ◌∙◌, subst, inl, inr, arith, mul-pos}
use Rattle.std.specs.Prelude.{slice_index, unsigned_abs}
use Rattle.std.proofs.Math.IntN.{pos-*ℤ-pos}
use Rattle.std.proofs.Math.Nat as NatL
use Rattle.std.proofs.lemmas.Bool.{cases_lt}
use Rattle.std.proofs.lemmas.Int.{ints, unsigned_abs-mul}
use Rattle.md_math.specs.Lists.{number_at}
use Rattle.md_math.specs.Sizes.{IsWithin}
use Rattle.md_math.proofs.Builders.{get_or-list_to}
use Rattle.md_math.proofs.Order.{le_from_lt, same_number}
use Rattle.md_math.proofs.Ring.{ring}
use Rattle.md_space.specs.Profiles.{IsProfile}
use Rattle.md_setting.specs.Auction.{SymmetricAuction, value_count}
use Rattle.md_setting.specs.AuctionShaped.{IsAuction}
use Rattle.md_setting.proofs.GeneralLaws.{sizes_of-general}
use Rattle.md_mech.specs.Accepted.{number_limit}
use Rattle.md_mech.specs.Mechanism.{chance_of}
use Rattle.md_mech.proofs.ByProfileLaws.{chance_of-mechanism_by}
use Rattle.md_counts.specs.Weights.{count_in, counts_of, weight_of_counts}
use Rattle.md_counts.proofs.ListsOfValues.{HasOneRank, one_rank}
use Rattle.md_counts.proofs.RankLaws.{ranked}
use Rattle.md_expost.specs.declared.masses.Masses.{Masses}
use Rattle.md_expost.specs.Masses.{counts_in, rank_count, cap_at, mass_at}
use Rattle.md_expost.specs.Mechanisms.{all_orders, share, whole_of}
use Rattle.md_expost.proofs.MassLaws.{cap-nonneg, cap-within}
use Rattle.md_expost.proofs.Shares.{all_orders-positive, weight-positive, share-exact}
use Rattle.md_expost.proofs.Winners.{win-at, value-below}
use Rattle.md_winners.specs.Draws.{start_of, wins, winners, are_winners, draws}
use Rattle.md_winners.specs.Setting.{units_of}
use Rattle.md_winners.specs.Sets.{set_at, set_count}
use Rattle.md_winners.proofs.DrawLaws.{wins-draws, size-winners, are_winners-same, are_winners-winners}
use Rattle.md_winners.proofs.SetLaws.{length-set_at}
use Rattle.md_winners.proofs.SettingLaws.{outcome_count-units, sizes_of-units}
use Rattle.md_unit_tables.specs.Mechanisms.{part_of, unit_lottery_of, unit_mechanism_of}
use Rattle.md_unit_tables.specs.Tables.{IsUnitTable}
use Rattle.md_unit_tables.proofs.WinnerLaws.{AreParts, are-parts, whole-positive}
use Rattle.md_run.specs.Counting.{HasCountBelow}
use Rattle.md_run.specs.OfMasses.{AreReports, HasChance, cap_for, mass_for}
use Rattle.md_run.specs.OfUnits.{draws_each, draws_for, stretch_of, draws_with, IsUnitsLottery}
use Rattle.md_run.proofs.CountingLaws.{count-same, count-passed}
use Rattle.md_run.proofs.LotteryLaws.{size as size-of}
use Rattle.md_run.proofs.MassLaws.{mass-at_rank, cap-at_rank}
use Rattle.md_run.proofs.ReportLaws.{count_in-before, count_in-le, reports-length}
use Rattle.md_run.proofs.ScaleLaws.{without, same-without, start-same, start-scaled, draws-same, draws-scaled, size-list}

-- ---- equal parts of a unit of mass

pub each-divides : (m : ℕ) → 0 < m → m ≤ 12 → draws_each / m * m ≡ draws_each
unfolding draws_each
each-divides zero b l = absurd (omega (arith, b))
each-divides (suc zero) b l = refl
each-divides (suc (suc zero)) b l = refl
each-divides (suc (suc (suc zero))) b l = refl
each-divides (suc (suc (suc (suc zero)))) b l = refl
each-divides (suc (suc (suc (suc (suc zero))))) b l = refl
each-divides (suc (suc (suc (suc (suc (suc zero)))))) b l = refl
each-divides (suc (suc (suc (suc (suc (suc (suc zero))))))) b l = refl
each-divides (suc (suc (suc (suc (suc (suc (suc (suc zero)))))))) b l = refl
each-divides (suc (suc (suc (suc (suc (suc (suc (suc (suc zero))))))))) b l = refl
each-divides (suc (suc (suc (suc (suc (suc (suc (suc (suc (suc zero)))))))))) b l = refl
each-divides (suc (suc (suc (suc (suc (suc (suc (suc (suc (suc (suc zero))))))))))) b l = refl
each-divides (suc (suc (suc (suc (suc (suc (suc (suc (suc (suc (suc (suc zero)))))))))))) b l = refl
each-divides (suc (suc (suc (suc (suc (suc (suc (suc (suc (suc (suc (suc (suc m))))))))))))) b l = absurd (omega (arith, l))

some-each : 0 < draws_each
unfolding draws_each
some-each = omega arith

-- ---- products

-- a number that is not negative, so many times
pub times-size : (z : ℤ) (q : ℕ) → pos 0 ≤ℤ z → z *ℤ pos q ≡ pos (unsigned_abs z * q)
times-size z q h = ap (λ x. x *ℤ pos q) (sym (size-of z h)) ∙ pos-*ℤ-pos (unsigned_abs z) q

-- the draws, as often as all orders come
scale-draws : (cap big d w e s : ℕ) → cap ≡ d * w → big ≡ d * s → cap * e * s ≡ big * (w * e)
scale-draws cap big d w e s c b = ap (λ k. k * e * s) c ∙ turned ∙ ap (λ k. k * (w * e)) (sym b)
  where
    turned : d * w * e * s ≡ d * s * (w * e)
    turned = omega arith

-- and a part
scale-part : (m q s w c o e : ℕ) → s * (w * c) ≡ o → q * c ≡ e → m * q * o ≡ m * s * (w * e)
scale-part m q s w c o e f g = ap (λ k. m * q * k) (sym f) ∙ turned ∙ ap (λ k. m * s * (w * k)) g
  where
    turned : m * q * (s * (w * c)) ≡ m * s * (w * (q * c))
    turned = omega arith

some-factor : (w s b m : ℕ) → w * s ≡ b * m → 0 < b → 0 < m → 0 < w
some-factor w s b m e p q = elim (cases_lt 0 w) [
  | inl h ↦ h
  | inr none ↦
      let all : 0 < b * m = mul-pos {m = b} {n = m} p q in
      let nothing : w * s ≡ 0 = ap (λ k. k * s) (let f : w ≡ 0 = omega arith in f) ∙ (let f : 0 * s ≡ 0 = omega arith in f) in
      absurd (omega (arith, all, nothing, e))
]

-- two ratios of the same numbers
crossed : (p q whole big o m : ℕ) → 0 < o → whole * o ≡ big * m → q * o ≡ p * m → p * whole ≡ big * q
crossed p q whole big o m some e f = same-without (p * whole) (big * q) o some (first ∙ ap (λ k. p * k) e ∙ second ∙ ap (λ k. big * k) (sym f) ∙ third)
  where
    first : p * whole * o ≡ p * (whole * o)
    first = omega arith

    second : p * (big * m) ≡ big * (p * m)
    second = omega arith

    third : big * (q * o) ≡ big * q * o
    third = omega arith

-- ---- at a profile

module _ (a : SymmetricAuction) (units : ℕ) (y : Masses) (t : List ℕ) (shaped : IsAuction a) (table : IsUnitTable a units y) (p : AreReports a t) (o : HasOneRank a.bidders (value_count a) t) where
  abbrev weight : ℕ
  weight = weight_of_counts a.weights a.bidders (counts_in a o.rank)

  abbrev whole : ℕ
  whole = draws_for a y.den t

  abbrev big : ℕ
  big = unsigned_abs (whole_of a y)

  abbrev times : ℕ
  times = weight * draws_each

  orders-some : 0 < all_orders a
  orders-some = all_orders-positive a shaped

  times-some : 0 < times
  times-some = mul-pos {m = weight} {n = draws_each} (weight-positive a (counts_in a o.rank) shaped (ranked (value_count a) a.bidders o.rank o.below).counts) some-each

  draws-scale : whole * all_orders a ≡ big * times
  draws-scale =
      scale-draws (unsigned_abs (cap_for a y.den t)) big (unsigned_abs y.den) weight draws_each (all_orders a)
      (ap unsigned_abs (sym (cap-at_rank a y.den t o.rank o.is)) ∙ unsigned_abs-mul y.den (pos weight)) (unsigned_abs-mul y.den (pos (all_orders a)))

  -- a bidder
  value-in : (i : ℕ) → i < a.bidders → slice_index t i < value_count a
  value-in i b = value-below a.bidders (value_count a) t i p b

  count-is : (i : ℕ) → i < a.bidders → slice_index (counts_in a o.rank) (slice_index t i) ≡ count_in (slice_index t i) t
  count-is i b = ap (λ counts. slice_index counts (slice_index t i)) o.is ∙ get_or-list_to (value_count a) (λ u. count_in u t) (slice_index t i) 0 (value-in i b)

  mass-is : (v : ℕ) → mass_for a y t v ≡ mass_at a y o.rank v
  mass-is v = mass-at_rank a y t o.rank v p o.below o.is

  pub count-some : (i : ℕ) → i < a.bidders → 0 < count_in (slice_index t i) t
  count-some i b = (let more : count_in (slice_index t i) (take i t) < count_in (slice_index t i) t = count_in-before (slice_index t i) t i (omega (arith, b, reports-length a.bidders (value_count a) t p)) refl in omega (arith, more))

  count-few : (i : ℕ) → count_in (slice_index t i) t ≤ 12
  count-few i = omega (arith, count_in-le (slice_index t i) t, reports-length a.bidders (value_count a) t p, shaped.few_bidders)

  part-whole : (i : ℕ) → i < a.bidders → draws_each / count_in (slice_index t i) t * count_in (slice_index t i) t ≡ draws_each
  part-whole i b = each-divides (count_in (slice_index t i) t) (count-some i b) (count-few i)

  part-scale : (i : ℕ) → i < a.bidders → stretch_of a y t i * all_orders a ≡ part_of a y t i * times
  part-scale i b =
      let v = slice_index t i in
      let c = count_in v t in
      let m = unsigned_abs (mass_at a y o.rank v) in
      let s = share a (counts_in a o.rank) v in
      let some : 0 < slice_index (counts_in a o.rank) v = subst (λ k. 0 < k) (sym (count-is i b)) (count-some i b) in
      let exact : s * (weight * c) ≡ all_orders a =
      subst (λ k. s * (weight * k) ≡ all_orders a) (count-is i b) (share-exact a (counts_in a o.rank) v shaped (ranked (value_count a) a.bidders o.rank o.below).counts (value-in i b) some) in
      ap (λ z. unsigned_abs z * (draws_each / c) * all_orders a) (mass-is v)
      ∙ scale-part m (draws_each / c) s weight c (all_orders a) draws_each exact (part-whole i b)
      ∙ ap (λ k. k * times) (sym (ap unsigned_abs (win-at a y t i o) ∙ unsigned_abs-mul (mass_at a y o.rank v) (pos s)))

  parts : AreParts a.bidders units big (part_of a y t)
  parts = are-parts a units y t shaped table p

  -- the stretches fit into the draws
  pub stretches-fit : AreParts a.bidders units whole (stretch_of a y t)
  stretches-fit = record {
    some = some-factor whole (all_orders a) big times draws-scale parts.some times-some;
    each = λ i b.
        (let l : part_of a y t i * times ≤ big * times = NatL.mul-le-mul_right times (parts.each i b) in
        without (stretch_of a y t i) whole (all_orders a) orders-some (omega (arith, l, part-scale i b, draws-scale)));
    all =
        let n = a.bidders in
        let l : start_of (part_of a y t) n * times ≤ units * big * times = NatL.mul-le-mul_right times parts.all in
        let same : start_of (stretch_of a y t) n * all_orders a ≡ start_of (part_of a y t) n * times =
        sym (start-scaled (stretch_of a y t) (all_orders a) n) ∙ start-same (λ i. stretch_of a y t i * all_orders a) (λ i. part_of a y t i * times) n part-scale ∙ start-scaled (part_of a y t) times n in
        let most : units * whole * all_orders a ≡ units * big * times = first units whole (all_orders a) ∙ ap (λ k. units * k) draws-scale ∙ sym (first units big times) in
        without (start_of (stretch_of a y t) n) (units * whole) (all_orders a) orders-some (omega (arith, l, same, most));
  }
    where
      first : (x y z : ℕ) → x * y * z ≡ x * (y * z)
      first x y z = omega arith

  -- ---- the draws of a set of bidders

  set-scale : (set : List Bool) → draws_with a y t set * all_orders a ≡ draws a.bidders big (part_of a y t) set * times
  set-scale set =
      sym (draws-scaled a.bidders whole (all_orders a) (stretch_of a y t) set stretches-fit.some)
      ∙ draws-same a.bidders (whole * all_orders a) (λ i. stretch_of a y t i * all_orders a) (λ i. part_of a y t i * times) set part-scale
      ∙ ap (λ k. draws a.bidders k (λ i. part_of a y t i * times) set) draws-scale
      ∙ draws-scaled a.bidders big times (part_of a y t) set parts.some

  chance-is : (pays : List ℤ) (place : ℕ) → place < set_count a.bidders units
      → chance_of (units_of a units) (unit_mechanism_of a units y pays) t place ≡ pos (draws a.bidders big (part_of a y t) (set_at a.bidders units place))
  chance-is pays place b =
      chance_of-mechanism_by (units_of a units) (whole_of a y) (unit_lottery_of a units y) (λ i u. number_at pays (slice_index u i) *ℤ pos (all_orders a)) t place
      (subst (λ sizes. IsProfile sizes t) (sym (sizes_of-units a units ∙ sizes_of-general a)) p) (subst (λ k. place < k) (sym (outcome_count-units a units)) b)

  pub set-chance : (pays : List ℤ) (place : ℕ) → place < set_count a.bidders units
      → HasChance (units_of a units) (unit_mechanism_of a units y pays) t place (pos (draws_with a y t (set_at a.bidders units place))) (pos whole)
  set-chance pays place b =
      let set = set_at a.bidders units place in
      let q = draws_with a y t set in
      let d = draws a.bidders big (part_of a y t) set in
      ap (λ z. z *ℤ pos whole) (chance-is pays place b)
      ∙ pos-*ℤ-pos d whole
      ∙ ap pos (crossed d q whole big (all_orders a) times orders-some draws-scale (set-scale set))
      ∙ sym (pos-*ℤ-pos big q)
      ∙ ap (λ z. z *ℤ pos q) (size-of (whole_of a y) (le_from_lt (pos 0) (whole_of a y) (whole-positive a units y shaped table)))

  -- ---- the part of a bidder

  cap-from : pos 0 ≤ℤ cap_for a y.den t
  cap-from = subst (λ z. pos 0 ≤ℤ z) (cap-at_rank a y.den t o.rank o.is) (cap-nonneg a y.den o.rank table.den_positive)

  pub mass-from : (v : ℕ) → v < value_count a → pos 0 ≤ℤ mass_for a y t v
  mass-from v b = subst (λ z. pos 0 ≤ℤ z) (sym (mass-is v)) (table.nonneg o.rank v o.below b)

  pub stretch-part : (i : ℕ) → i < a.bidders
      → pos (stretch_of a y t i) *ℤ (cap_for a y.den t *ℤ pos (count_in (slice_index t i) t)) ≡ pos whole *ℤ mass_for a y t (slice_index t i)
  stretch-part i b =
      let v = slice_index t i in
      let c = count_in v t in
      let m = unsigned_abs (mass_for a y t v) in
      let q = draws_each / c in
      let cap = cap_for a y.den t in
      let equal : m * q * c ≡ m * draws_each = turned m q c ∙ ap (λ k. m * k) (part-whole i b) in
      first (pos (m * q)) cap (pos c)
      ∙ ap (λ z. cap *ℤ z) (pos-*ℤ-pos (m * q) c ∙ ap pos equal ∙ sym (pos-*ℤ-pos m draws_each))
      ∙ second cap (pos m) (pos draws_each)
      ∙ ap₂ (λ u w. u *ℤ w) (times-size cap draws_each cap-from) (size-of (mass_for a y t v) (mass-from v (value-in i b)))
    where
      turned : (m q c : ℕ) → m * q * c ≡ m * (q * c)
      turned m q c = omega arith

      first : (x k c : ℤ) → x *ℤ (k *ℤ c) ≡ k *ℤ (x *ℤ c)
      first x k c = simp ring

      second : (k m e : ℤ) → k *ℤ (m *ℤ e) ≡ (k *ℤ e) *ℤ m
      second k m e = simp ring

-- ---- sizes

pub cap-most : (a : SymmetricAuction) (den : ℤ) (t : List ℕ) (rank : ℕ) → IsAuction a → pos 1 ≤ℤ den → den ≤ℤ pos number_limit → rank < rank_count a → counts_in a rank ≡ counts_of (value_count a) t
    → cap_for a den t ≤ℤ pos (2 ^ 102)
cap-most a den t rank shaped low high b e =
    subst (λ z. z ≤ℤ pos (2 ^ 102)) (cap-at_rank a den t rank e) (most (cap_at a den rank) (cap-within a den rank shaped low high b))
  where
    most : (z : ℤ) → IsWithin (number_limit * 10 ^ 12) z → z ≤ℤ pos (2 ^ 102)
    most z w = omega (arith, ints, w.within)

-- a stretch lies between 0 and the draws
pub inside-draws : (m n : ℕ) → m ≤ n → (pos 0 ≤ℤ pos m) × (pos m ≤ℤ pos n)
inside-draws m n l = (omega (arith, ints), omega (arith, ints, l))

-- ---- the lottery

pub units-lottery : (a : SymmetricAuction) (units : ℕ) (y : Masses) (t : List ℕ) → IsAuction a → IsUnitTable a units y → AreReports a t → IsUnitsLottery a units y t
units-lottery a units y t shaped table p =
    let o : HasOneRank a.bidders (value_count a) t = one_rank a.bidders (value_count a) t p in
    let n = a.bidders in
    let whole = draws_for a y.den t in
    let x = stretch_of a y t in
    let fit = stretches-fit a units y t shaped table p o in
    record {
      bidder = λ i b.
          subst (HasCountBelow whole (λ d. wins whole x d i ≡ true)) (same_number _ _ (size-list whole (λ d. wins whole x d i) ∙ wins-draws whole x i fit.some (fit.each i b)))
          (count-passed whole (λ d. wins whole x d i));
      part = λ i b. stretch-part a units y t shaped table p o i b;
      enough = λ d b. size-winners n units whole x d b fit.each fit.all;
      outcome = λ place b.
          (let set = set_at n units place in
          count-same (λ d. are_winners n whole x d set ≡ true) (λ d. winners n whole x d ≡ set) whole (draws n whole x set)
          (λ d. ((λ e. sym (are_winners-same n whole x d set (length-set_at n units place b) e)), (λ e. subst (λ s. are_winners n whole x d s ≡ true) e (are_winners-winners n whole x d))))
          (count-passed whole (λ d. are_winners n whole x d set)));
      chance = λ pays place b. set-chance a units y t shaped table p o pays place b;
    }
