-- The averages of the threshold rule are odds of its pools, and the average payments are those by these odds.
use Rattle.std.proofs.Common.{◌≡◌, ℕ, suc, ◌+◌, ◌*◌, ◌<◌, ◌≤◌, min, ℤ, pos, ◌+ℤ◌, ◌*ℤ◌, ◌≤ℤ◌, ◌<ℤ◌, Bool, true, false, nat_le, if◌then◌else◌, List, [], ◌∷◌, length, refl, sym, ap, ◌∙◌, subst, arith, inl, inr}
use Rattle.std.specs.Prelude.{slice_index}
use Rattle.std.proofs.lemmas.Bool.{cases_lt, le-leb, lt-leb}
use Rattle.std.proofs.lemmas.Int.{ints}
use Rattle.md_math.specs.Lists.{number_at}
use Rattle.md_math.specs.Sets.{member}
use Rattle.md_math.specs.Sums.{sum_to}
use Rattle.md_math.proofs.Order.{positive-*ℤ, positive_pos, chosen-times, same_number}
use Rattle.md_math.proofs.Ring.{ring}
use Rattle.md_math.proofs.SumLaws.{sum_to-same, sum_to-swap, sum_to-constant, sum_to-if, sum_to-*ℤ, sum_to-front}
use Rattle.md_math.proofs.TotalLaws.{total_by-*ℤ}
use Rattle.md_space.specs.AllProfiles.{profiles_of}
use Rattle.md_space.specs.Profiles.{IsProfile, replaced}
use Rattle.md_space.proofs.TypeSums.{total-same}
use Rattle.md_setting.specs.Meaning.{sizes_of, weight_of}
use Rattle.md_setting.specs.Auction.{SymmetricAuction, value_count}
use Rattle.md_setting.specs.AuctionShaped.{IsAuction}
use Rattle.md_setting.specs.General.{general_of}
use Rattle.md_border.specs.Odds.{weight_given, won_in}
use Rattle.md_border.specs.Sides.{right_by_counts}
use Rattle.md_border.proofs.SetLaws.{bidders_in}
use Rattle.md_border.proofs.SideLaws.{units-by_counts}
use Rattle.md_reduced.specs.Averages.{times_of, mean, averages}
use Rattle.md_reduced.specs.Sides.{demands_of}
use Rattle.md_reduced.proofs.AverageRows.{times-positive}
use Rattle.md_reduced.proofs.MeanLaws.{averages-win, averaged-demands}
use Rattle.md_iron_values.specs.Cuts.{begins, set_from}
use Rattle.md_iron_values.specs.Pools.{Pools}
use Rattle.md_iron_values.specs.Odds.{pay_by}
use Rattle.md_iron_values.specs.VirtualValues.{weight_to, virtual_to, IsPooledAuction}
use Rattle.md_iron_values.proofs.CutLaws.{member-from, member-below}
use Rattle.md_iron_laws.specs.PoolOdds.{ArePoolOdds}
use Rattle.md_iron_laws.proofs.IronedLaws.{begins-is}
use Rattle.md_threshold_laws.specs.Rule.{draw_count, chance_with, payment}
use Rattle.md_threshold_laws.proofs.Averages.{chance_at, average_odds, average_den}
use Rattle.md_threshold_laws.proofs.Counts.{pos-count}
use Rattle.md_threshold_laws.proofs.PoolPlaces.{buys-true}
use Rattle.md_threshold_laws.proofs.Profiles.{AreAlike, won, from, wins-from, wins-chance, some-draws}
use Rattle.md_threshold_laws.proofs.ChanceLaws.{chance-none, chance-alike, chance-rises}
use Rattle.md_threshold_laws.proofs.MechanismLaws.{IsReport, is-report}
use Rattle.md_threshold_laws.proofs.TruthLaws.{replaced-chance, pay-same}
use Rattle.md_threshold_laws.proofs.MeanLaws.{mean-same, mean-zero, mean-nonneg, mean-le, mean-told, mean-pay}

-- ---- at a profile

-- a value is in the set of those from one on where it is no lower
member-is : (kinds x u : ℕ) → u < kinds → member (set_from kinds x) u ≡ nat_le x u
member-is kinds x u b = elim (cases_lt u x) [
  | inl l ↦ member-below kinds x u l ∙ sym (lt-leb x u l)
  | inr l ↦ member-from kinds x u l b ∙ sym (le-leb x u l)
]

-- the bidders with values in the set
pub bidders-from : (kinds x : ℕ) (t : List ℕ) → ((i : ℕ) → i < length t → slice_index t i < kinds) → pos (bidders_in (set_from kinds x) t) ≡ sum_to (length t) (λ i. if nat_le x (slice_index t i) then pos 1 else pos 0)
bidders-from kinds x [] h = refl
bidders-from kinds x (v ∷ t) h =
    more (member (set_from kinds x) v) (nat_le x v) (bidders_in (set_from kinds x) t) _ (member-is kinds x v (h 0 (omega arith)))
    (bidders-from kinds x t (λ i b. subst (λ u. u < kinds) (sym (next i)) (h (i + 1) (omega (arith, b)))) ∙ sum_to-same (length t) _ _ (λ i b. ap (λ u. if nat_le x u then pos 1 else pos 0) (next i)))
    ∙ sym (sum_to-front (length t) (λ i. if nat_le x (slice_index (v ∷ t) i) then pos 1 else pos 0))
  where
    next : (i : ℕ) → slice_index t i ≡ slice_index (v ∷ t) (i + 1)
    next i = ap (slice_index (v ∷ t)) (let e : suc i ≡ i + 1 = omega arith in e)

    more : (s r : Bool) (n : ℕ) (z : ℤ) → s ≡ r → pos n ≡ z → pos ((if s then 1 else 0) + n) ≡ (if r then pos 1 else pos 0) +ℤ z
    more true true n z e f = omega (arith, ints, f)
    more false false n z e f = omega (arith, ints, f)
    more true false n z e f = cc
    more false true n z e f = cc

module _ (a : SymmetricAuction) (units : ℕ) (pools : Pools) (shaped : IsAuction a) (p : IsPooledAuction a pools) where
  -- over all draws those with values from the beginning of a pool on win as often as the units can go to them
  chances-from : (x : ℕ) (t : List ℕ) → IsReport a t → x < value_count a → begins pools x ≡ true
      → sum_to a.bidders (λ i. if nat_le x (slice_index t i) then chance_at units pools i t else pos 0) ≡ pos draw_count *ℤ pos (min units (from t x))
  chances-from x t is b h =
      let (buys, first) = begins-is pools x h in
      let n = length t in
      ap (λ m. sum_to m (λ i. if nat_le x (slice_index t i) then chance_at units pools i t else pos 0)) (sym is.long)
      ∙ sum_to-same n _ (λ i. sum_to draw_count (λ d. if nat_le x (slice_index t i) then won units pools t d i else pos 0))
      (λ i l. ap (λ z. if nat_le x (slice_index t i) then z else pos 0) (sym (wins-chance units pools t i (omega (arith, is.long, shaped.few_bidders)) l)) ∙ sym (sum_to-if draw_count (nat_le x (slice_index t i)) (λ d. won units pools t d i)))
      ∙ sum_to-swap n draw_count (λ i d. if nat_le x (slice_index t i) then won units pools t d i else pos 0)
      ∙ sum_to-same draw_count _ (λ _. pos (min units (from t x))) (λ d l. wins-from (value_count a) (weight_to a) (virtual_to a) pools p units t is.below d x first buys b)
      ∙ sum_to-constant draw_count (pos (min units (from t x)))

  at-profile : (x : ℕ) (t : List ℕ) (w : ℤ) → IsReport a t → x < value_count a → begins pools x ≡ true
      → sum_to a.bidders (λ i. if member (set_from (value_count a) x) (slice_index t i) then w *ℤ chance_at units pools i t else pos 0)
      ≡ pos draw_count *ℤ (w *ℤ pos (min units (bidders_in (set_from (value_count a) x) t)))
  at-profile x t w is b h =
      let count : bidders_in (set_from (value_count a) x) t ≡ from t x =
      same_number (bidders_in (set_from (value_count a) x) t) (from t x) (bidders-from (value_count a) x t is.below ∙ sym (pos-count (length t) (λ i. nat_le x (slice_index t i)))) in
      sum_to-same a.bidders _ (λ i. w *ℤ (if nat_le x (slice_index t i) then chance_at units pools i t else pos 0))
      (λ i l. ap (λ s. if s then w *ℤ chance_at units pools i t else pos 0) (member-is (value_count a) x (slice_index t i) (is.below i (omega (arith, is.long, l)))) ∙ sym (chosen-times (nat_le x (slice_index t i)) w (chance_at units pools i t)))
      ∙ sum_to-*ℤ a.bidders w (λ i. if nat_le x (slice_index t i) then chance_at units pools i t else pos 0)
      ∙ ap (λ z. w *ℤ z) (chances-from x t is b h ∙ ap (λ m. pos draw_count *ℤ pos (min units m)) (sym count))
      ∙ turned w (pos draw_count) (pos (min units (bidders_in (set_from (value_count a) x) t)))
    where
      turned : (w d m : ℤ) → w *ℤ (d *ℤ m) ≡ d *ℤ (w *ℤ m)
      turned w d m = simp ring

  -- ---- over all profiles

  won-from : (x : ℕ) → x < value_count a → begins pools x ≡ true → won_in a (chance_at units pools) (set_from (value_count a) x) ≡ pos draw_count *ℤ right_by_counts a units (set_from (value_count a) x)
  won-from x b h =
      let g = general_of a in
      let set = set_from (value_count a) x in
      total-same (sizes_of g) _ (λ t. pos draw_count *ℤ (weight_of g t *ℤ pos (min units (bidders_in set t)))) (λ t q. at-profile x t (weight_of g t) (is-report a t q) b h)
      ∙ total_by-*ℤ (pos draw_count) (λ t. weight_of g t *ℤ pos (min units (bidders_in set t))) (profiles_of (sizes_of g))
      ∙ ap (λ z. pos draw_count *ℤ z) (units-by_counts a units set)

  -- ---- the averages

  -- with any value in whose place the bidder tells this one
  pub odds-told : (v w : ℕ) → v < value_count a → w < value_count a → mean a (λ i t. pos (chance_with units pools t i w)) v ≡ average_odds a units pools w
  odds-told v w l k =
      mean-same a _ (λ i t. chance_at units pools i (replaced t i w)) v (λ i t b q e. sym (replaced-chance a units pools shaped p t (is-report a t q) i b w))
      ∙ mean-told a (chance_at units pools) v w shaped l k

  long : (i : ℕ) (t : List ℕ) → i < a.bidders → IsProfile (sizes_of (general_of a)) t → i < length t
  long i t b q = (let is = is-report a t q in omega (arith, is.long, b))

  few : (t : List ℕ) → IsProfile (sizes_of (general_of a)) t → length t ≤ 12
  few t q = (let is = is-report a t q in omega (arith, is.long, shaped.few_bidders))

  average-none : (v : ℕ) → v < value_count a → v < pools.reserve → average_odds a units pools v ≡ pos 0
  average-none v b l =
      sym (odds-told v v b b)
      ∙ mean-same a _ (λ i t. pos 0) v (λ i t c q e. ap (λ m. pos m) (chance-none units pools t i v l))
      ∙ mean-zero a v

  average-alike : (v : ℕ) → suc v < value_count a → pools.reserve ≤ v → pools.first (suc v) ≡ pools.first v → average_odds a units pools (suc v) ≡ average_odds a units pools v
  average-alike v b g first =
      let are : AreAlike pools v (suc v) = record { buys_one = buys-true pools v g; buys_other = buys-true pools (suc v) (omega (arith, g)); first = first } in
      sym (odds-told v (suc v) (omega (arith, b)) b)
      ∙ mean-same a _ _ v (λ i t c q e. ap (λ m. pos m) (chance-alike units pools t i v (suc v) (long i t c q) are))
      ∙ odds-told v v (omega (arith, b)) (omega (arith, b))

  average-rises : (v : ℕ) → suc v < value_count a → average_odds a units pools v ≤ℤ average_odds a units pools (suc v)
  average-rises v b =
      subst (λ z. z ≤ℤ average_odds a units pools (suc v)) (odds-told v v (omega (arith, b)) (omega (arith, b)))
      (subst (λ z. mean a (λ i t. pos (chance_with units pools t i v)) v ≤ℤ z) (odds-told v (suc v) (omega (arith, b)) b)
      (mean-le a (λ i t. pos (chance_with units pools t i v)) (λ i t. pos (chance_with units pools t i (suc v))) v
      (λ i t c q. above _ _ (chance-rises (value_count a) (weight_to a) (virtual_to a) pools p units t i v (few t q) (long i t c q) b))))
    where
      above : (m n : ℕ) → m ≤ n → pos m ≤ℤ pos n
      above m n l = omega (arith, ints, l)

  average-full : (x : ℕ) → x < value_count a → begins pools x ≡ true → demands_of a (average_odds a units pools) (set_from (value_count a) x) ≡ average_den a *ℤ right_by_counts a units (set_from (value_count a) x)
  average-full x b h =
      let set = set_from (value_count a) x in
      let points = averages a (chance_at units pools) (chance_at units pools) in
      sum_to-same (value_count a) _ _ (λ v l. ap (λ z. if member set v then pos (a.bidders * weight_given a v) *ℤ z else pos 0) (sym (averages-win a (chance_at units pools) (chance_at units pools) v l)))
      ∙ averaged-demands a (chance_at units pools) (chance_at units pools) set
      ∙ ap (λ z. pos (times_of a) *ℤ z) (won-from x b h)
      ∙ grouped (pos (times_of a)) (pos draw_count) (right_by_counts a units set)
    where
      grouped : (t d r : ℤ) → t *ℤ (d *ℤ r) ≡ (t *ℤ d) *ℤ r
      grouped t d r = simp ring

  pub den-positive : pos 0 <ℤ average_den a
  den-positive = positive-*ℤ (pos (times_of a)) (pos draw_count) (positive_pos (times_of a) (times-positive a shaped)) (positive_pos draw_count some-draws)

  pub are-pool-odds : ArePoolOdds a units pools (average_den a) (average_odds a units pools)
  are-pool-odds = record {
    positive = den-positive;
    nonneg = λ v b. mean-nonneg a (chance_at units pools) v (λ i t c q. nonneg _);
    none = average-none;
    alike = average-alike;
    rise = average-rises;
    full = average-full;
  }
    where
      nonneg : (m : ℕ) → pos 0 ≤ℤ pos m
      nonneg m = omega (arith, ints)

  -- ---- the average payments

  pub average-pays : (v : ℕ) → v < value_count a → mean a (payment a units pools) v ≡ pay_by (number_at a.values) (average_odds a units pools) v
  average-pays v b =
      mean-same a (payment a units pools) (λ i t. pay_by (number_at a.values) (λ u. pos (chance_with units pools t i u)) v) v
      (λ i t c q e. ap (pay_by (number_at a.values) (λ u. pos (chance_with units pools t i u))) e)
      ∙ mean-pay a (number_at a.values) (λ u i t. pos (chance_with units pools t i u)) v v
      ∙ pay-same (number_at a.values) _ (average_odds a units pools) v (λ u l. odds-told v u b (omega (arith, l, b)))
