-- The closed form gives the average odds of the threshold rule, and no other odds are those of its pools.
use Rattle.std.proofs.Common.{◌≡◌, ℕ, zero, suc, ◌-◌, ◌*◌, ◌^◌, ◌<◌, ◌≤◌, min, ℤ, pos, ◌+ℤ◌, ◌-ℤ◌, ◌*ℤ◌, ◌≤ℤ◌, ◌<ℤ◌, true, nat_lt, if◌then◌else◌, List, length, refl, sym, ap, ap₂, ◌∙◌, subst, arith, inl, inr, lt-ltb, le-ltb, eq-eqb}
use Rattle.std.specs.Prelude.{slice_index}
use Rattle.std.proofs.lemmas.Bool.{cases_lt, lt-leb}
use Rattle.md_math.specs.Sums.{sum_to}
use Rattle.md_math.proofs.Order.{*ℤ-le, *ℤ_cancel, le_from_*ℤ, nonneg-*ℤ, nonneg_from_*ℤ, positive-*ℤ, le_from_lt, chosen-times, same_number}
use Rattle.md_math.proofs.Ring.{linear, ring, *ℤ-zero, *ℤ_left_comm}
use Rattle.md_math.proofs.SumLaws.{sum_to-same, sum_to-zero, sum_to-+ℤ, sum_to-sub, sum_to-*ℤ}
use Rattle.md_setting.specs.Auction.{SymmetricAuction, value_count, total_weight}
use Rattle.md_setting.specs.AuctionShaped.{IsAuction}
use Rattle.md_setting.specs.General.{general_of}
use Rattle.md_setting.specs.Meaning.{sizes_of, weight_of}
use Rattle.md_math.specs.Sets.{member}
use Rattle.md_math.proofs.TotalLaws.{total_by-zero}
use Rattle.md_space.specs.AllProfiles.{profiles_of}
use Rattle.md_space.proofs.TypeSums.{total-same}
use Rattle.md_border.proofs.SetLaws.{bidders_in}
use Rattle.md_border.proofs.SideLaws.{units-by_counts}
use Rattle.md_border.specs.Odds.{weight_given}
use Rattle.md_border.specs.Sides.{right_by_counts}
use Rattle.md_reduced.specs.Sides.{demands_of}
use Rattle.md_iron_values.specs.Cuts.{begins, set_from}
use Rattle.md_iron_values.specs.Odds.{share_den}
use Rattle.md_iron_values.specs.Pools.{Pools, over_pool}
use Rattle.md_iron_values.specs.VirtualValues.{weight_to, virtual_to, IsPooledAuction}
use Rattle.md_iron_values.proofs.AuctionLaws.{share_den-positive, weight-ascends}
use Rattle.md_iron_values.proofs.CutLaws.{weight-head}
use Rattle.md_iron_values.proofs.PoolLaws.{next-pool}
use Rattle.md_iron_values.proofs.WeightLaws.{pos-weight_before}
use Rattle.md_iron_laws.specs.PoolOdds.{ArePoolOdds}
use Rattle.md_iron_laws.proofs.RowSums.{demands-from}
use Rattle.md_threshold_laws.specs.ClosedOdds.{sold_from, AreClosedOdds}
use Rattle.md_threshold_laws.proofs.PoolPlaces.{first-begins, stop-begins, buys-first, within, next-begins}
use Rattle.md_threshold_laws.proofs.AverageLaws.{bidders-from}
use Rattle.md_threshold_laws.proofs.MechanismLaws.{IsReport, is-report}

module _ (a : SymmetricAuction) (pools : Pools) (shaped : IsAuction a) (p : IsPooledAuction a pools) where
  abbrev kinds : ℕ
  kinds = value_count a

  -- ---- what the bidders of a pool ask for

  abbrev asked : ℕ → ℤ
  asked v = pos (a.bidders * weight_given a v)

  -- and those with values from one on
  abbrev asked_from : (ℕ → ℤ) → ℕ → ℤ
  asked_from q x = sum_to kinds (λ v. if nat_lt v x then pos 0 else asked v *ℤ q v)

  -- the bidders of a pool, by weight
  abbrev pub pool_size : ℕ → ℤ
  pool_size v = share_den a *ℤ over_pool (weight_to a) pools v

  abbrev between : ℕ → ℕ → ℕ → ℤ → ℤ
  between x e v z = if nat_lt v x then pos 0 else (if nat_lt v e then z else pos 0)

  asked-is : (v : ℕ) → asked v ≡ share_den a *ℤ pos (slice_index a.weights v)
  asked-is v = grouped a.bidders (slice_index a.weights v) (total_weight a.weights ^ (a.bidders - 1))
    where
      grouped : (n f e : ℕ) → pos (n * (f * e)) ≡ pos (n * e) *ℤ pos f
      grouped n f e = ap (λ m. pos m) (let same : n * (f * e) ≡ (n * e) * f = omega arith in same)

  weight-below : (x : ℕ) → x ≤ value_count a → sum_to kinds (λ v. pos (if nat_lt v x then slice_index a.weights v else 0)) ≡ weight_to a x
  weight-below x l = sym (pos-weight_before (λ v. if nat_lt v x then slice_index a.weights v else 0) kinds) ∙ ap (λ m. pos m) (weight-head (slice_index a.weights) x kinds l)

  weight-between : (x e : ℕ) → x ≤ e → e ≤ value_count a → sum_to kinds (λ v. between x e v (asked v)) ≡ share_den a *ℤ (weight_to a e -ℤ weight_to a x)
  weight-between x e l h =
      let below = λ (y v : ℕ). pos (if nat_lt v y then slice_index a.weights v else 0) in
      sum_to-same kinds _ (λ v. share_den a *ℤ (below e v -ℤ below x v)) (λ v b. one v)
      ∙ sum_to-*ℤ kinds (share_den a) (λ v. below e v -ℤ below x v)
      ∙ ap (λ z. share_den a *ℤ z) (sum_to-sub kinds (below e) (below x) ∙ ap₂ (λ y z. y -ℤ z) (weight-below e h) (weight-below x (omega (arith, l, h))))
    where
      same : (f : ℕ) → pos f -ℤ pos f ≡ pos 0
      same f = omega (arith, linear)

      whole : (f : ℕ) → pos f -ℤ pos 0 ≡ pos f
      whole f = omega (arith, linear)

      one : (v : ℕ) → between x e v (asked v) ≡ share_den a *ℤ (pos (if nat_lt v e then slice_index a.weights v else 0) -ℤ pos (if nat_lt v x then slice_index a.weights v else 0))
      one v = elim (cases_lt v x) [
        | inl m ↦ rw (lt-ltb v x m, lt-ltb v e (omega (arith, m, l))) (sym (ap (λ z. share_den a *ℤ z) (same (slice_index a.weights v)) ∙ *ℤ-zero (share_den a)))
        | inr m ↦ elim (cases_lt v e) [
          | inl n ↦ rw (le-ltb v x m, lt-ltb v e n) (asked-is v ∙ ap (λ z. share_den a *ℤ z) (sym (whole (slice_index a.weights v))))
          | inr n ↦ rw (le-ltb v x m, le-ltb v e n) (sym (ap (λ z. share_den a *ℤ z) (same 0) ∙ *ℤ-zero (share_den a)))
        ]
      ]

  pub size-positive : (v : ℕ) → v < value_count a → pos 0 <ℤ pool_size v
  size-positive v b =
      let (low, high, inside) = p.place v b in
      let more = weight-ascends a shaped (pools.first v) (pools.stop v) (omega (arith, low, high)) inside in
      positive-*ℤ (share_den a) (over_pool (weight_to a) pools v) (share_den-positive a shaped) (omega (arith, linear, more))

  -- where the values of a pool win as often
  pool-asks : (q : ℕ → ℤ) (x : ℕ) → x < value_count a → pools.first x ≡ x → ((v : ℕ) → x ≤ v → v < pools.stop x → v < value_count a → q v ≡ q x) → asked_from q x ≡ pool_size x *ℤ q x +ℤ asked_from q (pools.stop x)
  pool-asks q x b first h =
      let (low, high, inside) = p.place x b in
      let e = pools.stop x in
      sum_to-same kinds _ (λ v. between x e v (asked v) *ℤ q x +ℤ (if nat_lt v e then pos 0 else asked v *ℤ q v)) (λ v l. one v l (omega (arith, high)))
      ∙ sum_to-+ℤ kinds (λ v. between x e v (asked v) *ℤ q x) (λ v. if nat_lt v e then pos 0 else asked v *ℤ q v)
      ∙ ap (λ z. z +ℤ asked_from q (pools.stop x))
      (sum_to-same kinds _ (λ v. q x *ℤ between x e v (asked v)) (λ v l. turned (between x e v (asked v)) (q x))
      ∙ sum_to-*ℤ kinds (q x) (λ v. between x e v (asked v))
      ∙ ap (λ z. q x *ℤ z) (weight-between x e (omega (arith, high)) inside ∙ ap (λ y. share_den a *ℤ (weight_to a e -ℤ weight_to a y)) (sym first))
      ∙ turned (q x) (pool_size x))
    where
      turned : (y z : ℤ) → y *ℤ z ≡ z *ℤ y
      turned y z = simp ring

      plain : (z : ℤ) → z ≡ z +ℤ pos 0
      plain z = omega (arith, linear)

      front : (y z : ℤ) → z ≡ pos 0 *ℤ y +ℤ z
      front y z = simp ring (omega (arith, linear))

      one : (v : ℕ) → v < value_count a → x ≤ pools.stop x
          → (if nat_lt v x then pos 0 else asked v *ℤ q v) ≡ between x (pools.stop x) v (asked v) *ℤ q x +ℤ (if nat_lt v (pools.stop x) then pos 0 else asked v *ℤ q v)
      one v l o = elim (cases_lt v x) [
        | inl m ↦ rw (lt-ltb v x m, lt-ltb v (pools.stop x) (omega (arith, m, o))) (front (q x) (pos 0))
        | inr m ↦ elim (cases_lt v (pools.stop x)) [
          | inl n ↦ rw (le-ltb v x m, lt-ltb v (pools.stop x) n) (ap (λ z. asked v *ℤ z) (h v m n l) ∙ plain (asked v *ℤ q x))
          | inr n ↦ rw (le-ltb v x m, le-ltb v (pools.stop x) n) (front (q x) (asked v *ℤ q v))
        ]
      ]

  asks-none : (q : ℕ → ℤ) → asked_from q kinds ≡ pos 0
  asks-none q = sum_to-zero kinds _ (λ v b. rw (lt-ltb v kinds b) refl)

  -- ---- odds by pools

  -- each value wins as often as the one that begins its pool
  pool-same : (q : ℕ → ℤ) → ((v : ℕ) → suc v < value_count a → pools.reserve ≤ v → pools.first (suc v) ≡ pools.first v → q (suc v) ≡ q v) → (v : ℕ) → v < value_count a → pools.reserve ≤ v → q v ≡ q (pools.first v)
  pool-same q alike zero b g = (let (low, high, inside) = p.place 0 b in ap q (let e : 0 ≡ pools.first 0 = omega (arith, low) in e))
  pool-same q alike (suc v) b g = elim (next-pool (value_count a) (weight_to a) (virtual_to a) pools p v b) [
    | inl e ↦ ap q (sym e.1)
    | inr e ↦ (let (buy, first, stop) = e in alike v b buy first ∙ pool-same q alike v (omega (arith, b)) buy ∙ ap q (sym first))
  ]

  begins-at : (x : ℕ) → pools.reserve ≤ x → pools.first x ≡ x → begins pools x ≡ true
  begins-at x g e = rw (le-ltb x pools.reserve g, eq-eqb (pools.first x) x e) refl

  module _ (units : ℕ) where
    -- the bidders of a pool ask for as much more as units can go to those from its beginning on than to those behind it
    pub pool-full : (den : ℤ) (q : ℕ → ℤ) → ArePoolOdds a units pools den q → (v : ℕ) → v < value_count a → pools.reserve ≤ v → pool_size v *ℤ q v +ℤ asked_from q (pools.stop v) ≡ den *ℤ sold_from a units (pools.first v)
    pool-full den q are v b g =
        let (low, high, inside) = p.place v b in
        let x : ℕ = pools.first v in
        let c : x < value_count a = omega (arith, low, b) in
        let first : pools.first x ≡ x = first-begins (value_count a) (weight_to a) (virtual_to a) pools p v b in
        let stop : pools.stop x ≡ pools.stop v = stop-begins (value_count a) (weight_to a) (virtual_to a) pools p v b in
        let buys : pools.reserve ≤ x = buys-first (value_count a) (weight_to a) (virtual_to a) pools p v b g in
        let own : q v ≡ q x = pool-same q are.alike v b g in
        let parts = pool-asks q x c first (λ u l h d. (let inside = within (value_count a) (weight_to a) (virtual_to a) pools p x u first l h d in pool-same q are.alike u d (omega (arith, buys, l)) ∙ ap q inside.0)) in
        let size : pool_size x ≡ pool_size v = ap₂ (λ s e. share_den a *ℤ (weight_to a e -ℤ weight_to a s)) first stop in
        ap₂ (λ y z. y +ℤ asked_from q z) (ap₂ (λ y z. y *ℤ z) (sym size) own) (sym stop)
        ∙ sym parts ∙ sym (demands-from a q x) ∙ are.full x c (begins-at x buys first)

    -- to nobody units can go where there is no value
    sold-none : sold_from a units (value_count a) ≡ pos 0
    sold-none =
        let g = general_of a in
        let set = set_from (value_count a) (value_count a) in
        sym (units-by_counts a units set)
        ∙ total-same (sizes_of g) _ (λ t. pos 0) (λ t q. ap (λ n. weight_of g t *ℤ pos (min units n)) (nobody t (is-report a t q)) ∙ nothing (weight_of g t))
        ∙ total_by-zero (λ t. pos 0) (profiles_of (sizes_of g)) (λ k d l. refl)
      where
        nothing : (w : ℤ) → w *ℤ pos (min units 0) ≡ pos 0
        nothing w = ap (λ n. w *ℤ pos n) (let e : min units 0 ≡ 0 = omega arith in e) ∙ *ℤ-zero w

        nobody : (t : List ℕ) → IsReport a t → bidders_in (set_from (value_count a) (value_count a)) t ≡ 0
        nobody t is =
            same_number (bidders_in (set_from (value_count a) (value_count a)) t) 0
            (bidders-from (value_count a) (value_count a) t is.below
            ∙ sum_to-zero (length t) _ (λ i b. ap (λ s. if s then pos 1 else pos 0) (lt-leb (value_count a) (slice_index t i) (is.below i b))))

    behind-full : (den : ℤ) (q : ℕ → ℤ) → ArePoolOdds a units pools den q → (v : ℕ) → v < value_count a → pools.reserve ≤ v → asked_from q (pools.stop v) ≡ den *ℤ sold_from a units (pools.stop v)
    behind-full den q are v b g =
        let (low, high, inside) = p.place v b in
        let x : ℕ = pools.first v in
        let c : x < value_count a = omega (arith, low, b) in
        let first : pools.first x ≡ x = first-begins (value_count a) (weight_to a) (virtual_to a) pools p v b in
        let stop : pools.stop x ≡ pools.stop v = stop-begins (value_count a) (weight_to a) (virtual_to a) pools p v b in
        elim (cases_lt (pools.stop v) (value_count a)) [
          | inl l ↦
              let next : pools.first (pools.stop v) ≡ pools.stop v =
              subst (λ e. pools.first e ≡ e) stop (next-begins (value_count a) (weight_to a) (virtual_to a) pools p x first c (subst (λ e. e < value_count a) (sym stop) l)) in
              sym (demands-from a q (pools.stop v)) ∙ are.full (pools.stop v) l (begins-at (pools.stop v) (omega (arith, g, high)) next)
          | inr l ↦
              let end : value_count a ≡ pools.stop v = omega (arith, l, inside) in
              subst (λ e. asked_from q e ≡ den *ℤ sold_from a units e) end (asks-none q ∙ sym (ap (λ z. den *ℤ z) sold-none ∙ *ℤ-zero den))
        ]

    -- whatever odds the pools have, they are the closed form
    pub are-closed : (den : ℤ) (q : ℕ → ℤ) → ArePoolOdds a units pools den q → AreClosedOdds a units pools den q
    are-closed den q are = record {
      positive = are.positive;
      none = are.none;
      some = λ v b g. less (pool_size v *ℤ q v) (asked_from q (pools.stop v)) den (sold_from a units (pools.first v)) (sold_from a units (pools.stop v)) (pool-full den q are v b g) (behind-full den q are v b g);
    }
      where
        less : (x y d s r : ℤ) → x +ℤ y ≡ d *ℤ s → y ≡ d *ℤ r → x ≡ d *ℤ (s -ℤ r)
        less x y d s r e f = (let parts : d *ℤ (s -ℤ r) ≡ d *ℤ s -ℤ d *ℤ r = simp ring (omega (arith, linear)) in omega (arith, linear, e, f, parts))

    -- so they are the same over any denominators
    pub closed-same : (d e : ℤ) (q r : ℕ → ℤ) → AreClosedOdds a units pools d q → AreClosedOdds a units pools e r → (v : ℕ) → v < value_count a → d *ℤ r v ≡ e *ℤ q v
    closed-same d e q r one other v b = elim (cases_lt v pools.reserve) [
      | inl l ↦ ap (λ z. d *ℤ z) (other.none v b l) ∙ *ℤ-zero d ∙ sym (ap (λ z. e *ℤ z) (one.none v b l) ∙ *ℤ-zero e)
      | inr g ↦
          *ℤ_cancel (pool_size v) (d *ℤ r v) (e *ℤ q v) (size-positive v b)
          (*ℤ_left_comm (pool_size v) d (r v) ∙ ap (λ z. d *ℤ z) (other.some v b g) ∙ *ℤ_left_comm d e _ ∙ ap (λ z. e *ℤ z) (sym (one.some v b g)) ∙ *ℤ_left_comm e (pool_size v) (q v))
    ]

-- ---- over another denominator

pub scaled-odds : (a : SymmetricAuction) (units : ℕ) (pools : Pools) (d e : ℤ) (q r : ℕ → ℤ) → pos 0 <ℤ e → ArePoolOdds a units pools d q → ((v : ℕ) → v < value_count a → d *ℤ r v ≡ e *ℤ q v) → ArePoolOdds a units pools e r
scaled-odds a units pools d e q r above are same = record {
  positive = above;
  nonneg = λ v b. nonneg_from_*ℤ d (r v) are.positive (subst (λ z. pos 0 ≤ℤ z) (sym (same v b)) (nonneg-*ℤ e (q v) (le_from_lt (pos 0) e above) (are.nonneg v b)));
  none = λ v b l. *ℤ_cancel d (r v) (pos 0) are.positive (same v b ∙ ap (λ z. e *ℤ z) (are.none v b l) ∙ *ℤ-zero e ∙ sym (*ℤ-zero d));
  alike = λ v b g first. *ℤ_cancel d (r (suc v)) (r v) are.positive (same (suc v) b ∙ ap (λ z. e *ℤ z) (are.alike v b g first) ∙ sym (same v (omega (arith, b))));
  rise = λ v b.
      le_from_*ℤ d (r v) (r (suc v)) are.positive
      (subst (λ z. z ≤ℤ (d *ℤ r (suc v))) (sym (same v (omega (arith, b)))) (subst (λ z. (e *ℤ q v) ≤ℤ z) (sym (same (suc v) b)) (*ℤ-le e (q v) (q (suc v)) (le_from_lt (pos 0) e above) (are.rise v b))));
  full = λ s b h.
      let set = set_from (value_count a) s in
      *ℤ_cancel d (demands_of a r set) (e *ℤ right_by_counts a units set) are.positive
      (sym (times d r set) ∙ sum_to-same (value_count a) _ _ (λ v l. ap (λ z. if member set v then pos (a.bidders * weight_given a v) *ℤ z else pos 0) (same v l)) ∙ times e q set
      ∙ ap (λ z. e *ℤ z) (are.full s b h) ∙ *ℤ_left_comm e d (right_by_counts a units set));
}
  where
    times : (c : ℤ) (x : ℕ → ℤ) (set : ℕ) → demands_of a (λ v. c *ℤ x v) set ≡ c *ℤ demands_of a x set
    times c x set =
        sum_to-same (value_count a) _ (λ v. c *ℤ (if member set v then pos (a.bidders * weight_given a v) *ℤ x v else pos 0))
        (λ v b. ap (λ z. if member set v then z else pos 0) (*ℤ_left_comm (pos (a.bidders * weight_given a v)) c (x v)) ∙ sym (chosen-times (member set v) c (pos (a.bidders * weight_given a v) *ℤ x v)))
        ∙ sum_to-*ℤ (value_count a) c (λ v. if member set v then pos (a.bidders * weight_given a v) *ℤ x v else pos 0)
