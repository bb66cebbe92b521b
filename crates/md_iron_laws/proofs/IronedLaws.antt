-- Pools by the lowest chords are ironed: what makes their odds optimal, over any curve.
use Rattle.std.proofs.Common.{◌≡◌, ◌⊎◌, ℕ, zero, suc, ◌<◌, ◌≤◌, ◌==◌, Bool, true, false, nat_lt, if◌then◌else◌, ℤ, pos, ◌+ℤ◌, ◌-ℤ◌, ◌*ℤ◌, ◌≤ℤ◌, ◌<ℤ◌, inl, inr, refl, sym, ap, ap₂, subst, ◌∙◌, arith, lt-ltb, le-ltb, eq-eqb, eqb-true}
use Rattle.std.proofs.lemmas.Bool.{cases_lt}
use lib.IntN.{*ℤ_comm}
use Rattle.md_math.proofs.Ring.{linear, ring, one-*ℤ, *ℤ_assoc, *ℤ_left_comm}
use Rattle.md_math.proofs.Order.{*ℤ-le, *ℤ_cancel, le_from_*ℤ, nonneg-*ℤ, nonneg_from_*ℤ, positive-*ℤ, le_from_lt, le_from_same}
use Rattle.md_iron_values.specs.Pools.{Pools, IsPooled, over_pool}
use Rattle.md_iron_values.specs.Odds.{step_of}
use Rattle.md_iron_values.specs.Cuts.{begins}
use Rattle.md_iron_values.specs.Gaps.{least_to, gap_scale, gap_by}
use Rattle.md_iron_values.proofs.PoolLaws.{next-pool, reserve-begins, last-stop, next-rise}
use Rattle.md_iron_values.proofs.GapLaws.{least_to-next, least_to-above, scale-none, scale-some, gap-none, gap-some, gap-nonneg, pool-weight, scale-positive}
use Rattle.md_iron_laws.specs.Ironed.{AreMeans, gap_times, rest_of, IsIroned}
use Rattle.md_iron_laws.proofs.MultipleLaws.{HasMultiple}

-- ---- there are ironed virtual values over one scale

abbrev pub mean_by : (ℕ → ℤ) → Pools → (ℕ → ℤ) → ℕ → ℤ
mean_by sum pools part j = if nat_lt j pools.reserve then pos 0 else over_pool sum pools j *ℤ part j

pub have-means : (kinds : ℕ) (weight sum : ℕ → ℤ) (pools : Pools) (r : HasMultiple kinds (over_pool weight pools)) → AreMeans kinds weight sum pools r.whole (mean_by sum pools r.part)
have-means kinds weight sum pools r = record {
  positive = r.positive;
  none = λ j l. rw (lt-ltb j pools.reserve l) refl;
  some = λ j g b. rw (le-ltb j pools.reserve g)
      (*ℤ_left_comm (over_pool weight pools j) (over_pool sum pools j) (r.part j)
      ∙ ap (λ z. over_pool sum pools j *ℤ z) (r.is j b)
      ∙ *ℤ_comm (over_pool sum pools j) r.whole);
}

-- ---- gaps

gap-behind : (kinds : ℕ) (weight sum : ℕ → ℤ) (pools : Pools) (scale : ℤ) (mean : ℕ → ℤ) → gap_times kinds weight sum pools scale mean kinds ≡ pos 0
gap-behind kinds weight sum pools scale mean = rw (le-ltb kinds kinds (omega arith)) refl

gap-below : (kinds : ℕ) (weight sum : ℕ → ℤ) (pools : Pools) (scale : ℤ) (mean : ℕ → ℤ) (j : ℕ) → j < kinds → j < pools.reserve → gap_times kinds weight sum pools scale mean j ≡ scale *ℤ (sum j -ℤ least_to sum j)
gap-below kinds weight sum pools scale mean j b l = rw (lt-ltb j kinds b, lt-ltb j pools.reserve l) refl

gap-above : (kinds : ℕ) (weight sum : ℕ → ℤ) (pools : Pools) (scale : ℤ) (mean : ℕ → ℤ) (j : ℕ) → j < kinds → pools.reserve ≤ j
    → gap_times kinds weight sum pools scale mean j ≡ scale *ℤ (sum j -ℤ sum (pools.first j)) -ℤ mean j *ℤ (weight j -ℤ weight (pools.first j))
gap-above kinds weight sum pools scale mean j b g = rw (lt-ltb j kinds b, le-ltb j pools.reserve g) refl

no-growth : (c m s w : ℤ) → c *ℤ (s -ℤ s) -ℤ m *ℤ (w -ℤ w) ≡ pos 0
no-growth c m s w = simp ring (omega (arith, linear))

-- there is no gap where a pool begins
gap-begins : (kinds : ℕ) (weight sum : ℕ → ℤ) (pools : Pools) (scale : ℤ) (mean : ℕ → ℤ) (j : ℕ) → j < kinds → pools.reserve ≤ j → pools.first j ≡ j → gap_times kinds weight sum pools scale mean j ≡ pos 0
gap-begins kinds weight sum pools scale mean j b g first =
    gap-above kinds weight sum pools scale mean j b g
    ∙ ap (λ s. scale *ℤ (sum j -ℤ sum s) -ℤ mean j *ℤ (weight j -ℤ weight s)) first
    ∙ no-growth scale (mean j) (sum j) (weight j)

-- in units of the pool's weight it is the gap as it is written
scaled-below : (c d : ℤ) → pos 1 *ℤ (c *ℤ d) ≡ c *ℤ d
scaled-below c d = one-*ℤ (c *ℤ d)

scaled-above : (c m n s p w : ℤ) → m *ℤ n ≡ c *ℤ p → m *ℤ (c *ℤ s -ℤ n *ℤ w) ≡ c *ℤ (s *ℤ m -ℤ p *ℤ w)
scaled-above c m n s p w e =
    let left : m *ℤ (c *ℤ s -ℤ n *ℤ w) ≡ c *ℤ (s *ℤ m) -ℤ (m *ℤ n) *ℤ w = simp ring (omega (arith, linear)) in
    let right : c *ℤ (s *ℤ m -ℤ p *ℤ w) ≡ c *ℤ (s *ℤ m) -ℤ (c *ℤ p) *ℤ w = simp ring (omega (arith, linear)) in
    omega (arith, linear, left, right, ap (λ z. z *ℤ w) e)

pub gap-scaled : (kinds : ℕ) (weight sum : ℕ → ℤ) (pools : Pools) (scale : ℤ) (mean : ℕ → ℤ) → AreMeans kinds weight sum pools scale mean → (j : ℕ) → j < kinds
    → gap_scale weight pools j *ℤ gap_times kinds weight sum pools scale mean j ≡ scale *ℤ gap_by weight sum pools j
gap-scaled kinds weight sum pools scale mean are j b = elim (cases_lt j pools.reserve) [
  | inl l ↦
      ap₂ (λ x y. x *ℤ y) (scale-none weight pools j l) (gap-below kinds weight sum pools scale mean j b l)
      ∙ scaled-below scale (sum j -ℤ least_to sum j)
      ∙ ap (λ z. scale *ℤ z) (sym (gap-none weight sum pools j l))
  | inr g ↦
      ap₂ (λ x y. x *ℤ y) (scale-some weight pools j g) (gap-above kinds weight sum pools scale mean j b g)
      ∙ scaled-above scale (over_pool weight pools j) (mean j) (sum j -ℤ sum (pools.first j)) (over_pool sum pools j) (weight j -ℤ weight (pools.first j)) (are.some j g b)
      ∙ ap (λ z. scale *ℤ z) (sym (gap-some weight sum pools j g))
]

-- ---- means

means-joined : (kinds : ℕ) (weight sum : ℕ → ℤ) (pools : Pools) (scale : ℤ) (mean : ℕ → ℤ) → AreMeans kinds weight sum pools scale mean → (i j : ℕ) → pools.reserve ≤ i → pools.reserve ≤ j → i < kinds → j < kinds
    → pos 0 <ℤ over_pool weight pools i → pools.first j ≡ pools.first i → pools.stop j ≡ pools.stop i → mean j ≡ mean i
means-joined kinds weight sum pools scale mean are i j g h b c some first stop =
    let same : (f : ℕ → ℤ) → over_pool f pools j ≡ over_pool f pools i = λ f. ap₂ (λ s e. f e -ℤ f s) first stop in
    *ℤ_cancel (over_pool weight pools i) (mean j) (mean i) some
    (ap (λ z. z *ℤ mean j) (sym (same weight)) ∙ are.some j h c ∙ ap (λ z. scale *ℤ z) (same sum) ∙ sym (are.some i g b))

-- steeper chords have greater means
steeper : (c m n p q x y : ℤ) → pos 0 <ℤ m → pos 0 <ℤ n → pos 0 <ℤ c → m *ℤ x ≡ c *ℤ p → n *ℤ y ≡ c *ℤ q → (p *ℤ n) ≤ℤ (q *ℤ m) → x ≤ℤ y
steeper c m n p q x y hm hn hc ex ey h =
    let more : (c *ℤ (p *ℤ n)) ≤ℤ (c *ℤ (q *ℤ m)) = *ℤ-le c (p *ℤ n) (q *ℤ m) (le_from_lt (pos 0) c hc) h in
    let left : (m *ℤ n) *ℤ x ≡ c *ℤ (p *ℤ n) = move m n x ∙ ap (λ z. z *ℤ n) ex ∙ *ℤ_assoc c p n in
    let right : (m *ℤ n) *ℤ y ≡ c *ℤ (q *ℤ m) = *ℤ_assoc m n y ∙ ap (λ z. m *ℤ z) ey ∙ *ℤ_comm m (c *ℤ q) ∙ *ℤ_assoc c q m in
    le_from_*ℤ (m *ℤ n) x y (positive-*ℤ m n hm hn) (omega (arith, linear, more, left, right))
  where
    move : (m n x : ℤ) → (m *ℤ n) *ℤ x ≡ (m *ℤ x) *ℤ n
    move m n x = simp ring

mean-nonneg : (kinds : ℕ) (weight sum : ℕ → ℤ) (pools : Pools) (scale : ℤ) (mean : ℕ → ℤ) → IsPooled kinds weight sum pools → AreMeans kinds weight sum pools scale mean → (j : ℕ) → pools.reserve ≤ j → j < kinds
    → pos 0 <ℤ over_pool weight pools j → pos 0 ≤ℤ mean j
mean-nonneg kinds weight sum pools scale mean p are j g b some =
    let product : pos 0 ≤ℤ (scale *ℤ over_pool sum pools j) = nonneg-*ℤ scale (over_pool sum pools j) (le_from_lt (pos 0) scale are.positive) (le_from_lt (pos 0) (over_pool sum pools j) (p.positive j g b)) in
    nonneg_from_*ℤ (over_pool weight pools j) (mean j) some (omega (arith, linear, product, are.some j g b))

-- ---- what is left

left-inside : (c n s0 sj s1 w0 wj w1 : ℤ) → ((c *ℤ (s1 -ℤ s0) -ℤ n *ℤ (w1 -ℤ w0)) -ℤ (c *ℤ (sj -ℤ s0) -ℤ n *ℤ (wj -ℤ w0))) -ℤ c *ℤ (s1 -ℤ sj) +ℤ (w1 -ℤ wj) *ℤ n ≡ pos 0
left-inside c n s0 sj s1 w0 wj w1 = simp ring (omega (arith, linear))

left-at_stop : (c n s0 sj s1 w0 wj w1 : ℤ) → (w1 -ℤ w0) *ℤ n ≡ c *ℤ (s1 -ℤ s0) → (pos 0 -ℤ (c *ℤ (sj -ℤ s0) -ℤ n *ℤ (wj -ℤ w0))) -ℤ c *ℤ (s1 -ℤ sj) +ℤ (w1 -ℤ wj) *ℤ n ≡ pos 0
left-at_stop c n s0 sj s1 w0 wj w1 e = (let h = simp ring at e in simp ring (omega (arith, linear, h)))

left-below : (c sj s1 lj l1 w n : ℤ) → n ≡ pos 0 → ((c *ℤ (s1 -ℤ l1)) -ℤ (c *ℤ (sj -ℤ lj))) -ℤ c *ℤ (s1 -ℤ sj) +ℤ w *ℤ n ≡ c *ℤ (lj -ℤ l1)
left-below c sj s1 lj l1 w n e = rw e (simp ring (omega (arith, linear)))

left-at_reserve : (c sj s1 lj w n : ℤ) → n ≡ pos 0 → (pos 0 -ℤ (c *ℤ (sj -ℤ lj))) -ℤ c *ℤ (s1 -ℤ sj) +ℤ w *ℤ n ≡ c *ℤ (lj -ℤ s1)
left-at_reserve c sj s1 lj w n e = rw e (simp ring (omega (arith, linear)))

-- what is left, by the two gaps
rest-by : (weight sum : ℕ → ℤ) (scale : ℤ) (mean gap : ℕ → ℤ) (j : ℕ) (x y : ℤ) → gap j ≡ x → gap (suc j) ≡ y
    → rest_of weight sum scale mean gap j ≡ (y -ℤ x) -ℤ scale *ℤ (sum (suc j) -ℤ sum j) +ℤ (weight (suc j) -ℤ weight j) *ℤ mean j
rest-by weight sum scale mean gap j x y e f = ap₂ (λ x y. (y -ℤ x) -ℤ scale *ℤ (sum (suc j) -ℤ sum j) +ℤ (weight (suc j) -ℤ weight j) *ℤ mean j) e f

-- the gap at the place where the next pool begins, or at the end
gap-after : (kinds : ℕ) (weight sum : ℕ → ℤ) (pools : Pools) (scale : ℤ) (mean : ℕ → ℤ) (j : ℕ) → j < kinds → pools.reserve ≤ suc j → (suc j < kinds → pools.first (suc j) ≡ suc j) → gap_times kinds weight sum pools scale mean (suc j) ≡ pos 0
gap-after kinds weight sum pools scale mean j b g first = elim (cases_lt (suc j) kinds) [
  | inl l ↦ gap-begins kinds weight sum pools scale mean (suc j) l g (first l)
  | inr e ↦
      let same : kinds ≡ suc j = omega (arith, b, e) in
      subst (λ m. gap_times kinds weight sum pools scale mean m ≡ pos 0) same (gap-behind kinds weight sum pools scale mean)
]

-- nothing is left of a value that buys
rest-above : (kinds : ℕ) (weight sum : ℕ → ℤ) (pools : Pools) (scale : ℤ) (mean : ℕ → ℤ) → IsPooled kinds weight sum pools → ((x y : ℕ) → x < y → y ≤ kinds → weight x <ℤ weight y) → AreMeans kinds weight sum pools scale mean
    → (j : ℕ) → j < kinds → pools.reserve ≤ j → rest_of weight sum scale mean (gap_times kinds weight sum pools scale mean) j ≡ pos 0
rest-above kinds weight sum pools scale mean p up are j b g = elim (cases_lt (suc j) kinds) [
  | inl l ↦ elim (next-pool kinds weight sum pools p j l) [
    | inl e ↦ at-stop e.0 (λ _. e.1)
    | inr e ↦
        let (buys, first, stop) = e in
        let same : mean (suc j) ≡ mean j = means-joined kinds weight sum pools scale mean are j (suc j) g (omega (arith, g)) b l (pool-weight kinds weight sum pools p up j b) first stop in
        let next : gap_times kinds weight sum pools scale mean (suc j) ≡ scale *ℤ (sum (suc j) -ℤ sum (pools.first j)) -ℤ mean j *ℤ (weight (suc j) -ℤ weight (pools.first j)) =
        gap-above kinds weight sum pools scale mean (suc j) l (omega (arith, g)) ∙ ap₂ (λ s n. scale *ℤ (sum (suc j) -ℤ sum s) -ℤ n *ℤ (weight (suc j) -ℤ weight s)) first same in
        rest-by weight sum scale mean (gap_times kinds weight sum pools scale mean) j _ _ (gap-above kinds weight sum pools scale mean j b g) next
        ∙ left-inside scale (mean j) (sum (pools.first j)) (sum j) (sum (suc j)) (weight (pools.first j)) (weight j) (weight (suc j))
  ]
  | inr l ↦ at-stop (last-stop kinds weight sum pools p j (omega (arith, b, l))) (λ c. absurd (omega (arith, c, l)))
]
  where
    at-stop : pools.stop j ≡ suc j → (suc j < kinds → pools.first (suc j) ≡ suc j) → rest_of weight sum scale mean (gap_times kinds weight sum pools scale mean) j ≡ pos 0
    at-stop stop first =
        rest-by weight sum scale mean (gap_times kinds weight sum pools scale mean) j _ _ (gap-above kinds weight sum pools scale mean j b g) (gap-after kinds weight sum pools scale mean j b (omega (arith, g)) first)
        ∙ left-at_stop scale (mean j) (sum (pools.first j)) (sum j) (sum (suc j)) (weight (pools.first j)) (weight j) (weight (suc j))
        (subst (λ e. (weight e -ℤ weight (pools.first j)) *ℤ mean j ≡ scale *ℤ (sum e -ℤ sum (pools.first j))) stop (are.some j g b))

-- what is left of a value that does not buy
rest-below : (kinds : ℕ) (weight sum : ℕ → ℤ) (pools : Pools) (scale : ℤ) (mean : ℕ → ℤ) → IsPooled kinds weight sum pools → AreMeans kinds weight sum pools scale mean
    → (j : ℕ) → j < kinds → j < pools.reserve → pos 0 ≤ℤ rest_of weight sum scale mean (gap_times kinds weight sum pools scale mean) j
rest-below kinds weight sum pools scale mean p are j b l = elim (cases_lt (suc j) pools.reserve) [
  | inl m ↦
      let left : rest_of weight sum scale mean (gap_times kinds weight sum pools scale mean) j ≡ scale *ℤ (least_to sum j -ℤ least_to sum (suc j)) =
      rest-by weight sum scale mean (gap_times kinds weight sum pools scale mean) j _ _ (gap-below kinds weight sum pools scale mean j b l) (gap-below kinds weight sum pools scale mean (suc j) (omega (arith, m, p.inside)) m)
      ∙ left-below scale (sum j) (sum (suc j)) (least_to sum j) (least_to sum (suc j)) (weight (suc j) -ℤ weight j) (mean j) (are.none j l) in
      let fall : pos 0 ≤ℤ (least_to sum j -ℤ least_to sum (suc j)) = omega (arith, linear, least_to-next sum j) in
      omega (arith, linear, left, nonneg-*ℤ scale (least_to sum j -ℤ least_to sum (suc j)) (le_from_lt (pos 0) scale are.positive) fall)
  | inr m ↦
      let same : pools.reserve ≡ suc j = omega (arith, l, m) in
      let first : suc j < kinds → pools.first (suc j) ≡ suc j = λ c. subst (λ z. pools.first z ≡ z) same (reserve-begins kinds weight sum pools p (omega (arith, same, c))) in
      let left : rest_of weight sum scale mean (gap_times kinds weight sum pools scale mean) j ≡ scale *ℤ (least_to sum j -ℤ sum (suc j)) =
      rest-by weight sum scale mean (gap_times kinds weight sum pools scale mean) j _ _ (gap-below kinds weight sum pools scale mean j b l) (gap-after kinds weight sum pools scale mean j b (omega (arith, same)) first)
      ∙ left-at_reserve scale (sum j) (sum (suc j)) (least_to sum j) (weight (suc j) -ℤ weight j) (mean j) (are.none j l) in
      let lowest : sum (suc j) ≤ℤ least_to sum j = least_to-above sum j (sum (suc j)) (λ x k. subst (λ z. sum z ≤ℤ sum x) same (p.least x (omega (arith, k, b)))) in
      let fall : pos 0 ≤ℤ (least_to sum j -ℤ sum (suc j)) = omega (arith, linear, lowest) in
      omega (arith, linear, left, nonneg-*ℤ scale (least_to sum j -ℤ sum (suc j)) (le_from_lt (pos 0) scale are.positive) fall)
]

-- ---- at both ends, and where pools begin

first-gap : (kinds : ℕ) (weight sum : ℕ → ℤ) (pools : Pools) (scale : ℤ) (mean : ℕ → ℤ) → IsPooled kinds weight sum pools → gap_times kinds weight sum pools scale mean 0 ≡ pos 0
first-gap kinds weight sum pools scale mean p = elim (cases_lt 0 kinds) [
  | inl b ↦ elim (cases_lt 0 pools.reserve) [
    | inl l ↦ gap-below kinds weight sum pools scale mean 0 b l ∙ no-fall scale (sum 0)
    | inr g ↦
        let (low, high, inside) = p.place 0 b in
        gap-begins kinds weight sum pools scale mean 0 b g (omega (arith, low))
  ]
  | inr g ↦
      let same : kinds ≡ 0 = omega (arith, g) in
      subst (λ m. gap_times kinds weight sum pools scale mean m ≡ pos 0) same (gap-behind kinds weight sum pools scale mean)
]
  where
    no-fall : (c s : ℤ) → c *ℤ (s -ℤ s) ≡ pos 0
    no-fall c s = simp ring (omega (arith, linear))

gap-times-nonneg : (kinds : ℕ) (weight sum : ℕ → ℤ) (pools : Pools) (scale : ℤ) (mean : ℕ → ℤ) → IsPooled kinds weight sum pools → ((x y : ℕ) → x < y → y ≤ kinds → weight x <ℤ weight y) → AreMeans kinds weight sum pools scale mean
    → (j : ℕ) → j < kinds → pos 0 ≤ℤ gap_times kinds weight sum pools scale mean j
gap-times-nonneg kinds weight sum pools scale mean p up are j b =
    let product : pos 0 ≤ℤ (scale *ℤ gap_by weight sum pools j) = nonneg-*ℤ scale (gap_by weight sum pools j) (le_from_lt (pos 0) scale are.positive) (gap-nonneg kinds weight sum pools p j b) in
    let same : gap_scale weight pools j *ℤ gap_times kinds weight sum pools scale mean j ≡ scale *ℤ gap_by weight sum pools j = gap-scaled kinds weight sum pools scale mean are j b in
    nonneg_from_*ℤ (gap_scale weight pools j) (gap_times kinds weight sum pools scale mean j) (scale-positive kinds weight sum pools p up j b) (subst (λ z. pos 0 ≤ℤ z) (sym same) product)

-- no gap where a pool begins that buys
pub begins-is : (pools : Pools) (s : ℕ) → begins pools s ≡ true → (pools.reserve ≤ s) × (pools.first s ≡ s)
begins-is pools s h = elim (cases_lt s pools.reserve) [
  | inl l ↦ absurd (clash (sym h ∙ rw (lt-ltb s pools.reserve l) refl))
  | inr g ↦ (g, eqb-true (pools.first s) s (sym (let e : begins pools s ≡ (pools.first s == s) = rw (le-ltb s pools.reserve g) refl in e) ∙ h))
]
  where
    clash : true ≡ false → ⊥
    clash e = cc

-- ---- steps of the means

-- from a value to the next one in the same pool, to one where nothing is sold, and to one that begins a pool
step-next : (kinds : ℕ) (weight sum : ℕ → ℤ) (pools : Pools) (scale : ℤ) (mean : ℕ → ℤ) → IsPooled kinds weight sum pools → ((x y : ℕ) → x < y → y ≤ kinds → weight x <ℤ weight y) → AreMeans kinds weight sum pools scale mean
    → (j : ℕ) → suc j < kinds → (pos 0 ≤ℤ (mean (suc j) -ℤ mean j)) × (begins pools (suc j) ≡ false → mean (suc j) -ℤ mean j ≡ pos 0)
step-next kinds weight sum pools scale mean p up are j b = elim (cases_lt (suc j) pools.reserve) [
  | inl l ↦
      let here : mean j ≡ pos 0 = are.none j (omega (arith, l)) in
      let there : mean (suc j) ≡ pos 0 = are.none (suc j) l in
      (omega (arith, linear, here, there), λ _. omega (arith, linear, here, there))
  | inr g ↦ elim (next-pool kinds weight sum pools p j b) [
    | inl e ↦ (grows e.0 g (cases_lt j pools.reserve), λ no. absurd (clash (begins pools (suc j)) (rw (le-ltb (suc j) pools.reserve g) (eq-eqb (pools.first (suc j)) (suc j) e.1)) no))
    | inr e ↦
        let (buys, first, stop) = e in
        let same : mean (suc j) ≡ mean j = means-joined kinds weight sum pools scale mean are j (suc j) buys (omega (arith, buys)) (omega (arith, b)) b (pool-weight kinds weight sum pools p up j (omega (arith, b))) first stop in
        (omega (arith, linear, same), λ _. omega (arith, linear, same))
  ]
]
  where
    clash : (t : Bool) → t ≡ true → t ≡ false → ⊥
    clash true h k = cc
    clash false h k = cc

    grows : pools.stop j ≡ suc j → pools.reserve ≤ suc j → (j < pools.reserve) ⊎ (pools.reserve ≤ j) → pos 0 ≤ℤ (mean (suc j) -ℤ mean j)
    grows stop g (inl l) =
        let here : mean j ≡ pos 0 = are.none j l in
        let there : pos 0 ≤ℤ mean (suc j) = mean-nonneg kinds weight sum pools scale mean p are (suc j) g b (pool-weight kinds weight sum pools p up (suc j) b) in
        omega (arith, linear, here, there)
    grows stop g (inr h) =
        let more : mean j ≤ℤ mean (suc j) =
        steeper scale (over_pool weight pools j) (over_pool weight pools (suc j)) (over_pool sum pools j) (over_pool sum pools (suc j)) (mean j) (mean (suc j))
        (pool-weight kinds weight sum pools p up j (omega (arith, b))) (pool-weight kinds weight sum pools p up (suc j) b) are.positive
        (are.some j h (omega (arith, b))) (are.some (suc j) g b) (next-rise kinds weight sum pools p j b h stop) in
        omega (arith, linear, more)

step-first : (kinds : ℕ) (weight sum : ℕ → ℤ) (pools : Pools) (scale : ℤ) (mean : ℕ → ℤ) → IsPooled kinds weight sum pools → ((x y : ℕ) → x < y → y ≤ kinds → weight x <ℤ weight y) → AreMeans kinds weight sum pools scale mean
    → 0 < kinds → (pos 0 ≤ℤ mean 0) × (begins pools 0 ≡ false → mean 0 ≡ pos 0)
step-first kinds weight sum pools scale mean p up are b = elim (cases_lt 0 pools.reserve) [
  | inl l ↦ (let here : mean 0 ≡ pos 0 = are.none 0 l in (omega (arith, linear, here), λ _. here))
  | inr g ↦
      let (low, high, inside) = p.place 0 b in
      let first : pools.first 0 ≡ 0 = omega (arith, low) in
      (mean-nonneg kinds weight sum pools scale mean p are 0 g b (pool-weight kinds weight sum pools p up 0 b), λ no. absurd (clash (begins pools 0) (rw (le-ltb 0 pools.reserve g) (eq-eqb (pools.first 0) 0 first)) no))
]
  where
    clash : (t : Bool) → t ≡ true → t ≡ false → ⊥
    clash true h k = cc
    clash false h k = cc

-- ---- all of it

pub is-ironed : (kinds : ℕ) (weight sum : ℕ → ℤ) (pools : Pools) (scale : ℤ) (mean : ℕ → ℤ) → IsPooled kinds weight sum pools → ((x y : ℕ) → x < y → y ≤ kinds → weight x <ℤ weight y)
    → AreMeans kinds weight sum pools scale mean → IsIroned kinds weight sum pools scale mean (gap_times kinds weight sum pools scale mean)
is-ironed kinds weight sum pools scale mean p up are = record {
  first = first-gap kinds weight sum pools scale mean p;
  last = gap-behind kinds weight sum pools scale mean;
  nonneg = gap-times-nonneg kinds weight sum pools scale mean p up are;
  step = λ j b. elim (cases_lt j pools.reserve) [
    | inl l ↦ rest-below kinds weight sum pools scale mean p are j b l
    | inr g ↦ le_from_same (pos 0) _ (sym (rest-above kinds weight sum pools scale mean p up are j b g))
  ];
  bought = λ j g b. rest-above kinds weight sum pools scale mean p up are j b g;
  flat = λ j b h. (let (buys, start) = begins-is pools j h in gap-begins kinds weight sum pools scale mean j b buys start);
  rise = λ j b. rises j b;
  starts = λ j b. still j b;
}
  where
    rises : (j : ℕ) → j < kinds → pos 0 ≤ℤ step_of mean j
    rises zero b = (step-first kinds weight sum pools scale mean p up are b).0
    rises (suc j) b = (step-next kinds weight sum pools scale mean p up are j b).0

    still : (j : ℕ) → j < kinds → begins pools j ≡ false → step_of mean j ≡ pos 0
    still zero b = (step-first kinds weight sum pools scale mean p up are b).1
    still (suc j) b = (step-next kinds weight sum pools scale mean p up are j b).1
