-- The pools of one group by the rule: each brings more than the one below it, and those from the reserve on bring something.
use Rattle.std.proofs.Common.{◌≡◌, ℕ, zero, suc, ◌+◌, ◌-◌, ◌<◌, ◌≤◌, ℤ, pos, ◌+ℤ◌, ◌-ℤ◌, ◌*ℤ◌, ◌≤ℤ◌, ◌<ℤ◌, length, sym, ap, subst, arith}
use Rattle.md_math.specs.LexOrder.{IsPairPositive}
use Rattle.md_math.specs.Lists.{number_at}
use Rattle.md_math.proofs.Order.{*ℤ-le, *ℤ-lt, lt_from_*ℤ, le_from_lt, nonneg-*ℤ, positive-*ℤ, positive_pos}
use Rattle.md_math.proofs.Ring.{linear, ring}
use Rattle.md_setting.specs.Grouped.{Group}
use Rattle.md_setting.specs.GroupedShaped.{IsGroup}
use Rattle.md_list.specs.Gains.{weight_in, benefit_of, between}
use Rattle.md_list.specs.ByRule.{sums_of, IsPoolEnd}
use Rattle.md_list_laws.proofs.Inside.{between-positive}
use Rattle.md_list_laws.proofs.Pairs.{more, pair-by_second, positive-through}
use Rattle.md_list_laws.proofs.Tails.{between-level}

-- ---- sums

nonneg-steps : (f : ℕ → ℤ) (x k : ℕ) → ((v : ℕ) → x ≤ v → v < x + k → pos 0 ≤ℤ f v) → pos 0 ≤ℤ between f x (x + k)
nonneg-steps f x zero h = (let e : x + zero ≡ x = omega arith in rw e (omega (arith, linear)))
nonneg-steps f x (suc k) h =
    let e : x + suc k ≡ suc (x + k) = omega arith in
    rw e (omega (arith, linear, nonneg-steps f x k (λ v l b. h v l (omega (arith, b))), h (x + k) (omega arith) (omega arith)))

pub between-nonneg : (f : ℕ → ℤ) (x y : ℕ) → x ≤ y → ((v : ℕ) → x ≤ v → v < y → pos 0 ≤ℤ f v) → pos 0 ≤ℤ between f x y
between-nonneg f x y l h =
    let e : x + (y - x) ≡ y = omega (arith, l) in
    subst (λ k. ((v : ℕ) → x ≤ v → v < k → pos 0 ≤ℤ f v) → pos 0 ≤ℤ between f x k) e (nonneg-steps f x (y - x)) h

-- ---- values that ascend

ascending-steps : (n : ℕ) (f : ℕ → ℤ) → ((v : ℕ) → suc v < n → f v <ℤ f (suc v)) → (v k : ℕ) → v + k < n → f v ≤ℤ f (v + k)
ascending-steps n f up v zero b = (let e : v + zero ≡ v = omega arith in rw e (omega (arith, linear)))
ascending-steps n f up v (suc k) b =
    let e : v + suc k ≡ suc (v + k) = omega arith in
    rw e (omega (arith, linear, ascending-steps n f up v k (omega (arith, b)), up (v + k) (omega (arith, b))))

no-greater : (n : ℕ) (f : ℕ → ℤ) → ((v : ℕ) → suc v < n → f v <ℤ f (suc v)) → (v w : ℕ) → v ≤ w → w < n → f v ≤ℤ f w
no-greater n f up v w l b = (let e : v + (w - v) ≡ w = omega (arith, l) in subst (λ u. u < n → f v ≤ℤ f u) e (ascending-steps n f up v (w - v)) b)

less : (n : ℕ) (f : ℕ → ℤ) → ((v : ℕ) → suc v < n → f v <ℤ f (suc v)) → (v w : ℕ) → v < w → w < n → f v <ℤ f w
less n f up v w l b = omega (arith, linear, up v (omega (arith, l, b)), no-greater n f up (suc v) w (omega (arith, l)) b)

-- values from a place up to any place above it bring something
pub record AllRise (values : ℕ) (gain benefit : ℕ → ℤ) (first : ℕ) : Type 0 where
  pub rise : (x : ℕ) → first < x → x ≤ values → IsPairPositive (between gain first x) (between benefit first x)

module _ (group : Group) (is : IsGroup group) where
  abbrev count : ℕ
  count = length group.values

  abbrev weight : ℕ → ℤ
  weight = weight_in group

  abbrev benefit : ℕ → ℤ
  benefit = benefit_of group

  abbrev value : ℕ → ℤ
  value = number_at group.values

  pub weight-between : (x y : ℕ) → x < y → y ≤ count → pos 0 <ℤ between weight x y
  weight-between x y l b = between-positive weight x y l (λ v m c. positive_pos _ (is.positive v (omega (arith, b, c))))

  -- values below a place have a smaller mean than that value, and those from it on no smaller one
  mean-below : (x y : ℕ) → x < y → y < count → between benefit x y <ℤ (value y *ℤ between weight x y)
  mean-below x y l b =
      let more : pos 0 <ℤ between (λ v. value y *ℤ weight v -ℤ pos 1 *ℤ benefit v) x y =
      between-positive (λ v. value y *ℤ weight v -ℤ pos 1 *ℤ benefit v) x y l
      (λ v m c. above (value y) (value v) (weight v) (positive_pos _ (is.positive v (omega (arith, b, c)))) (less count value is.ascending v y c b)) in
      omega (arith, linear, more, between-level weight benefit (value y) (pos 1) x y, one (between benefit x y))
    where
      above : (c v w : ℤ) → pos 0 <ℤ w → v <ℤ c → pos 0 <ℤ (c *ℤ w -ℤ pos 1 *ℤ (w *ℤ v))
      above c v w p h =
          let l : pos 0 <ℤ (w *ℤ (c -ℤ v)) = positive-*ℤ w (c -ℤ v) p (omega (arith, linear, h)) in
          let e : w *ℤ (c -ℤ v) ≡ c *ℤ w -ℤ pos 1 *ℤ (w *ℤ v) = simp ring (omega (arith, linear)) in
          omega (arith, linear, l, e)

      one : (z : ℤ) → pos 1 *ℤ z ≡ z
      one z = simp ring

  mean-from : (x y : ℕ) → x < y → y ≤ count → (value x *ℤ between weight x y) ≤ℤ between benefit x y
  mean-from x y l b =
      let more : pos 0 ≤ℤ between (λ v. pos 1 *ℤ benefit v -ℤ value x *ℤ weight v) x y =
      between-nonneg (λ v. pos 1 *ℤ benefit v -ℤ value x *ℤ weight v) x y (omega (arith, l))
      (λ v m c. above (value x) (value v) (weight v) (positive_pos _ (is.positive v (omega (arith, b, c)))) (no-greater count value is.ascending x v m (omega (arith, b, c)))) in
      omega (arith, linear, more, between-level benefit weight (pos 1) (value x) x y, one (between benefit x y))
    where
      above : (c v w : ℤ) → pos 0 <ℤ w → c ≤ℤ v → pos 0 ≤ℤ (pos 1 *ℤ (w *ℤ v) -ℤ c *ℤ w)
      above c v w p h =
          let l : pos 0 ≤ℤ (w *ℤ (v -ℤ c)) = nonneg-*ℤ w (v -ℤ c) (le_from_lt (pos 0) w p) (omega (arith, linear, h)) in
          let e : w *ℤ (v -ℤ c) ≡ pos 1 *ℤ (w *ℤ v) -ℤ c *ℤ w = simp ring (omega (arith, linear)) in
          omega (arith, linear, l, e)

      one : (z : ℤ) → pos 1 *ℤ z ≡ z
      one z = simp ring

  -- so higher values have the greater mean
  mean-rises : (x y z : ℕ) → x < y → y < z → z ≤ count → pos 0 <ℤ more (between benefit y z) (between weight y z) (between benefit x y) (between weight x y)
  mean-rises x y z l m b =
      let w = between weight x y in
      let v = between weight y z in
      let below : (v *ℤ between benefit x y) <ℤ (v *ℤ (value y *ℤ w)) =
      *ℤ-lt v (between benefit x y) (value y *ℤ w) (weight-between y z m b) (mean-below x y l (omega (arith, m, b))) in
      let from : (w *ℤ (value y *ℤ v)) ≤ℤ (w *ℤ between benefit y z) =
      *ℤ-le w (value y *ℤ v) (between benefit y z) (le_from_lt (pos 0) w (weight-between x y l (omega (arith, m, b)))) (mean-from y z m b) in
      parts (between benefit x y) w (between benefit y z) v (value y) below from
    where
      parts : (h w i v c : ℤ) → (v *ℤ h) <ℤ (v *ℤ (c *ℤ w)) → (w *ℤ (c *ℤ v)) ≤ℤ (w *ℤ i) → pos 0 <ℤ (i *ℤ w -ℤ h *ℤ v)
      parts h w i v c p q = simp ring (omega (arith, linear, simp ring at p, simp ring at q))

  -- ---- the next pool

  module _ (gain : ℕ → ℤ) where
    -- whatever begins where a pool ends brings more than the pool
    pub next-more : (first stop x : ℕ) → IsPoolEnd count (sums_of weight) (sums_of gain) first stop → stop < x → x ≤ count
        → IsPairPositive (more (between gain stop x) (between weight stop x) (between gain first stop) (between weight first stop))
        (more (between benefit stop x) (between weight stop x) (between benefit first stop) (between weight first stop))
    next-more first stop x pool l b =
        pair-by_second _ _
        (apart (between gain first stop) (between weight first stop) (between gain first x) (between weight first x) (between gain stop x) (between weight stop x)
        (join gain first stop x) (join weight first stop x) (pool.least x (omega (arith, l, pool.some)) b))
        (mean-rises first stop x pool.some l b)
      where
        join : (f : ℕ → ℤ) (x y z : ℕ) → between f x z ≡ between f x y +ℤ between f y z
        join f x y z = omega (arith, linear)

        apart : (s w r u t v : ℤ) → r ≡ s +ℤ t → u ≡ w +ℤ v → (s *ℤ u) ≤ℤ (r *ℤ w) → pos 0 ≤ℤ (t *ℤ w -ℤ s *ℤ v)
        apart s w r u t v e d h =
            let turned : (s *ℤ (w +ℤ v)) ≤ℤ ((s +ℤ t) *ℤ w) = rw (e, d) at h in
            simp ring (omega (arith, linear, simp ring at turned))

    -- where all that begins with a pool brings something, so does all that begins where the pool ends
    pub next-rise : (first stop : ℕ) → AllRise count gain benefit first → IsPoolEnd count (sums_of weight) (sums_of gain) first stop → AllRise count gain benefit stop
    next-rise first stop h pool = record {
      rise = λ x l b.
          positive-through (between gain stop x) (between benefit stop x) (between weight stop x) (between gain first stop) (between benefit first stop) (between weight first stop)
          (weight-between stop x l b) (weight-between first stop pool.some pool.inside) (next-more first stop x pool l b) (h.rise stop pool.some pool.inside);
    }

    -- within a pool the sum of gains stays above the chord, whose slope is num over den
    pub pool-inside : (first stop : ℕ) (num den : ℤ) → IsPoolEnd count (sums_of weight) (sums_of gain) first stop → pos 0 <ℤ den → den *ℤ between gain first stop ≡ num *ℤ between weight first stop
        → (x : ℕ) → first < x → x < stop → (num *ℤ between weight first x) <ℤ (den *ℤ between gain first x)
    pool-inside first stop num den pool p is x l b =
        lt_from_*ℤ (between weight first stop) _ _ (weight-between first stop pool.some pool.inside)
        (by num den (between gain first stop) (between weight first stop) (between gain first x) (between weight first x) is (*ℤ-lt den _ _ p (pool.soonest x l b)))
      where
        by : (n d s w r u : ℤ) → d *ℤ s ≡ n *ℤ w → (d *ℤ (s *ℤ u)) <ℤ (d *ℤ (r *ℤ w)) → (w *ℤ (n *ℤ u)) <ℤ (w *ℤ (d *ℤ r))
        by n d s w r u e h =
            let first : w *ℤ (n *ℤ u) ≡ (n *ℤ w) *ℤ u = simp ring in
            let second : (d *ℤ s) *ℤ u ≡ d *ℤ (s *ℤ u) = simp ring in
            let third : d *ℤ (r *ℤ w) ≡ w *ℤ (d *ℤ r) = simp ring in
            omega (arith, linear, first, sym (ap (λ z. z *ℤ u) e), second, third, h)
