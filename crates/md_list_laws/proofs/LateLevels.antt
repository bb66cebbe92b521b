-- The levels of a valid list, where the designer's objective counts k times, welfare once, and k is large enough.
use Rattle.std.proofs.Common.{◌≡◌, ℕ, suc, ◌<◌, ◌≤◌, ℤ, pos, ◌+ℤ◌, ◌-ℤ◌, ◌*ℤ◌, neg_ℤ, ◌≤ℤ◌, ◌<ℤ◌, Bool, nat_lt, if◌then◌else◌, List, length, inl, inr, sym, ap, ap₂, ◌∙◌, subst, arith, lt-ltb, le-ltb}
use Rattle.std.proofs.lemmas.Bool.{cases_lt}
use Rattle.md_math.specs.Lists.{number_at}
use Rattle.md_math.specs.Sums.{sum_to}
use Rattle.md_math.proofs.Order.{le_from_*ℤ, le_from_lt, nonneg-*ℤ, positive-*ℤ, positive_pos}
use Rattle.md_math.proofs.Ring.{linear, ring}
use Rattle.md_math.proofs.SumLaws.{sum_to-same, sum_to-+ℤ, sum_to-*ℤ}
use Rattle.md_num.specs.declared.frac.Frac.{Frac}
use Rattle.md_setting.specs.Grouped.{GroupedAuction, group_at}
use Rattle.md_setting.specs.GroupedShaped.{IsOrdered}
use Rattle.md_list.specs.Gains.{weight_in, weight_from, gain_of, benefit_of, between}
use Rattle.md_list.specs.Ranks.{Rank}
use Rattle.md_list.specs.Valid.{rank_at, level_at, over_rank, group_in, unlisted, IsValid}
use Rattle.md_list_laws.proofs.Inside.{IsInside, ranks-inside, between-positive}
use Rattle.md_list_laws.proofs.Late.{IsLate, always, weaker, both-late, each-late, pair-late, pair-times, HasCommon, common}
use Rattle.md_list_laws.proofs.Levels.{gain_by}
use Rattle.md_list_laws.proofs.Tails.{HasLevel}

-- ---- an auction, group by group

abbrev pub values_in : GroupedAuction → ℕ → ℕ → ℤ
values_in a k v = number_at (group_at a k).values v

abbrev pub weights_in : GroupedAuction → ℕ → ℕ → ℤ
weights_in a k = weight_in (group_at a k)

abbrev pub from_in : GroupedAuction → ℕ → ℕ → ℤ
from_in a k = weight_from (group_at a k)

-- what the designer gains when a bidder with this value gets a unit, compared with keeping it
abbrev pub surplus_in : GroupedAuction → ℕ → ℕ → ℤ
surplus_in a k v = (a.welfare *ℤ values_in a k v +ℤ (group_at a k).worth) -ℤ a.keep

-- both objectives together: the designer's counts so often, welfare once
abbrev pub aims_in : GroupedAuction → ℤ → ℕ → ℕ → ℤ
aims_in a often k v = often *ℤ surplus_in a k v +ℤ values_in a k v

abbrev pub gains_in : GroupedAuction → ℤ → ℕ → ℕ → ℤ
gains_in a often k = gain_by (values_in a k) (weights_in a k) (from_in a k) (aims_in a often k) (often *ℤ a.revenue)

gains-parts : (a : GroupedAuction) (often : ℤ) (k x y : ℕ) → between (gains_in a often k) x y ≡ often *ℤ between (gain_of a (group_at a k)) x y +ℤ between (benefit_of (group_at a k)) x y
gains-parts a often k x y = ap₂ (λ p q. p -ℤ q) (at y) (at x) ∙ parts (sum_to y (gain_of a (group_at a k))) (sum_to x (gain_of a (group_at a k))) (sum_to y (benefit_of (group_at a k))) (sum_to x (benefit_of (group_at a k)))
  where
    one : (w c v r z : ℤ) → w *ℤ (often *ℤ c +ℤ v) +ℤ (often *ℤ r) *ℤ z ≡ often *ℤ (w *ℤ c +ℤ r *ℤ z) +ℤ w *ℤ v
    one w c v r z = simp ring (omega (arith, linear))

    at : (n : ℕ) → sum_to n (gains_in a often k) ≡ often *ℤ sum_to n (gain_of a (group_at a k)) +ℤ sum_to n (benefit_of (group_at a k))
    at n =
        sum_to-same n _ (λ v. often *ℤ gain_of a (group_at a k) v +ℤ benefit_of (group_at a k) v)
        (λ v b. one (weights_in a k v) (surplus_in a k v) (values_in a k v) a.revenue (values_in a k v *ℤ from_in a k v -ℤ values_in a k (suc v) *ℤ from_in a k (suc v)))
        ∙ sum_to-+ℤ n (λ v. often *ℤ gain_of a (group_at a k) v) (benefit_of (group_at a k))
        ∙ ap (λ z. z +ℤ sum_to n (benefit_of (group_at a k))) (sum_to-*ℤ n often (gain_of a (group_at a k)))

    parts : (g h b c : ℤ) → (often *ℤ g +ℤ b) -ℤ (often *ℤ h +ℤ c) ≡ often *ℤ (g -ℤ h) +ℤ (b -ℤ c)
    parts g h b c = simp ring (omega (arith, linear))

-- ---- arithmetic: e is the factor of a denominator, w the weight of a record, h its benefit by weight

-- the level of a record, over the common denominator
abbrev level_by : (often e num den w h : ℤ) → ℤ
level_by often e num den w h = e *ℤ (often *ℤ (num *ℤ w) +ℤ h *ℤ den)

part-level : (often e num den w h v g b : ℤ) → pos 0 <ℤ e → pos 0 ≤ℤ (often *ℤ (w *ℤ (den *ℤ g -ℤ num *ℤ v)) +ℤ den *ℤ (w *ℤ b -ℤ h *ℤ v))
    → (level_by often e num den w h *ℤ v) ≤ℤ ((e *ℤ (den *ℤ w)) *ℤ (often *ℤ g +ℤ b))
part-level often e num den w h v g b p l =
    let more : pos 0 ≤ℤ (e *ℤ (often *ℤ (w *ℤ (den *ℤ g -ℤ num *ℤ v)) +ℤ den *ℤ (w *ℤ b -ℤ h *ℤ v))) = nonneg-*ℤ e _ (le_from_lt (pos 0) e p) l in
    omega (arith, linear, more, parts often e num den w h v g b)
  where
    parts : (o e n d w h v g b : ℤ) → (e *ℤ (d *ℤ w)) *ℤ (o *ℤ g +ℤ b) ≡ (e *ℤ (o *ℤ (n *ℤ w) +ℤ h *ℤ d)) *ℤ v +ℤ e *ℤ (o *ℤ (w *ℤ (d *ℤ g -ℤ n *ℤ v)) +ℤ d *ℤ (w *ℤ b -ℤ h *ℤ v))
    parts o e n d w h v g b = simp ring (omega (arith, linear))

whole-level : (often e num den w h g : ℤ) → den *ℤ g ≡ num *ℤ w → level_by often e num den w h *ℤ w ≡ (e *ℤ (den *ℤ w)) *ℤ (often *ℤ g +ℤ h)
whole-level often e num den w h g is = first often e num den w h ∙ ap (λ z. e *ℤ (often *ℤ (w *ℤ z)) +ℤ e *ℤ (den *ℤ (w *ℤ h))) (sym is) ∙ second often e den w h g
  where
    first : (o e n d w h : ℤ) → (e *ℤ (o *ℤ (n *ℤ w) +ℤ h *ℤ d)) *ℤ w ≡ e *ℤ (o *ℤ (w *ℤ (n *ℤ w))) +ℤ e *ℤ (d *ℤ (w *ℤ h))
    first o e n d w h = simp ring

    second : (o e d w h g : ℤ) → e *ℤ (o *ℤ (w *ℤ (d *ℤ g))) +ℤ e *ℤ (d *ℤ (w *ℤ h)) ≡ (e *ℤ (d *ℤ w)) *ℤ (o *ℤ g +ℤ h)
    second o e d w h g = simp ring

level-nonneg : (often e num den w h : ℤ) → pos 0 <ℤ e → pos 0 ≤ℤ (often *ℤ (w *ℤ num) +ℤ den *ℤ h) → pos 0 ≤ℤ level_by often e num den w h
level-nonneg often e num den w h p l = subst (λ z. pos 0 ≤ℤ z) (turned often e num den w h) (nonneg-*ℤ e _ (le_from_lt (pos 0) e p) l)
  where
    turned : (o e n d w h : ℤ) → e *ℤ (o *ℤ (w *ℤ n) +ℤ d *ℤ h) ≡ e *ℤ (o *ℤ (n *ℤ w) +ℤ h *ℤ d)
    turned o e n d w h = simp ring

level-falls : (often whole e num den w h f least over v b : ℤ) → pos 0 <ℤ whole → pos 0 <ℤ e → pos 0 <ℤ f → e *ℤ (den *ℤ w) ≡ whole → f *ℤ (over *ℤ v) ≡ whole
    → pos 0 ≤ℤ (often *ℤ ((w *ℤ v) *ℤ (num *ℤ over -ℤ least *ℤ den)) +ℤ (den *ℤ over) *ℤ (h *ℤ v -ℤ b *ℤ w)) → level_by often f least over v b ≤ℤ level_by often e num den w h
level-falls often whole e num den w h f least over v b some p q is also l =
    let more : pos 0 ≤ℤ ((e *ℤ f) *ℤ (often *ℤ ((w *ℤ v) *ℤ (num *ℤ over -ℤ least *ℤ den)) +ℤ (den *ℤ over) *ℤ (h *ℤ v -ℤ b *ℤ w))) =
    nonneg-*ℤ (e *ℤ f) _ (le_from_lt (pos 0) (e *ℤ f) (positive-*ℤ e f p q)) l in
    le_from_*ℤ whole (level_by often f least over v b) (level_by often e num den w h) some
    (subst (λ z. (z *ℤ level_by often f least over v b) ≤ℤ (whole *ℤ level_by often e num den w h)) is
    (subst (λ z. ((e *ℤ (den *ℤ w)) *ℤ level_by often f least over v b) ≤ℤ (z *ℤ level_by often e num den w h)) also
    (omega (arith, linear, more, parts often e num den w h f least over v b))))
  where
    parts : (o e n d w h f l u v b : ℤ) → (f *ℤ (u *ℤ v)) *ℤ (e *ℤ (o *ℤ (n *ℤ w) +ℤ h *ℤ d))
        ≡ (e *ℤ (d *ℤ w)) *ℤ (f *ℤ (o *ℤ (l *ℤ v) +ℤ b *ℤ u)) +ℤ (e *ℤ f) *ℤ (o *ℤ ((w *ℤ v) *ℤ (n *ℤ u -ℤ l *ℤ d)) +ℤ (d *ℤ u) *ℤ (h *ℤ v -ℤ b *ℤ w))
    parts o e n d w h f l u v b = simp ring (omega (arith, linear))

-- ---- the levels

-- levels of places over a denominator: each is that of its record, unlisted values gain nothing, and levels never rise from one
-- place to the next
pub record AreLevels (a : GroupedAuction) (ranks : List Rank) (often den : ℤ) (level : ℕ → ℤ) : Type 0 where
  pub has : (p : ℕ) → p < length ranks → HasLevel (weights_in a) (gains_in a often) den (rank_at ranks p) (level p)
  pub ends : level (length ranks) ≡ pos 0
  pub rest : (k v : ℕ) → k < length a.groups → v < unlisted a ranks k → (den *ℤ between (gains_in a often k) v (unlisted a ranks k)) ≤ℤ pos 0
  pub falls : (p : ℕ) → p < length ranks → level (suc p) ≤ℤ level p

pub record HasLevels (a : GroupedAuction) (ranks : List Rank) (often : ℤ) : Type 0 where
  pub den : ℤ
  pub level : ℕ → ℤ
  pub positive : pos 0 <ℤ den
  pub are : AreLevels a ranks often den level

module _ (a : GroupedAuction) (ranks : List Rank) (levels : List Frac) (ordered : IsOrdered a) (valid : IsValid a ranks levels) where
  abbrev num_at : ℕ → ℤ
  num_at p = (level_at levels p).num

  abbrev den_at : ℕ → ℤ
  den_at p = (level_at levels p).den

  abbrev weight_of_rank : ℕ → ℤ
  weight_of_rank p = over_rank (weight_in (group_in a (rank_at ranks p))) (rank_at ranks p)

  abbrev benefit_of_rank : ℕ → ℤ
  benefit_of_rank p = over_rank (benefit_of (group_in a (rank_at ranks p))) (rank_at ranks p)

  inside : (p : ℕ) → p < length ranks → IsInside (length a.groups) (λ k. length (group_at a k).values) (rank_at ranks p)
  inside = ranks-inside (length a.groups) (λ k. length (group_at a k).values) (λ k. length (group_at a k).values) ranks valid.form (λ k. omega arith)

  weight-positive : (p : ℕ) → p < length ranks → pos 0 <ℤ weight_of_rank p
  weight-positive p b =
      let rank = rank_at ranks p in
      let here = inside p b in
      between-positive (weight_in (group_in a rank)) rank.first rank.stop here.some
      (λ v l c. positive_pos _ ((ordered.group rank.group here.group).positive v (omega (arith, c, here.stop))))

  den-positive : (p : ℕ) → p < length ranks → pos 0 <ℤ den_at p
  den-positive p b = (valid.pool p b).positive

  shared : HasCommon (length ranks) (λ p. den_at p *ℤ weight_of_rank p)
  shared = common (length ranks) (λ p. den_at p *ℤ weight_of_rank p) (λ p b. positive-*ℤ (den_at p) (weight_of_rank p) (den-positive p b) (weight-positive p b))

  abbrev level_in : ℕ → ℕ → ℤ
  level_in k p = if nat_lt p (length ranks) then level_by (pos k) (shared.times p) (num_at p) (den_at p) (weight_of_rank p) (benefit_of_rank p) else pos 0

  level-at : (k p : ℕ) → p < length ranks → level_in k p ≡ level_by (pos k) (shared.times p) (num_at p) (den_at p) (weight_of_rank p) (benefit_of_rank p)
  level-at k p b = ap (λ (t : Bool). if t then level_by (pos k) (shared.times p) (num_at p) (den_at p) (weight_of_rank p) (benefit_of_rank p) else pos 0) (lt-ltb p (length ranks) b)

  level-behind : (k p : ℕ) → length ranks ≤ p → level_in k p ≡ pos 0
  level-behind k p b = ap (λ (t : Bool). if t then level_by (pos k) (shared.times p) (num_at p) (den_at p) (weight_of_rank p) (benefit_of_rank p) else pos 0) (le-ltb p (length ranks) b)

  -- the condition on a lower part of a record
  abbrev IsPart : ℕ → ℕ → ℕ → Type 0
  IsPart p x k =
      (rank_at ranks p).first < x
      → (level_in k p *ℤ between (weights_in a (rank_at ranks p).group) (rank_at ranks p).first x) ≤ℤ (shared.whole *ℤ between (gains_in a (pos k) (rank_at ranks p).group) (rank_at ranks p).first x)

  part-late : (p x : ℕ) → p < length ranks → x < (rank_at ranks p).stop → IsLate (IsPart p x)
  part-late p x b c =
      let rank = rank_at ranks p in
      let g = between (gain_of a (group_at a rank.group)) rank.first x in
      let h = between (benefit_of (group_at a rank.group)) rank.first x in
      let v = between (weights_in a rank.group) rank.first x in
      let w = weight_of_rank p in
      let most = w *ℤ (den_at p *ℤ g -ℤ num_at p *ℤ v) in
      let least = den_at p *ℤ (w *ℤ h -ℤ benefit_of_rank p *ℤ v) in
      elim (cases_lt rank.first x) [
        | inr l ↦ always (IsPart p x) (λ k m. absurd (omega (arith, l, m)))
        | inl l ↦
            weaker (λ k. pos 0 ≤ℤ (pos k *ℤ most +ℤ least)) (IsPart p x)
            (λ k m _.
            subst (λ z. (z *ℤ v) ≤ℤ (shared.whole *ℤ between (gains_in a (pos k) rank.group) rank.first x)) (sym (level-at k p b))
            (subst (λ z. (level_by (pos k) (shared.times p) (num_at p) (den_at p) w (benefit_of_rank p) *ℤ v) ≤ℤ (shared.whole *ℤ z)) (sym (gains-parts a (pos k) rank.group rank.first x))
            (subst (λ z. (level_by (pos k) (shared.times p) (num_at p) (den_at p) w (benefit_of_rank p) *ℤ v) ≤ℤ (z *ℤ (pos k *ℤ g +ℤ h))) (shared.is p b)
            (part-level (pos k) (shared.times p) (num_at p) (den_at p) w (benefit_of_rank p) v g h (shared.times_positive p b) m))))
            (pair-late most least (inl (positive-*ℤ w (den_at p *ℤ g -ℤ num_at p *ℤ v) (weight-positive p b) (above (num_at p *ℤ v) (den_at p *ℤ g) ((valid.pool p b).inside x l c)))))
      ]
    where
      above : (y z : ℤ) → y <ℤ z → pos 0 <ℤ (z -ℤ y)
      above y z h = omega (arith, linear, h)

  whole-at : (p k : ℕ) → p < length ranks
      → level_in k p *ℤ weight_of_rank p ≡ shared.whole *ℤ between (gains_in a (pos k) (rank_at ranks p).group) (rank_at ranks p).first (rank_at ranks p).stop
  whole-at p k b =
      let rank = rank_at ranks p in
      let g = between (gain_of a (group_at a rank.group)) rank.first rank.stop in
      ap (λ z. z *ℤ weight_of_rank p) (level-at k p b)
      ∙ whole-level (pos k) (shared.times p) (num_at p) (den_at p) (weight_of_rank p) (benefit_of_rank p) g (valid.pool p b).whole
      ∙ ap₂ (λ y z. y *ℤ z) (shared.is p b) (sym (gains-parts a (pos k) rank.group rank.first rank.stop))

  has-late : (p : ℕ) → p < length ranks → IsLate (λ k. HasLevel (weights_in a) (gains_in a (pos k)) shared.whole (rank_at ranks p) (level_in k p))
  has-late p b =
      weaker (λ k. (x : ℕ) → x < (rank_at ranks p).stop → IsPart p x k) (λ k. HasLevel (weights_in a) (gains_in a (pos k)) shared.whole (rank_at ranks p) (level_in k p))
      (λ k h. record { inside = λ x l c. h x c l; whole = whole-at p k b }) (each-late (rank_at ranks p).stop (IsPart p) (λ x c. part-late p x b c))

  abbrev IsLeft : ℕ → ℕ → ℕ → Type 0
  IsLeft g v k = (shared.whole *ℤ between (gains_in a (pos k) g) v (unlisted a ranks g)) ≤ℤ pos 0

  left-late : (g v : ℕ) → g < length a.groups → v < unlisted a ranks g → IsLate (IsLeft g v)
  left-late g v b c =
      let gain = between (gain_of a (group_at a g)) v (unlisted a ranks g) in
      let benefit = between (benefit_of (group_at a g)) v (unlisted a ranks g) in
      weaker (λ k. pos 0 ≤ℤ (pos k *ℤ neg_ℤ gain +ℤ neg_ℤ benefit)) (IsLeft g v)
      (λ k h. subst (λ z. (shared.whole *ℤ z) ≤ℤ pos 0) (sym (gains-parts a (pos k) g v (unlisted a ranks g))) (below shared.whole (pos k) gain benefit shared.positive h))
      (pair-late (neg_ℤ gain) (neg_ℤ benefit) (valid.left_out g v b c))
    where
      below : (d k x y : ℤ) → pos 0 <ℤ d → pos 0 ≤ℤ (k *ℤ neg_ℤ x +ℤ neg_ℤ y) → (d *ℤ (k *ℤ x +ℤ y)) ≤ℤ pos 0
      below d k x y p h =
          let l : pos 0 ≤ℤ (d *ℤ (k *ℤ neg_ℤ x +ℤ neg_ℤ y)) = nonneg-*ℤ d _ (le_from_lt (pos 0) d p) h in
          let e : d *ℤ (k *ℤ neg_ℤ x +ℤ neg_ℤ y) ≡ neg_ℤ (d *ℤ (k *ℤ x +ℤ y)) = simp ring (omega (arith, linear)) in
          omega (arith, linear, l, e)

  abbrev Falls : ℕ → ℕ → Type 0
  Falls p k = level_in k (suc p) ≤ℤ level_in k p

  falls-late : (p : ℕ) → p < length ranks → IsLate (Falls p)
  falls-late p b = elim (cases_lt (suc p) (length ranks)) [
    | inl c ↦
        let w = weight_of_rank p in
        let v = weight_of_rank (suc p) in
        let more = (w *ℤ v) *ℤ (num_at p *ℤ den_at (suc p) -ℤ num_at (suc p) *ℤ den_at p) in
        let most = (den_at p *ℤ den_at (suc p)) *ℤ (benefit_of_rank p *ℤ v -ℤ benefit_of_rank (suc p) *ℤ w) in
        weaker (λ k. pos 0 ≤ℤ (pos k *ℤ more +ℤ most)) (Falls p)
        (λ k h.
        subst (λ z. z ≤ℤ level_in k p) (sym (level-at k (suc p) c))
        (subst (λ z. level_by (pos k) (shared.times (suc p)) (num_at (suc p)) (den_at (suc p)) v (benefit_of_rank (suc p)) ≤ℤ z) (sym (level-at k p b))
        (level-falls (pos k) shared.whole (shared.times p) (num_at p) (den_at p) w (benefit_of_rank p) (shared.times (suc p)) (num_at (suc p)) (den_at (suc p)) v (benefit_of_rank (suc p)) shared.positive
        (shared.times_positive p b) (shared.times_positive (suc p) c) (shared.is p b) (shared.is (suc p) c) h)))
        (pair-late more most
        (pair-times (w *ℤ v) (den_at p *ℤ den_at (suc p)) (num_at p *ℤ den_at (suc p) -ℤ num_at (suc p) *ℤ den_at p) (benefit_of_rank p *ℤ v -ℤ benefit_of_rank (suc p) *ℤ w)
        (positive-*ℤ w v (weight-positive p b) (weight-positive (suc p) c))
        (le_from_lt (pos 0) _ (positive-*ℤ (den_at p) (den_at (suc p)) (den-positive p b) (den-positive (suc p) c))) (valid.falling p c)))
    | inr c ↦
        let w = weight_of_rank p in
        weaker (λ k. pos 0 ≤ℤ (pos k *ℤ (w *ℤ num_at p) +ℤ den_at p *ℤ benefit_of_rank p)) (Falls p)
        (λ k h.
        subst (λ z. z ≤ℤ level_in k p) (sym (level-behind k (suc p) c))
        (subst (λ z. pos 0 ≤ℤ z) (sym (level-at k p b)) (level-nonneg (pos k) (shared.times p) (num_at p) (den_at p) w (benefit_of_rank p) (shared.times_positive p b) h)))
        (pair-late (w *ℤ num_at p) (den_at p *ℤ benefit_of_rank p) (pair-times w (den_at p) (num_at p) (benefit_of_rank p) (weight-positive p b) (le_from_lt (pos 0) (den_at p) (den-positive p b)) (valid.some p b)))
  ]

  abbrev AllHave : ℕ → Type 0
  AllHave k = (p : ℕ) → p < length ranks → HasLevel (weights_in a) (gains_in a (pos k)) shared.whole (rank_at ranks p) (level_in k p)

  abbrev AllLeft : ℕ → Type 0
  AllLeft k = (g : ℕ) → g < length a.groups → (v : ℕ) → v < unlisted a ranks g → IsLeft g v k

  abbrev AllFall : ℕ → Type 0
  AllFall k = (p : ℕ) → p < length ranks → Falls p k

  -- a valid list has levels, once the designer's objective counts often enough
  pub levels-late : IsLate (λ k. HasLevels a ranks (pos k))
  levels-late =
      weaker (λ k. AllHave k × (AllLeft k × AllFall k)) (λ k. HasLevels a ranks (pos k))
      (λ k h. record {
        den = shared.whole;
        level = level_in k;
        positive = shared.positive;
        are = record { has = h.0; ends = level-behind k (length ranks) (omega arith); rest = λ g v b c. h.1.0 g b v c; falls = h.1.1 };
      })
      (both-late AllHave (λ k. AllLeft k × AllFall k) (each-late (length ranks) (λ p k. HasLevel (weights_in a) (gains_in a (pos k)) shared.whole (rank_at ranks p) (level_in k p)) has-late)
      (both-late AllLeft AllFall
      (each-late (length a.groups) (λ g k. (v : ℕ) → v < unlisted a ranks g → IsLeft g v k) (λ g b. each-late (unlisted a ranks g) (IsLeft g) (λ v c. left-late g v b c)))
      (each-late (length ranks) Falls falls-late)))
