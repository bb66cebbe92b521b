-- A list that is made by the rule is valid.
use Rattle.std.proofs.Common.{◌≡◌, ℕ, zero, suc, ◌<◌, ℤ, pos, ◌-ℤ◌, ◌*ℤ◌, neg_ℤ, ◌≤ℤ◌, ◌<ℤ◌, List, [], ◌∷◌, length, inl, inr, refl, sym, ap, subst, arith}
use Rattle.std.proofs.lemmas.Bool.{cases_eq}
use Rattle.std.proofs.lemmas.Int.{ints}
use Rattle.md_math.specs.LexOrder.{IsPairNonNegative, IsPairPositive}
use Rattle.md_math.proofs.LexLaws.{IsPairNonNegative-from_positive}
use Rattle.md_math.proofs.Order.{positive-*ℤ}
use Rattle.md_math.proofs.Ring.{linear, ring}
use Rattle.md_num.specs.declared.frac.Frac.{Frac}
use Rattle.md_setting.specs.Grouped.{GroupedAuction, group_at}
use Rattle.md_setting.specs.GroupedShaped.{IsGroup, IsOrdered}
use Rattle.md_list.specs.Gains.{gain_of, benefit_of, between}
use Rattle.md_list.specs.Ranks.{Rank, left_after, GoDown}
use Rattle.md_list.specs.Valid.{rank_at, level_at, group_in, left_behind, unlisted, BringsNothing, BringsSome, IsNoLess, IsPool, IsValid}
use Rattle.md_list.specs.ByRule.{IsReserveOf, IsPoolByRule, rank_weight, rank_gain, rank_benefit, more_gain, more_benefit, StandsBefore, IsByRule}
use Rattle.md_list.proofs.PlaceLaws.{left-same, left-other}
use Rattle.md_list_laws.proofs.Inside.{IsInside, ranks-inside}
use Rattle.md_list_laws.proofs.Pairs.{pair-in_units}
use Rattle.md_list_laws.proofs.Pools.{AllRise, weight-between, next-rise, pool-inside}

-- values of a group from a place up to any place above it bring something
abbrev RisesFrom : GroupedAuction → ℕ → ℕ → Type 0
RisesFrom a k x = AllRise (length (group_at a k).values) (gain_of a (group_at a k)) (benefit_of (group_at a k)) x

module _ (a : GroupedAuction) (ordered : IsOrdered a) where
  -- ---- the pools of a group, from the reserve up

  -- the records of a list are pools, and those of each group begin at its reserve
  record ArePools (left : ℕ → ℕ) (ranks : List Rank) : Type 0 where
    form : GoDown (length a.groups) left ranks
    reserve : (k : ℕ) → k < length a.groups → IsReserveOf a k (left_behind left ranks k)
    pool : (p : ℕ) → p < length ranks → IsPoolByRule a (rank_at ranks p)

  others-are : (left : ℕ → ℕ) (rank : Rank) (others : List Rank) → ArePools left (rank ∷ others) → ArePools (left_after left rank) others
  others-are left rank others h = record { form = h.form.3; reserve = h.reserve; pool = λ p b. h.pool (suc p) (omega (arith, b)) }

  left-rise : (left : ℕ → ℕ) (ranks : List Rank) → ArePools left ranks → (k : ℕ) → k < length a.groups → RisesFrom a k (left k)
  left-rise left [] h k b = record { rise = (h.reserve k b).last }
  left-rise left (rank ∷ others) h k b =
      let rest : (j : ℕ) → j < length a.groups → RisesFrom a j (left_after left rank j) = left-rise (left_after left rank) others (others-are left rank others h) in
      elim (cases_eq rank.group k) [
        | inl e ↦
            let inside : rank.group < length a.groups = h.form.0 in
            let here : RisesFrom a rank.group rank.first = subst (RisesFrom a rank.group) (left-same left rank rank.group refl) (rest rank.group inside) in
            let next : RisesFrom a rank.group rank.stop =
            next-rise (group_at a rank.group) (ordered.group rank.group inside) (gain_of a (group_at a rank.group)) rank.first rank.stop here (h.pool 0 (omega arith)) in
            subst (λ j. RisesFrom a j (left j)) e (subst (RisesFrom a rank.group) h.form.2 next)
        | inr d ↦ subst (RisesFrom a k) (left-other left rank k d) (rest k b)
      ]

  pool-rise : (left : ℕ → ℕ) (ranks : List Rank) → ArePools left ranks → (p : ℕ) → p < length ranks → RisesFrom a (rank_at ranks p).group (rank_at ranks p).first
  pool-rise left [] h p b = absurd (omega (arith, b))
  pool-rise left (rank ∷ others) h zero b =
      subst (RisesFrom a rank.group) (left-same left rank rank.group refl) (left-rise (left_after left rank) others (others-are left rank others h) rank.group h.form.0)
  pool-rise left (rank ∷ others) h (suc p) b = pool-rise (left_after left rank) others (others-are left rank others h) p (omega (arith, b))

  -- ---- a list by the rule

  module _ (ranks : List Rank) (levels : List Frac) (rule : IsByRule a ranks levels) where
    inside : (p : ℕ) → p < length ranks → IsInside (length a.groups) (λ k. length (group_at a k).values) (rank_at ranks p)
    inside = ranks-inside (length a.groups) (λ k. length (group_at a k).values) (λ k. length (group_at a k).values) ranks rule.form (λ k. omega arith)

    is-group : (p : ℕ) → p < length ranks → IsGroup (group_in a (rank_at ranks p))
    is-group p b = ordered.group (rank_at ranks p).group (inside p b).group

    weight-positive : (p : ℕ) → p < length ranks → pos 0 <ℤ rank_weight a (rank_at ranks p)
    weight-positive p b =
        let rank = rank_at ranks p in
        weight-between (group_in a rank) (is-group p b) rank.first rank.stop (inside p b).some (inside p b).stop

    is-pool : (p : ℕ) → p < length ranks → IsPool a (rank_at ranks p) (level_at levels p)
    is-pool p b =
        let rank = rank_at ranks p in
        let level = level_at levels p in
        let is = rule.level p b in
        record {
          positive = is.positive;
          inside = pool-inside (group_in a rank) (is-group p b) (gain_of a (group_in a rank)) rank.first rank.stop level.num level.den (rule.pool p b) is.positive is.whole;
          whole = is.whole;
        }

    -- what does not buy brings nothing
    left-out : (k v : ℕ) → k < length a.groups → v < unlisted a ranks k → BringsNothing a ranks k v
    left-out k v b l =
        let x = unlisted a ranks k in
        let is = rule.reserve k b in
        rw (turned (gain_of a (group_at a k)) x v, turned (benefit_of (group_at a k)) x v) (is.least v (omega (arith, l, is.inside)))
      where
        turned : (f : ℕ → ℤ) (x v : ℕ) → neg_ℤ (between f v x) ≡ between f x v
        turned f x v = omega (arith, linear)

    brings-some : (p : ℕ) → p < length ranks → BringsSome a (rank_at ranks p) (level_at levels p)
    brings-some p b =
        let rank = rank_at ranks p in
        let level = level_at levels p in
        let is = rule.level p b in
        let positive : IsPairPositive (rank_gain a rank) (rank_benefit a rank) =
        (pool-rise (λ k. length (group_at a k).values) ranks (record { form = rule.form; reserve = rule.reserve; pool = rule.pool }) p b).rise rank.stop (inside p b).some (inside p b).stop in
        pair-in_units (rank_weight a rank) level.num level.den (rank_gain a rank) (rank_benefit a rank) (weight-positive p b) is.positive
        (units (rank_weight a rank) level.num (level.den *ℤ rank_gain a rank) is.whole) (IsPairNonNegative-from_positive (rank_gain a rank) (rank_benefit a rank) positive)
      where
        units : (w n z : ℤ) → z ≡ n *ℤ w → w *ℤ n ≡ z
        units w n z e = (let turned : w *ℤ n ≡ n *ℤ w = simp ring in omega (arith, linear, turned, e))

    falls : (p : ℕ) → suc p < length ranks → IsNoLess a (rank_at ranks p) (level_at levels p) (rank_at ranks (suc p)) (level_at levels (suc p))
    falls p c =
        let b : p < length ranks = omega (arith, c) in
        let rank = rank_at ranks p in
        let other = rank_at ranks (suc p) in
        let level = level_at levels p in
        let lower = level_at levels (suc p) in
        let w = rank_weight a rank in
        let v = rank_weight a other in
        pair-in_units (w *ℤ v) (level.num *ℤ lower.den -ℤ lower.num *ℤ level.den) (level.den *ℤ lower.den) (more_gain a rank other) (more_benefit a rank other)
        (positive-*ℤ w v (weight-positive p b) (weight-positive (suc p) c)) (positive-*ℤ level.den lower.den (rule.level p b).positive (rule.level (suc p) c).positive)
        (units level.num level.den w (rank_gain a rank) lower.num lower.den v (rank_gain a other) (rule.level p b).whole (rule.level (suc p) c).whole)
        (no-less rank other (rule.order p c))
      where
        no-less : (rank other : Rank) → StandsBefore a rank other → IsPairNonNegative (more_gain a rank other) (more_benefit a rank other)
        no-less rank other (inl more) = IsPairNonNegative-from_positive (more_gain a rank other) (more_benefit a rank other) more
        no-less rank other (inr same) = inr (same.0, subst (λ z. pos 0 ≤ℤ z) (sym same.1) (omega (arith, ints)))

        units : (n d w s m e v t : ℤ) → d *ℤ s ≡ n *ℤ w → e *ℤ t ≡ m *ℤ v → (w *ℤ v) *ℤ (n *ℤ e -ℤ m *ℤ d) ≡ (d *ℤ e) *ℤ (s *ℤ v -ℤ t *ℤ w)
        units n d w s m e v t h k =
            let first : (w *ℤ v) *ℤ (n *ℤ e -ℤ m *ℤ d) ≡ (v *ℤ e) *ℤ (n *ℤ w) -ℤ (w *ℤ d) *ℤ (m *ℤ v) = simp ring in
            let second : (d *ℤ e) *ℤ (s *ℤ v -ℤ t *ℤ w) ≡ (v *ℤ e) *ℤ (d *ℤ s) -ℤ (w *ℤ d) *ℤ (e *ℤ t) = simp ring in
            omega (arith, linear, first, second, ap (λ z. (v *ℤ e) *ℤ z) h, ap (λ z. (w *ℤ d) *ℤ z) k)

    -- the list is valid
    valid : IsValid a ranks levels
    valid = record { form = rule.form; one_each = rule.one_each; pool = is-pool; left_out = left-out; some = brings-some; falling = falls }

pub valid-by_rule : (a : GroupedAuction) (ranks : List Rank) (levels : List Frac) → IsOrdered a → IsByRule a ranks levels → IsValid a ranks levels
valid-by_rule a ranks levels ordered rule = valid a ordered ranks levels rule
