-- The revenue, the welfare and the value of a list over all profiles by weight are its closed sums.
use Rattle.std.proofs.Common.{◌≡◌, ℕ, ◌<◌, ℤ, pos, ◌+ℤ◌, ◌-ℤ◌, ◌*ℤ◌, List, length, sym, ap, ap₂, ◌∙◌, subst, arith}
use Rattle.std.specs.Prelude.{slice_index}
use Rattle.md_math.specs.Sums.{sum_to, total_by}
use Rattle.md_math.proofs.Ring.{linear, ring}
use Rattle.md_math.proofs.SumLaws.{sum_to-same, sum_to-+ℤ, sum_to-*ℤ}
use Rattle.md_space.proofs.TypeSums.{total-same}
use Rattle.md_setting.specs.Meaning.{sizes_of, weight_of, total_of}
use Rattle.md_mech.specs.Mechanism.{pay_of}
use Rattle.md_mech.specs.Optimal.{worth_of}
use Rattle.md_setting.specs.Grouped.{GroupedAuction, group_at, group_of}
use Rattle.md_bidders.specs.Setting.{all_units, setting_of}
use Rattle.md_setting.specs.GroupedShaped.{IsOrdered}
use Rattle.md_bidders.proofs.SettingLaws.{agent_count-setting}
use Rattle.md_list.specs.Averages.{revenue_in}
use Rattle.md_list.specs.Best.{welfare_in}
use Rattle.md_list.specs.Closed.{rank_weight, AreSums, all_profiles, closed_revenue, closed_welfare, closed_surplus, closed_value}
use Rattle.md_list.specs.Gains.{benefit_of, between}
use Rattle.md_list.specs.Mechanisms.{list_mechanism}
use Rattle.md_list.specs.Ranks.{Rank, place_of, IsList}
use Rattle.md_list.specs.Valid.{rank_at, over_rank, group_in}
use Rattle.md_list.proofs.MechanismLaws.{is-mechanism}
use Rattle.md_list_laws.proofs.Best.{rule_gets, mechanism_score, rule_score, list-score}
use Rattle.md_list_laws.proofs.Firsts.{total-weight}
use Rattle.md_list_laws.proofs.Gets.{gets_in, worth-by_score, welfare-by_score}
use Rattle.md_list_laws.proofs.LateLevels.{values_in, weights_in, surplus_in}
use Rattle.md_list_laws.proofs.Market.{as-many}
use Rattle.md_list_laws.proofs.Places.{sum-by_place}
use Rattle.md_list_laws.proofs.Shares.{value_counts, are-grouped, units-are, pays-are_together}
use Rattle.md_list_laws.proofs.Tails.{place-bounded}
use Rattle.md_list_laws.proofs.Together.{score-by_groups}

-- ---- sums over a record

over-same : (f g : ℕ → ℤ) (rank : Rank) → ((v : ℕ) → f v ≡ g v) → over_rank f rank ≡ over_rank g rank
over-same f g rank h = ap₂ (λ x y. x -ℤ y) (sum_to-same rank.stop f g (λ v b. h v)) (sum_to-same rank.first f g (λ v b. h v))

over-times : (c : ℤ) (f : ℕ → ℤ) (rank : Rank) → over_rank (λ v. c *ℤ f v) rank ≡ c *ℤ over_rank f rank
over-times c f rank = ap₂ (λ x y. x -ℤ y) (sum_to-*ℤ rank.stop c f) (sum_to-*ℤ rank.first c f) ∙ parts c (sum_to rank.stop f) (sum_to rank.first f)
  where
    parts : (c x y : ℤ) → c *ℤ x -ℤ c *ℤ y ≡ c *ℤ (x -ℤ y)
    parts c x y = simp ring (omega (arith, linear))

over-plus : (f g : ℕ → ℤ) (rank : Rank) → over_rank (λ v. f v +ℤ g v) rank ≡ over_rank f rank +ℤ over_rank g rank
over-plus f g rank = omega (arith, linear, sum_to-+ℤ rank.stop f g, sum_to-+ℤ rank.first f g)

-- what values bring to an objective, each with its weight, where all get q and pay p
over-objective : (w c : ℕ → ℤ) (q r p : ℤ) (rank : Rank) → over_rank (λ v. w v *ℤ (c v *ℤ q +ℤ r *ℤ p)) rank ≡ q *ℤ over_rank (λ v. w v *ℤ c v) rank +ℤ (r *ℤ p) *ℤ over_rank w rank
over-objective w c q r p rank =
    over-same _ (λ v. q *ℤ (w v *ℤ c v) +ℤ (r *ℤ p) *ℤ w v) rank (λ v. parts (w v) (c v))
    ∙ over-plus (λ v. q *ℤ (w v *ℤ c v)) (λ v. (r *ℤ p) *ℤ w v) rank
    ∙ ap₂ (λ x y. x +ℤ y) (over-times q (λ v. w v *ℤ c v) rank) (over-times (r *ℤ p) w rank)
  where
    parts : (w c : ℤ) → w *ℤ (c *ℤ q +ℤ r *ℤ p) ≡ q *ℤ (w *ℤ c) +ℤ (r *ℤ p) *ℤ w
    parts w c = simp ring (omega (arith, linear))

-- the designer's surplus of a value, with its weight
over-surplus : (w v : ℕ → ℤ) (g k : ℤ) (rank : Rank) (factor : ℤ) → over_rank (λ x. w x *ℤ ((factor *ℤ v x +ℤ g) -ℤ k)) rank ≡ factor *ℤ over_rank (λ x. w x *ℤ v x) rank +ℤ (g -ℤ k) *ℤ over_rank w rank
over-surplus w v g k rank factor =
    over-same _ (λ x. factor *ℤ (w x *ℤ v x) +ℤ (g -ℤ k) *ℤ w x) rank (λ x. parts (w x) (v x))
    ∙ over-plus (λ x. factor *ℤ (w x *ℤ v x)) (λ x. (g -ℤ k) *ℤ w x) rank
    ∙ ap₂ (λ x y. x +ℤ y) (over-times factor (λ x. w x *ℤ v x) rank) (over-times (g -ℤ k) w rank)
  where
    parts : (w v : ℤ) → w *ℤ ((factor *ℤ v +ℤ g) -ℤ k) ≡ factor *ℤ (w *ℤ v) +ℤ (g -ℤ k) *ℤ w
    parts w v = simp ring (omega (arith, linear))

over-none : (w : ℕ → ℤ) (rank : Rank) → over_rank (λ v. w v *ℤ pos 0) rank ≡ pos 0
over-none w rank = over-same _ (λ v. pos 0 *ℤ w v) rank (λ v. turned (w v)) ∙ over-times (pos 0) w rank ∙ none (over_rank w rank)
  where
    turned : (x : ℤ) → x *ℤ pos 0 ≡ pos 0 *ℤ x
    turned x = simp ring

    none : (x : ℤ) → pos 0 *ℤ x ≡ pos 0
    none x = simp ring

-- ---- a list

module _ (a : GroupedAuction) (ordered : IsOrdered a) (ranks : List Rank) (is : IsList a ranks) (units odds pays : ℕ → ℤ) (sums : AreSums a ranks units odds pays) where
  -- what the rule contributes to an objective, by records
  score-by_records : (c : ℕ → ℕ → ℤ) (r : ℤ)
      → rule_score a ranks c r
      ≡ sum_to (length ranks) (λ p. units p *ℤ over_rank (λ v. weights_in a (rank_at ranks p).group v *ℤ c (rank_at ranks p).group v) (rank_at ranks p) +ℤ (r *ℤ pays p) *ℤ rank_weight a ranks p)
  score-by_records c r =
      score-by_groups (sizes_of (setting_of a)) (weight_of (setting_of a)) (group_of a) (weights_in a) (length a.groups) (value_counts a) (are-grouped a ordered) c r (rule_gets a ranks) _
      (λ k v. units (place_of ranks k v)) (λ k v. pays (place_of ranks k v))
      (λ k v b l. units-are a ordered ranks is units odds pays sums k v b) (λ k v b l. pays-are_together a ordered ranks is units odds pays sums k v b l)
      ∙ sum-by_place (length a.groups) (value_counts a) ranks is (λ k v p. weights_in a k v *ℤ (c k v *ℤ units p +ℤ r *ℤ pays p)) (λ k v. place-bounded ranks k v)
      (λ k v. none (weights_in a k v) (c k v) (units (length ranks)) (pays (length ranks)) sums.gets.0 sums.none)
      ∙ sum_to-same (length ranks) _ _ (λ p b. over-objective (weights_in a (rank_at ranks p).group) (c (rank_at ranks p).group) (units p) r (pays p) (rank_at ranks p))
    where
      none : (w c x y : ℤ) → x ≡ pos 0 → y ≡ pos 0 → w *ℤ (c *ℤ x +ℤ r *ℤ y) ≡ pos 0
      none w c x y e f = rw (e, f) (nothing w c r)
        where
          nothing : (w c r : ℤ) → w *ℤ (c *ℤ pos 0 +ℤ r *ℤ pos 0) ≡ pos 0
          nothing w c r = simp ring (omega (arith, linear))

  revenue-score : revenue_in (setting_of a) (list_mechanism a ranks) ≡ mechanism_score a (list_mechanism a ranks) (λ k v. pos 0) (pos 1)
  revenue-score =
      total-same (sizes_of (setting_of a)) _ _
      (λ t p.
      ap (λ z. weight_of (setting_of a) t *ℤ z)
      (ap (λ n. sum_to n (λ i. pay_of (setting_of a) (list_mechanism a ranks) i t)) (agent_count-setting a ∙ sym (as-many a))
      ∙ alone (length (sizes_of (setting_of a))) (λ i. gets_in a (list_mechanism a ranks) i t) (sum_to (length (sizes_of (setting_of a))) (λ i. pay_of (setting_of a) (list_mechanism a ranks) i t))))
    where
      parts : (x y : ℤ) → y ≡ pos 0 *ℤ x +ℤ pos 1 *ℤ y
      parts x y = simp ring (omega (arith, linear))

      alone : (n : ℕ) (x : ℕ → ℤ) (y : ℤ) → y ≡ sum_to n (λ i. pos 0 *ℤ x i) +ℤ pos 1 *ℤ y
      alone n x y = parts (sum_to n x) y ∙ ap (λ z. z +ℤ pos 1 *ℤ y) (sym (sum_to-*ℤ n (pos 0) x))

  pub revenue-is : revenue_in (setting_of a) (list_mechanism a ranks) ≡ closed_revenue a ranks pays
  revenue-is =
      revenue-score
      ∙ list-score a ranks (λ k v. pos 0) (pos 1)
      ∙ score-by_records (λ k v. pos 0) (pos 1)
      ∙ sum_to-same (length ranks) _ _
      (λ p b. one (units p) (pays p) (rank_weight a ranks p) _ (over-none (weights_in a (rank_at ranks p).group) (rank_at ranks p)))
    where
      one : (q p m z : ℤ) → z ≡ pos 0 → q *ℤ z +ℤ (pos 1 *ℤ p) *ℤ m ≡ m *ℤ p
      one q p m z e = rw e (parts q p m)
        where
          parts : (q p m : ℤ) → q *ℤ pos 0 +ℤ (pos 1 *ℤ p) *ℤ m ≡ m *ℤ p
          parts q p m = simp ring (omega (arith, linear))

  pub welfare-is : welfare_in (setting_of a) (list_mechanism a ranks) ≡ closed_welfare a ranks units
  welfare-is =
      welfare-by_score a (list_mechanism a ranks)
      ∙ list-score a ranks (values_in a) (pos 0)
      ∙ score-by_records (values_in a) (pos 0)
      ∙ sum_to-same (length ranks) _ _ (λ p b. parts (units p) (pays p) (rank_weight a ranks p) (over_rank (benefit_of (group_in a (rank_at ranks p))) (rank_at ranks p)))
    where
      parts : (q p m z : ℤ) → q *ℤ z +ℤ (pos 0 *ℤ p) *ℤ m ≡ q *ℤ z
      parts q p m z = simp ring (omega (arith, linear))

  -- the designer's objective, by records
  worth-score : rule_score a ranks (surplus_in a) a.revenue ≡ (closed_revenue a ranks pays *ℤ a.revenue +ℤ closed_welfare a ranks units *ℤ a.welfare) +ℤ closed_surplus a ranks units
  worth-score =
      let money = λ (p : ℕ). rank_weight a ranks p *ℤ pays p in
      let benefit = λ (p : ℕ). units p *ℤ over_rank (benefit_of (group_in a (rank_at ranks p))) (rank_at ranks p) in
      let more = λ (p : ℕ). (rank_weight a ranks p *ℤ units p) *ℤ ((group_in a (rank_at ranks p)).worth -ℤ a.keep) in
      score-by_records (surplus_in a) a.revenue
      ∙ sum_to-same (length ranks) _ (λ p. (a.revenue *ℤ money p +ℤ a.welfare *ℤ benefit p) +ℤ more p)
      (λ p b.
      one (units p) (pays p) (rank_weight a ranks p) (over_rank (benefit_of (group_in a (rank_at ranks p))) (rank_at ranks p)) ((group_in a (rank_at ranks p)).worth -ℤ a.keep) _
      (over-surplus (weights_in a (rank_at ranks p).group) (values_in a (rank_at ranks p).group) (group_in a (rank_at ranks p)).worth a.keep (rank_at ranks p) a.welfare))
      ∙ sum_to-+ℤ (length ranks) (λ p. a.revenue *ℤ money p +ℤ a.welfare *ℤ benefit p) more
      ∙ ap (λ z. z +ℤ closed_surplus a ranks units)
      (sum_to-+ℤ (length ranks) (λ p. a.revenue *ℤ money p) (λ p. a.welfare *ℤ benefit p)
      ∙ ap₂ (λ x y. x +ℤ y) (sum_to-*ℤ (length ranks) a.revenue money ∙ turned a.revenue (closed_revenue a ranks pays)) (sum_to-*ℤ (length ranks) a.welfare benefit ∙ turned a.welfare (closed_welfare a ranks units)))
    where
      turned : (x y : ℤ) → x *ℤ y ≡ y *ℤ x
      turned x y = simp ring

      one : (q p m h g z : ℤ) → z ≡ a.welfare *ℤ h +ℤ g *ℤ m → q *ℤ z +ℤ (a.revenue *ℤ p) *ℤ m ≡ (a.revenue *ℤ (m *ℤ p) +ℤ a.welfare *ℤ (q *ℤ h)) +ℤ (m *ℤ q) *ℤ g
      one q p m h g z e = rw e (parts q p m h g a.welfare a.revenue)
        where
          parts : (q p m h g w r : ℤ) → q *ℤ (w *ℤ h +ℤ g *ℤ m) +ℤ (r *ℤ p) *ℤ m ≡ (r *ℤ (m *ℤ p) +ℤ w *ℤ (q *ℤ h)) +ℤ (m *ℤ q) *ℤ g
          parts q p m h g w r = simp ring (omega (arith, linear))

  pub worth-is : worth_of (setting_of a) (list_mechanism a ranks) ≡ closed_value a ranks units pays
  worth-is =
      worth-by_score a (list_mechanism a ranks) (is-mechanism a ranks)
      ∙ ap₂ (λ x y. ((a.keep *ℤ all_units a) *ℤ x) *ℤ pos 1 +ℤ y) (total-weight a ordered) (list-score a ranks (surplus_in a) a.revenue ∙ worth-score)
      ∙ turned ((a.keep *ℤ all_units a) *ℤ all_profiles a) _
    where
      turned : (x y : ℤ) → x *ℤ pos 1 +ℤ y ≡ y +ℤ x
      turned x y = simp ring (omega (arith, linear))
