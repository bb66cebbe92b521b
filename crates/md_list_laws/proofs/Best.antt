-- A valid list is best: no admissible mechanism has a greater objective, and none with the same objective has greater welfare.
use Rattle.std.proofs.Common.{◌≡◌, ℕ, suc, ◌<◌, ℤ, pos, ◌+ℤ◌, ◌-ℤ◌, ◌*ℤ◌, ◌≤ℤ◌, nat_le, if◌then◌else◌, List, length, sym, ap, ap₂, ◌∙◌, subst, arith}
use Rattle.std.specs.Prelude.{slice_index}
use Rattle.std.proofs.lemmas.Int.{ints}
use Rattle.md_math.specs.Sums.{sum_to}
use Rattle.md_math.proofs.Order.{nonneg-*ℤ, chosen-times}
use Rattle.md_math.proofs.Ring.{linear, ring}
use Rattle.md_math.proofs.SumLaws.{sum_to-same, sum_to-*ℤ}
use Rattle.md_num.specs.declared.frac.Frac.{Frac}
use Rattle.md_space.specs.Profiles.{IsProfile}
use Rattle.md_space.proofs.TypeSums.{total-same}
use Rattle.md_setting.specs.Meaning.{outcome_count, sizes_of, weight_of, total_of}
use Rattle.md_mech.specs.declared.mechanism.Mechanism.{Mechanism}
use Rattle.md_mech.specs.Admissible.{IsAdmissible}
use Rattle.md_mech.specs.Mechanism.{chance_of, pay_of, IsMechanism}
use Rattle.md_mech.specs.Optimal.{worth_of}
use Rattle.md_setting.specs.Grouped.{GroupedAuction, group_at, group_of, bidder_count}
use Rattle.md_bidders.specs.Assignments.{assignment_at, amount_in}
use Rattle.md_bidders.specs.Setting.{all_units, setting_of}
use Rattle.md_setting.specs.GroupedShaped.{IsOrdered}
use Rattle.md_bidders.proofs.AssignmentLaws.{is-assignment}
use Rattle.md_bidders.proofs.BidderLaws.{group-below}
use Rattle.md_bidders.proofs.SettingLaws.{size_at-setting}
use Rattle.md_list.specs.Best.{IsBest, welfare_in}
use Rattle.md_list.specs.Mechanisms.{list_mechanism}
use Rattle.md_list.specs.Ranks.{Rank, place_of}
use Rattle.md_list.specs.Rule.{place_at, amount_at, payment, count_to}
use Rattle.md_list.specs.Valid.{IsValid}
use Rattle.md_list.proofs.MechanismLaws.{amount-sum, pays-are}
use Rattle.md_list_laws.proofs.Gets.{gets_in, is-honest, lottery-le, way-inside, worth-by_score, welfare-by_score}
use Rattle.md_list_laws.proofs.Late.{IsLate, weaker, first-from_late, second-from_late}
use Rattle.md_list_laws.proofs.LateLevels.{HasLevels, values_in, weights_in, from_in, surplus_in, aims_in, gains_in, levels-late}
use Rattle.md_list_laws.proofs.Market.{as-many, bidder-inside, is-market, is-listed}
use Rattle.md_list_laws.proofs.Scores.{score, score-both, list-no_less}
use Rattle.md_list_laws.proofs.Serving.{slot_amount, served-first, most-first, levels-le}
use Rattle.md_list_laws.proofs.Tails.{IsTail, place-bounded, tails}

-- what bidder i gets under the rule of a list
abbrev pub rule_gets : GroupedAuction → List Rank → ℕ → List ℕ → ℤ
rule_gets a ranks i t = pos (amount_at a ranks t i)

-- ---- one profile

module _ (a : GroupedAuction) (ranks : List Rank) (ordered : IsOrdered a) (m : Mechanism) (mechanism : IsMechanism (setting_of a) m) (t : List ℕ) (p : IsProfile (sizes_of (setting_of a)) t) where
  -- the bidders with the first places get no more under the mechanism than under the rule
  first-places : (r : ℕ) → r < length ranks
      → sum_to (bidder_count a) (λ i. if nat_le (place_at a ranks t i) r then gets_in a m i t else pos 0)
      ≤ℤ sum_to (bidder_count a) (λ i. if nat_le (place_at a ranks t i) r then m.den *ℤ rule_gets a ranks i t else pos 0)
  first-places r b =
      let s = setting_of a in
      let n = bidder_count a in
      let test = λ (i : ℕ). nat_le (place_at a ranks t i) r in
      let most = sum_to (count_to n test) (slot_amount a.slots) in
      subst (λ z. sum_to n (λ i. if test i then gets_in a m i t else pos 0) ≤ℤ z)
      (ap (λ z. m.den *ℤ z) (sym (served-first a ranks t r b))
      ∙ sym (sum_to-*ℤ n m.den (λ i. if test i then rule_gets a ranks i t else pos 0))
      ∙ sum_to-same n _ _ (λ i c. chosen-times (test i) m.den (rule_gets a ranks i t)))
      (lottery-le (outcome_count s) n (chance_of s m t) test (λ o i. pos (amount_in a (assignment_at a o) i)) m.den most (λ o c. mechanism.not_negative t o p c) (mechanism.whole t p)
      (λ o c.
      let way = is-assignment a o (way-inside a m o c) in
      most-first a.slots n test (slice_index (assignment_at a o)) ordered.falling way.slot way.apart))

  -- so bidders get no more by levels that fall with their places
  by-falling_levels : (level : ℕ → ℤ) → level (length ranks) ≡ pos 0 → ((r : ℕ) → r < length ranks → level (suc r) ≤ℤ level r)
      → sum_to (length (sizes_of (setting_of a))) (λ i. level (place_of ranks (group_of a i) (slice_index t i)) *ℤ gets_in a m i t)
      ≤ℤ sum_to (length (sizes_of (setting_of a))) (λ i. level (place_of ranks (group_of a i) (slice_index t i)) *ℤ (m.den *ℤ rule_gets a ranks i t))
  by-falling_levels level ends falls =
      subst (λ n. sum_to n (λ i. level (place_at a ranks t i) *ℤ gets_in a m i t) ≤ℤ sum_to n (λ i. level (place_at a ranks t i) *ℤ (m.den *ℤ rule_gets a ranks i t))) (sym (as-many a))
      (levels-le level (length ranks) (bidder_count a) (place_at a ranks t) (λ i. gets_in a m i t) (λ i. m.den *ℤ rule_gets a ranks i t) (λ i b. place-bounded ranks (group_of a i) (slice_index t i)) ends falls first-places)

-- ---- both aims at once

-- what all bidders contribute to an objective under a mechanism, and under the rule of a list
abbrev pub mechanism_score : GroupedAuction → Mechanism → (ℕ → ℕ → ℤ) → ℤ → ℤ
mechanism_score a m c r = score (sizes_of (setting_of a)) (weight_of (setting_of a)) (group_of a) c r (gets_in a m) (pay_of (setting_of a) m)

abbrev pub rule_score : GroupedAuction → List Rank → (ℕ → ℕ → ℤ) → ℤ → ℤ
rule_score a ranks c r = score (sizes_of (setting_of a)) (weight_of (setting_of a)) (group_of a) c r (rule_gets a ranks) (payment a ranks)

-- the mechanism of a list contributes what its rule does
pub list-score : (a : GroupedAuction) (ranks : List Rank) (c : ℕ → ℕ → ℤ) (r : ℤ) → mechanism_score a (list_mechanism a ranks) c r ≡ rule_score a ranks c r
list-score a ranks c r =
    let s = setting_of a in
    total-same (sizes_of s) _ _
    (λ t p.
    ap₂ (λ x y. weight_of s t *ℤ (x +ℤ r *ℤ y))
    (sum_to-same (length (sizes_of s)) _ _ (λ i b. ap (λ z. c (group_of a i) (slice_index t i) *ℤ z) (amount-sum a ranks t i p (bidder-inside a i b))))
    (sum_to-same (length (sizes_of s)) _ _ (λ i b. pays-are a ranks t i p (bidder-inside a i b))))

module _ (a : GroupedAuction) (ranks : List Rank) (levels : List Frac) (ordered : IsOrdered a) (valid : IsValid a ranks levels) where
  has-tails : (often : ℕ) (has : HasLevels a ranks (pos often)) (i v : ℕ) → i < length (sizes_of (setting_of a)) → v < slice_index (sizes_of (setting_of a)) i
      → IsTail (weights_in a) (gains_in a (pos often)) has.level has.den ranks (group_of a i) (slice_index (sizes_of (setting_of a)) i) v
  has-tails often has i v b l =
      let here : i < bidder_count a = bidder-inside a i b in
      subst (λ n. IsTail (weights_in a) (gains_in a (pos often)) has.level has.den ranks (group_of a i) n v) (sym (size_at-setting a i here))
      (tails (weights_in a) (gains_in a (pos often)) has.den (length a.groups) ranks (λ k. length (group_at a k).values) has.level valid.form has.are.has has.are.ends (group_of a i)
      (λ u c. has.are.rest (group_of a i) u (group-below a i here) c) v (subst (λ n. v < n) (size_at-setting a i here) l))

  -- when the designer's objective counts so often, no mechanism contributes more than the list
  no-more : (m : Mechanism) (often : ℕ) → IsAdmissible (setting_of a) m → HasLevels a ranks (pos often)
      → mechanism_score a m (aims_in a (pos often)) (pos often *ℤ a.revenue) ≤ℤ (m.den *ℤ rule_score a ranks (aims_in a (pos often)) (pos often *ℤ a.revenue))
  no-more m often admissible has =
      let s = setting_of a in
      list-no_less (sizes_of s) (weight_of s) (group_of a) (values_in a) (weights_in a) (from_in a) (is-market a ordered) (aims_in a (pos often)) (pos often *ℤ a.revenue) has.den has.level ranks (has-tails often has) (gets_in a m)
      (pay_of s m) (rule_gets a ranks) (payment a ranks) m.den (nonneg-*ℤ (pos often) a.revenue (omega (arith, ints)) ordered.revenue) has.positive (λ i b. is-honest a m admissible i (bidder-inside a i b))
      (λ i b. is-listed a ranks i (bidder-inside a i b)) (λ t p. by-falling_levels a ranks ordered m admissible.mechanism t p has.level has.are.ends has.are.falls)

  -- by how much the list contributes more to the designer's objective, and to welfare
  abbrev more_worth : Mechanism → ℤ
  more_worth m = m.den *ℤ rule_score a ranks (surplus_in a) a.revenue -ℤ mechanism_score a m (surplus_in a) a.revenue

  abbrev more_welfare : Mechanism → ℤ
  more_welfare m = m.den *ℤ rule_score a ranks (values_in a) (pos 0) -ℤ mechanism_score a m (values_in a) (pos 0)

  both-aims : (m : Mechanism) → IsAdmissible (setting_of a) m → IsLate (λ often. pos 0 ≤ℤ (pos often *ℤ more_worth m +ℤ more_welfare m))
  both-aims m admissible =
      weaker (λ often. HasLevels a ranks (pos often)) (λ often. pos 0 ≤ℤ (pos often *ℤ more_worth m +ℤ more_welfare m))
      (λ often has.
      let s = setting_of a in
      apart (pos often) m.den _ _ _ _ _ _ (no-more m often admissible has)
      (score-both (sizes_of s) (weight_of s) (group_of a) (surplus_in a) (values_in a) a.revenue (pos often) (gets_in a m) (pay_of s m))
      (score-both (sizes_of s) (weight_of s) (group_of a) (surplus_in a) (values_in a) a.revenue (pos often) (rule_gets a ranks) (payment a ranks)))
      (levels-late a ranks levels ordered valid)
    where
      apart : (k d x y x1 x2 y1 y2 : ℤ) → x ≤ℤ (d *ℤ y) → x ≡ k *ℤ x1 +ℤ x2 → y ≡ k *ℤ y1 +ℤ y2 → pos 0 ≤ℤ (k *ℤ (d *ℤ y1 -ℤ x1) +ℤ (d *ℤ y2 -ℤ x2))
      apart k d x y x1 x2 y1 y2 l e f = (let g : d *ℤ y ≡ d *ℤ (k *ℤ y1 +ℤ y2) = ap (λ z. d *ℤ z) f in omega (arith, linear, l, e, g, parts k d x1 x2 y1 y2))
        where
          parts : (k d x1 x2 y1 y2 : ℤ) → k *ℤ (d *ℤ y1 -ℤ x1) +ℤ (d *ℤ y2 -ℤ x2) ≡ d *ℤ (k *ℤ y1 +ℤ y2) -ℤ (k *ℤ x1 +ℤ x2)
          parts k d x1 x2 y1 y2 = simp ring (omega (arith, linear))

  -- ---- the mechanism of the list

  abbrev base : ℤ
  base = (a.keep *ℤ all_units a) *ℤ total_of (setting_of a)

  worth-difference : (m : Mechanism) → IsAdmissible (setting_of a) m → IsAdmissible (setting_of a) (list_mechanism a ranks)
      → worth_of (setting_of a) (list_mechanism a ranks) *ℤ m.den -ℤ worth_of (setting_of a) m *ℤ pos 1 ≡ more_worth m
  worth-difference m admissible own =
      ap₂ (λ x y. x *ℤ m.den -ℤ y *ℤ pos 1) (worth-by_score a (list_mechanism a ranks) own.mechanism ∙ ap (λ z. base *ℤ pos 1 +ℤ z) (list-score a ranks (surplus_in a) a.revenue)) (worth-by_score a m admissible.mechanism)
      ∙ parts base m.den (rule_score a ranks (surplus_in a) a.revenue) (mechanism_score a m (surplus_in a) a.revenue)
    where
      parts : (b d x y : ℤ) → (b *ℤ pos 1 +ℤ x) *ℤ d -ℤ (b *ℤ d +ℤ y) *ℤ pos 1 ≡ d *ℤ x -ℤ y
      parts b d x y = simp ring (omega (arith, linear))

  welfare-difference : (m : Mechanism) → welfare_in (setting_of a) (list_mechanism a ranks) *ℤ m.den -ℤ welfare_in (setting_of a) m *ℤ pos 1 ≡ more_welfare m
  welfare-difference m =
      ap₂ (λ x y. x *ℤ m.den -ℤ y *ℤ pos 1) (welfare-by_score a (list_mechanism a ranks) ∙ list-score a ranks (values_in a) (pos 0)) (welfare-by_score a m)
      ∙ parts m.den (rule_score a ranks (values_in a) (pos 0)) (mechanism_score a m (values_in a) (pos 0))
    where
      parts : (d x y : ℤ) → x *ℤ d -ℤ y *ℤ pos 1 ≡ d *ℤ x -ℤ y
      parts d x y = simp ring

  -- the list is best
  pub valid-best : IsAdmissible (setting_of a) (list_mechanism a ranks) → IsBest a (list_mechanism a ranks)
  valid-best own = record {
    optimal = record {
      admissible = own;
      best = λ other admissible. above _ _ (more_worth other) (worth-difference other admissible own) (first-from_late (more_worth other) (more_welfare other) (both-aims other admissible));
    };
    fullest = λ other admissible same.
        above _ _ (more_welfare other) (welfare-difference other)
        (second-from_late (more_worth other) (more_welfare other) (both-aims other admissible) (level _ _ (more_worth other) (worth-difference other admissible own) same));
  }
    where
      above : (x y z : ℤ) → x -ℤ y ≡ z → pos 0 ≤ℤ z → y ≤ℤ x
      above x y z e l = omega (arith, linear, e, l)

      level : (x y z : ℤ) → x -ℤ y ≡ z → y ≡ x → z ≡ pos 0
      level x y z e d = omega (arith, linear, e, d)
