-- The rule of a list is a mechanism: at each profile its way to give slots comes, and its payments are made.
use Rattle.std.proofs.Common.{◌≡◌, ℕ, ◌<◌, ℤ, pos, ◌-ℤ◌, ◌*ℤ◌, true, false, Bool, if◌then◌else◌, bytes_eq, List, length, sym, ap, ap₂, subst, ◌∙◌, arith}
use Rattle.std.specs.Prelude.{slice_index}
use Rattle.std.proofs.lemmas.Int.{ints}
use Rattle.md_math.specs.Sums.{sum_to}
use Rattle.md_math.proofs.Order.{chosen-nonneg}
use Rattle.md_math.proofs.Ring.{one-*ℤ, zero-*ℤ, *ℤ_left_comm}
use Rattle.md_math.proofs.SumLaws.{sum_to-same, sum_to-*ℤ}
use Rattle.md_space.specs.Profiles.{IsProfile}
use Rattle.md_setting.specs.Meaning.{outcome_count, sizes_of, utility_of}
use Rattle.md_mech.specs.Mechanism.{IsMechanism, chance_of, pay_of}
use Rattle.md_mech.specs.Utility.{expected_utility}
use Rattle.md_mech.proofs.ByProfileLaws.{chance_of-mechanism_by, pay_of-mechanism_by, IsMechanism-mechanism_by}
use Rattle.md_setting.specs.Grouped.{GroupedAuction, bidder_count, value_count, value_at}
use Rattle.md_bidders.specs.Assignments.{assignments, assignment_at, amount_in}
use Rattle.md_bidders.specs.Setting.{setting_of}
use Rattle.md_bidders.proofs.AssignmentLaws.{sum-at_way}
use Rattle.md_bidders.proofs.SettingLaws.{setting-payments, agent_count-setting, outcome_count-setting, utility_of-setting}
use Rattle.md_list.specs.Ranks.{Rank}
use Rattle.md_list.specs.Rule.{assigned, amount_at, payment}
use Rattle.md_list.specs.Mechanisms.{chance_at, list_mechanism}
use Rattle.md_list.proofs.AmountLaws.{is-assigned, amount-assigned}

module _ (a : GroupedAuction) (ranks : List Rank) where
  -- the chances of a profile are those of its one way
  ways-sum : (t : List ℕ) (f : List ℕ → ℤ) → sum_to (outcome_count (setting_of a)) (λ o. chance_at a ranks t o *ℤ f (assignment_at a o)) ≡ f (assigned a ranks t)
  ways-sum t f =
      ap (λ n. sum_to n (λ o. chance_at a ranks t o *ℤ f (assignment_at a o))) (outcome_count-setting a)
      ∙ sum_to-same (length (assignments a)) _ (λ o. if bytes_eq (assignment_at a o) (assigned a ranks t) then f (assignment_at a o) else pos 0)
      (λ o b. times (bytes_eq (assignment_at a o) (assigned a ranks t)) (f (assignment_at a o)))
      ∙ sum-at_way a (assigned a ranks t) f (is-assigned a ranks t)
    where
      times : (b : Bool) (z : ℤ) → (if b then pos 1 else pos 0) *ℤ z ≡ (if b then z else pos 0)
      times true z = one-*ℤ z
      times false z = zero-*ℤ z

  chances-sum : (t : List ℕ) → sum_to (outcome_count (setting_of a)) (chance_at a ranks t) ≡ pos 1
  chances-sum t =
      ap (λ n. sum_to n (chance_at a ranks t)) (outcome_count-setting a) ∙ sum-at_way a (assigned a ranks t) (λ _. pos 1) (is-assigned a ranks t)

  pub is-mechanism : IsMechanism (setting_of a) (list_mechanism a ranks)
  is-mechanism =
      IsMechanism-mechanism_by (setting_of a) (pos 1) (chance_at a ranks) (payment a ranks)
      (record {
        positive = omega (arith, ints);
        not_negative = λ t o p h. chosen-nonneg (bytes_eq (assignment_at a o) (assigned a ranks t)) (pos 1) (omega (arith, ints));
        whole = λ t p. chances-sum t;
        no_payment = λ off t i p h. off_is_on (setting-payments a) off;
      })
    where
      off_is_on : {P : Type 0} {b : Bool} → b ≡ true → b ≡ false → P
      off_is_on e f = cc

  -- what depends on the way alone is that of the rule's way
  pub outcome-sum : (t : List ℕ) (f : List ℕ → ℤ) → IsProfile (sizes_of (setting_of a)) t
      → sum_to (outcome_count (setting_of a)) (λ o. chance_of (setting_of a) (list_mechanism a ranks) t o *ℤ f (assignment_at a o)) ≡ f (assigned a ranks t)
  outcome-sum t f p =
      sum_to-same (outcome_count (setting_of a)) _ (λ o. chance_at a ranks t o *ℤ f (assignment_at a o))
      (λ o h. ap (λ z. z *ℤ f (assignment_at a o)) (chance_of-mechanism_by (setting_of a) (pos 1) (chance_at a ranks) (payment a ranks) t o p h))
      ∙ ways-sum t f

  -- a bidder gets its amount
  pub amount-sum : (t : List ℕ) (i : ℕ) → IsProfile (sizes_of (setting_of a)) t → i < bidder_count a
      → sum_to (outcome_count (setting_of a)) (λ o. chance_of (setting_of a) (list_mechanism a ranks) t o *ℤ pos (amount_in a (assignment_at a o) i)) ≡ pos (amount_at a ranks t i)
  amount-sum t i p b = outcome-sum t (λ way. pos (amount_in a way i)) p ∙ ap (λ n. pos n) (amount-assigned a ranks t i b)

  -- and pays its payment
  pub pays-are : (t : List ℕ) (i : ℕ) → IsProfile (sizes_of (setting_of a)) t → i < bidder_count a
      → pay_of (setting_of a) (list_mechanism a ranks) i t ≡ payment a ranks i t
  pays-are t i p b =
      pay_of-mechanism_by (setting_of a) (pos 1) (chance_at a ranks) (payment a ranks) t i p (subst (λ n. i < n) (sym (agent_count-setting a)) b)

  -- what it has at a report r, where t has the true values
  pub utility-is : (i : ℕ) (t r : List ℕ) → i < bidder_count a → slice_index t i < value_count a i → IsProfile (sizes_of (setting_of a)) r
      → expected_utility (setting_of a) (list_mechanism a ranks) i t r ≡ value_at a i (slice_index t i) *ℤ pos (amount_at a ranks r i) -ℤ payment a ranks i r
  utility-is i t r b l p =
      let s = setting_of a in
      let chances = chance_of s (list_mechanism a ranks) r in
      let value = value_at a i (slice_index t i) in
      ap₂ (λ x y. x -ℤ y)
      (sum_to-same (outcome_count s) (λ o. chances o *ℤ utility_of s i t o) (λ o. value *ℤ (chances o *ℤ pos (amount_in a (assignment_at a o) i)))
      (λ o h. ap (λ z. chances o *ℤ z) (utility_of-setting a i t o b l (subst (λ n. o < n) (outcome_count-setting a) h)) ∙ *ℤ_left_comm (chances o) value (pos (amount_in a (assignment_at a o) i)))
      ∙ sum_to-*ℤ (outcome_count s) value (λ o. chances o *ℤ pos (amount_in a (assignment_at a o) i))
      ∙ ap (λ z. value *ℤ z) (amount-sum r i p b))
      (pays-are r i p b)
