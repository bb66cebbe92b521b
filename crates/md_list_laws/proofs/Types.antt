-- How often a bidder with a value gets something under a list, what it gets and what it pays, on average: the closed sums of the record
-- that has the value.
use Rattle.std.proofs.Common.{◌≡◌, ℕ, zero, suc, ◌+◌, ◌<◌, ◌≤◌, ◌==◌, ℤ, pos, ◌+ℤ◌, ◌*ℤ◌, ◌<ℤ◌, Bool, nat_lt, if◌then◌else◌, List, length, refl, sym, ap, ap₂, ◌∙◌, subst, arith, lt-ltb, ne_eqb}
use Rattle.std.specs.Prelude.{slice_index}
use Rattle.md_math.specs.Sums.{sum_to, total_by}
use Rattle.md_math.proofs.Order.{*ℤ_cancel}
use Rattle.md_math.proofs.Ring.{linear, ring, *ℤ-one, *ℤ_left_comm}
use Rattle.md_math.proofs.SumLaws.{sum_to-same, sum_to-*ℤ}
use Rattle.md_space.specs.AllProfiles.{profiles_of}
use Rattle.md_space.specs.Profiles.{IsProfile}
use Rattle.md_space.proofs.TypeSums.{total-same, total_given-same}
use Rattle.md_setting.specs.Meaning.{sizes_of, weight_of, total_of}
use Rattle.md_mech.specs.Mechanism.{pay_of}
use Rattle.md_setting.specs.Grouped.{GroupedAuction, group_at, group_of, group_with, bidder_count, value_count, weight_at}
use Rattle.md_bidders.specs.Setting.{setting_of}
use Rattle.md_setting.specs.GroupedShaped.{IsOrdered}
use Rattle.md_bidders.proofs.SettingLaws.{size_at-setting}
use Rattle.md_list.specs.Averages.{wins_at, gets_at, over_group, wins_given, gets_given, pays_given, whole_given}
use Rattle.md_list.specs.Closed.{all_weight, is_slot, AreSums, all_profiles}
use Rattle.md_list.specs.Mechanisms.{list_mechanism}
use Rattle.md_list.specs.Ranks.{Rank, place_of, IsList}
use Rattle.md_list.specs.Rule.{slot_at, assigned, amount_at, payment}
use Rattle.md_list.proofs.AmountLaws.{is-assigned, assigned-at}
use Rattle.md_list.proofs.MechanismLaws.{outcome-sum, amount-sum, pays-are}
use Rattle.md_list_laws.proofs.Firsts.{whole-weight, total-weight}
use Rattle.md_list_laws.proofs.GroupCounts.{group-count}
use Rattle.md_list_laws.proofs.Groups.{of_group, group-same, group-times}
use Rattle.md_list_laws.proofs.Interim.{AreApart, given, interim, given-own, by-values}
use Rattle.md_list_laws.proofs.LateLevels.{weights_in}
use Rattle.md_list_laws.proofs.Market.{as-many, bidder-inside, is-market}
use Rattle.md_list_laws.proofs.Serving.{brings}
use Rattle.md_list_laws.proofs.Shares.{value_counts, slot_brings, group_gets, are-grouped, slots-past, share-is, units-are, pays-are_together}
use Rattle.md_list_laws.proofs.Together.{value-sum}

-- the profiles in which a bidder has a value, of all profiles, weigh what the value does, of all its values
given-whole : (sizes : List ℕ) (weight : List ℕ → ℤ) (own : ℕ → ℕ → ℤ) (apart : AreApart sizes weight own) (i v : ℕ) → i < length sizes → v < slice_index sizes i
    → sum_to (slice_index sizes i) (own i) *ℤ given sizes weight i v (λ t. pos 1) ≡ own i v *ℤ total_by weight (profiles_of sizes)
given-whole sizes weight own apart i v b l =
    let whole = sum_to (slice_index sizes i) (own i) in
    let part = given sizes weight i v (λ t. pos 1) in
    let all = total_by weight (profiles_of sizes) in
    let y = interim sizes weight i (λ t. pos 1) 0 in
    let sum : own i 0 *ℤ all ≡ y *ℤ whole =
    ap (λ z. own i 0 *ℤ z) (total-same sizes weight (λ t. weight t *ℤ (pos 1 *ℤ pos 1)) (λ t p. ones (weight t)))
    ∙ by-values sizes weight own apart i b (λ u. pos 1) (λ t. pos 1)
    ∙ sum_to-same (slice_index sizes i) _ (λ u. y *ℤ own i u) (λ u c. turned (own i u) y)
    ∙ sum_to-*ℤ (slice_index sizes i) y (own i) in
    *ℤ_cancel (own i 0) _ _ (apart.positive i 0 b (apart.some i b))
    (*ℤ_left_comm (own i 0) whole part
    ∙ ap (λ z. whole *ℤ z) (given-own sizes weight own apart i b (λ t. pos 1) v l)
    ∙ three whole (own i v) y
    ∙ ap (λ z. own i v *ℤ z) (sym sum)
    ∙ *ℤ_left_comm (own i v) (own i 0) all)
  where
    ones : (w : ℤ) → w ≡ w *ℤ (pos 1 *ℤ pos 1)
    ones w = simp ring

    turned : (o y : ℤ) → o *ℤ (pos 1 *ℤ y) ≡ y *ℤ o
    turned o y = simp ring

    three : (w o y : ℤ) → w *ℤ (o *ℤ y) ≡ o *ℤ (y *ℤ w)
    three w o y = simp ring

module _ (a : GroupedAuction) (ordered : IsOrdered a) (ranks : List Rank) where
  -- what depends on the slot of a bidder alone
  over-same : (k v : ℕ) (f g : ℕ → List ℕ → ℤ) → ((i : ℕ) (t : List ℕ) → i < bidder_count a → IsProfile (sizes_of (setting_of a)) t → f i t ≡ g i t)
      → over_group a k v f ≡ of_group (length (sizes_of (setting_of a))) (group_of a) k (λ i. given (sizes_of (setting_of a)) (weight_of (setting_of a)) i v (g i))
  over-same k v f g h =
      group-same (bidder_count a) (group_of a) k _ (λ i. given (sizes_of (setting_of a)) (weight_of (setting_of a)) i v (g i))
      (λ i b e. total_given-same (sizes_of (setting_of a)) i v _ _ (λ t p c. ap (λ z. weight_of (setting_of a) t *ℤ z) (h i t b p)))
      ∙ ap (λ n. of_group n (group_of a) k (λ i. given (sizes_of (setting_of a)) (weight_of (setting_of a)) i v (g i))) (sym (as-many a))

  -- a bidder gets a slot where the rule gives it one
  wins-brings : (i : ℕ) (t : List ℕ) → i < bidder_count a → IsProfile (sizes_of (setting_of a)) t → wins_at a (list_mechanism a ranks) i t ≡ slot_brings a ranks (is_slot a) i t
  wins-brings i t b p =
      outcome-sum a ranks t (λ way. if slice_index way i == 0 then pos 0 else pos 1) p
      ∙ one (slice_index (assigned a ranks t) i) ((is-assigned a ranks t).slot i)
      ∙ ap (brings (is_slot a)) (assigned-at a ranks t i b)
    where
      one : (slot : ℕ) → slot ≤ length a.slots → (if slot == 0 then pos 0 else pos 1) ≡ brings (is_slot a) slot
      one zero l = refl
      one (suc h) l =
          ap (λ (t : Bool). if t then pos 0 else pos 1) (ne_eqb (suc h) 0 (λ e. omega (arith, e)))
          ∙ sym (ap (λ (t : Bool). if t then pos 1 else pos 0) (lt-ltb h (length a.slots) (omega (arith, l))))

  -- the profiles in which the bidders of a group have a value, of all profiles
  pub whole-is : (k v : ℕ) → k < length a.groups → v < value_counts a k
      → all_weight (group_at a k) *ℤ whole_given a (list_mechanism a ranks) k v ≡ (pos (group_at a k).count *ℤ weights_in a k v) *ℤ all_profiles a
  whole-is k v b l =
      let n = bidder_count a in
      let sizes = sizes_of (setting_of a) in
      let w = weight_of (setting_of a) in
      let part = λ (i : ℕ). given sizes w i v (λ t. pos 1) in
      sym (group-times n (group_of a) k (all_weight (group_at a k)) part)
      ∙ group-same n (group_of a) k (λ i. all_weight (group_at a k) *ℤ part i) (λ i. (weights_in a k v *ℤ all_profiles a) *ℤ pos 1)
      (λ i c e. subst (λ j. all_weight (group_at a j) *ℤ part i ≡ (weights_in a j v *ℤ all_profiles a) *ℤ pos 1) e (one i c (subst (λ j. v < value_counts a j) (sym e) l)))
      ∙ group-times n (group_of a) k (weights_in a k v *ℤ all_profiles a) (λ i. pos 1)
      ∙ ap (λ z. (weights_in a k v *ℤ all_profiles a) *ℤ z) (group-count a k)
      ∙ turned (weights_in a k v) (all_profiles a) (pos (group_at a k).count)
    where
      turned : (w p c : ℤ) → (w *ℤ p) *ℤ c ≡ (c *ℤ w) *ℤ p
      turned w p c = simp ring

      one : (i : ℕ) → i < bidder_count a → v < value_count a i
          → all_weight (group_with a i) *ℤ given (sizes_of (setting_of a)) (weight_of (setting_of a)) i v (λ t. pos 1) ≡ (weight_at a i v *ℤ all_profiles a) *ℤ pos 1
      one i c h =
          let sizes = sizes_of (setting_of a) in
          let size : slice_index sizes i ≡ value_count a i = size_at-setting a i c in
          let part = given sizes (weight_of (setting_of a)) i v (λ t. pos 1) in
          ap (λ z. z *ℤ part) (whole-weight a ordered i c ∙ ap (λ m. sum_to m (weight_at a i)) (sym size))
          ∙ given-whole sizes (weight_of (setting_of a)) (weight_at a) (is-market a ordered).apart i v (subst (λ m. i < m) (sym (as-many a)) c) (subst (λ m. v < m) (sym size) h)
          ∙ ap (λ z. weight_at a i v *ℤ z) (total-weight a ordered)
          ∙ sym (*ℤ-one (weight_at a i v *ℤ all_profiles a))

  -- so a sum over these profiles is a fraction of all
  fraction : (w q sum whole all count every : ℤ) → sum ≡ w *ℤ q → every *ℤ whole ≡ (count *ℤ w) *ℤ all → sum *ℤ (count *ℤ all) ≡ (every *ℤ q) *ℤ whole
  fraction w q sum whole all count every e f = ap (λ z. z *ℤ (count *ℤ all)) e ∙ left w q count all ∙ ap (λ z. z *ℤ q) (sym f) ∙ right every whole q
    where
      left : (w q c p : ℤ) → (w *ℤ q) *ℤ (c *ℤ p) ≡ ((c *ℤ w) *ℤ p) *ℤ q
      left w q c p = simp ring

      right : (e s q : ℤ) → (e *ℤ s) *ℤ q ≡ (e *ℤ q) *ℤ s
      right e s q = simp ring

  module _ (is : IsList a ranks) (units odds pays : ℕ → ℤ) (sums : AreSums a ranks units odds pays) (k v : ℕ) (b : k < length a.groups) (l : v < value_counts a k) where
    one-value : (x : ℕ → List ℕ → ℤ) (q : ℤ) → weights_in a k 0 *ℤ q ≡ group_gets a x k v
        → of_group (length (sizes_of (setting_of a))) (group_of a) k (λ i. given (sizes_of (setting_of a)) (weight_of (setting_of a)) i v (x i)) ≡ weights_in a k v *ℤ q
    one-value x q e = value-sum (sizes_of (setting_of a)) (weight_of (setting_of a)) (group_of a) (weights_in a) (length a.groups) (value_counts a) (are-grouped a ordered) k v x q b l e

    wins-are : wins_given a (list_mechanism a ranks) k v ≡ weights_in a k v *ℤ odds (place_of ranks k v)
    wins-are =
        over-same k v (wins_at a (list_mechanism a ranks)) (slot_brings a ranks (is_slot a)) wins-brings
        ∙ one-value (slot_brings a ranks (is_slot a)) (odds (place_of ranks k v)) (share-is a ordered ranks is (is_slot a) (slots-past a) odds sums.wins k v b)

    gets-are : gets_given a (list_mechanism a ranks) k v ≡ weights_in a k v *ℤ units (place_of ranks k v)
    gets-are =
        over-same k v (gets_at a (list_mechanism a ranks)) (λ i t. pos (amount_at a ranks t i)) (λ i t c p. amount-sum a ranks t i p c)
        ∙ one-value (λ i t. pos (amount_at a ranks t i)) (units (place_of ranks k v)) (units-are a ordered ranks is units odds pays sums k v b)

    pays-given : pays_given a (list_mechanism a ranks) k v ≡ weights_in a k v *ℤ pays (place_of ranks k v)
    pays-given =
        over-same k v (pay_of (setting_of a) (list_mechanism a ranks)) (payment a ranks) (λ i t c p. pays-are a ranks t i p c)
        ∙ one-value (payment a ranks) (pays (place_of ranks k v)) (pays-are_together a ordered ranks is units odds pays sums k v b l)

    -- on average over the bidders of the group: of the count times all profiles, the weight of the group times the sum of the record
    pub wins-fraction : wins_given a (list_mechanism a ranks) k v *ℤ (pos (group_at a k).count *ℤ all_profiles a) ≡ (all_weight (group_at a k) *ℤ odds (place_of ranks k v)) *ℤ whole_given a (list_mechanism a ranks) k v
    wins-fraction = fraction (weights_in a k v) (odds (place_of ranks k v)) _ (whole_given a (list_mechanism a ranks) k v) (all_profiles a) (pos (group_at a k).count) (all_weight (group_at a k)) wins-are (whole-is k v b l)

    pub gets-fraction : gets_given a (list_mechanism a ranks) k v *ℤ (pos (group_at a k).count *ℤ all_profiles a) ≡ (all_weight (group_at a k) *ℤ units (place_of ranks k v)) *ℤ whole_given a (list_mechanism a ranks) k v
    gets-fraction = fraction (weights_in a k v) (units (place_of ranks k v)) _ (whole_given a (list_mechanism a ranks) k v) (all_profiles a) (pos (group_at a k).count) (all_weight (group_at a k)) gets-are (whole-is k v b l)

    pub pays-fraction : pays_given a (list_mechanism a ranks) k v *ℤ (pos (group_at a k).count *ℤ all_profiles a) ≡ (all_weight (group_at a k) *ℤ pays (place_of ranks k v)) *ℤ whole_given a (list_mechanism a ranks) k v
    pays-fraction = fraction (weights_in a k v) (pays (place_of ranks k v)) _ (whole_given a (list_mechanism a ranks) k v) (all_profiles a) (pos (group_at a k).count) (all_weight (group_at a k)) pays-given (whole-is k v b l)
