-- What a record is said to get and to pay, by the closed sums, is what the bidders of its group get and pay together with each of its
-- values.
use Rattle.std.proofs.Common.{◌≡◌, ◌≢◌, ◌⊎◌, ℕ, zero, suc, ◌+◌, ◌<◌, ◌≤◌, ◌==◌, ℤ, pos, ◌+ℤ◌, ◌-ℤ◌, ◌*ℤ◌, ◌<ℤ◌, Bool, true, false, nat_lt, if◌then◌else◌, List, length, refl, sym, ap, ap₂, ◌∙◌, inl, inr, subst, arith, le-ltb, eq-eqb}
use Rattle.std.specs.Prelude.{slice_index}
use Rattle.std.proofs.lemmas.Bool.{cases_lt}
use Rattle.std.proofs.lemmas.List.{get_or_past}
use Rattle.md_math.specs.Sums.{sum_to, total_by}
use Rattle.md_math.proofs.Order.{*ℤ_cancel, positive_pos}
use Rattle.md_math.proofs.Ring.{linear, ring, *ℤ-zero, *ℤ_left_comm}
use Rattle.md_math.proofs.SumLaws.{sum_to-same, sum_to-zero, sum_to-*ℤ}
use Rattle.md_space.specs.AllProfiles.{profiles_of}
use Rattle.md_space.specs.Profiles.{IsProfile, replaced}
use Rattle.md_space.proofs.TypeSums.{total_given-same}
use Rattle.md_setting.specs.Meaning.{sizes_of, weight_of}
use Rattle.md_setting.specs.Grouped.{GroupedAuction, group_at, group_of, bidder_count, value_at}
use Rattle.md_bidders.specs.Setting.{setting_of}
use Rattle.md_setting.specs.GroupedShaped.{IsOrdered}
use Rattle.md_bidders.proofs.BidderLaws.{group-below}
use Rattle.md_bidders.proofs.SettingLaws.{size_at-setting, is-report}
use Rattle.md_list.specs.Closed.{units_of, is_slot, first_sum, rank_weight, IsShare, AreSums}
use Rattle.md_list.specs.Ranks.{Rank, place_of, IsList}
use Rattle.md_list.specs.Rule.{step_of, pay_by, slot_at, amount_at, payment}
use Rattle.md_list.specs.Valid.{rank_at, over_rank}
use Rattle.md_list.proofs.AmountLaws.{slot-alike, slot-none}
use Rattle.md_list.proofs.PayLaws.{pay-same}
use Rattle.md_list_laws.proofs.Bidders.{interim-same, interim-none}
use Rattle.md_list_laws.proofs.Firsts.{place_gets, record-gets}
use Rattle.md_list_laws.proofs.Groups.{of_group, group-same, group-times, group-pays}
use Rattle.md_list_laws.proofs.Inside.{IsInside, ranks-inside, between-positive}
use Rattle.md_list_laws.proofs.Interim.{interim, interim-pays}
use Rattle.md_list_laws.proofs.LateLevels.{values_in, weights_in}
use Rattle.md_list_laws.proofs.Market.{as-many, bidder-inside, is-market, is-listed}
use Rattle.md_list_laws.proofs.Places.{IsOf, place-of, sum-at_place}
use Rattle.md_list_laws.proofs.RecordPays.{PaysByRecord, pays-by_values}
use Rattle.md_list_laws.proofs.Serving.{brings, brings-amount}
use Rattle.md_list_laws.proofs.Tails.{place-bounded}
use Rattle.md_list_laws.proofs.Together.{AreGrouped, together, place-sum}

-- how many values each group has
abbrev pub value_counts : GroupedAuction → ℕ → ℕ
value_counts a k = length (group_at a k).values

-- what bidder i gets under the rule of a list, where a slot brings f
abbrev pub slot_brings : GroupedAuction → List Rank → (ℕ → ℤ) → ℕ → List ℕ → ℤ
slot_brings a ranks f i t = brings f (slot_at a ranks t i)

-- what the bidders of group k get together with value number v
abbrev pub group_gets : GroupedAuction → (ℕ → List ℕ → ℤ) → ℕ → ℕ → ℤ
group_gets a x k v = together (sizes_of (setting_of a)) (weight_of (setting_of a)) (group_of a) x k v

-- units are none behind the last slot, and so are slots
pub units-past : (a : GroupedAuction) (h : ℕ) → length a.slots ≤ h → units_of a h ≡ pos 0
units-past a h b = ap (λ m. pos m) (get_or_past a.slots h 0 b)

pub slots-past : (a : GroupedAuction) (h : ℕ) → length a.slots ≤ h → is_slot a h ≡ pos 0
slots-past a h b = ap (λ (t : Bool). if t then pos 1 else pos 0) (le-ltb h (length a.slots) b)

module _ (a : GroupedAuction) (ordered : IsOrdered a) where
  pub are-grouped : AreGrouped (sizes_of (setting_of a)) (weight_of (setting_of a)) (group_of a) (weights_in a) (length a.groups) (value_counts a)
  are-grouped = record {
    apart = (is-market a ordered).apart;
    below = λ i b. group-below a i (bidder-inside a i b);
    size = λ i b. size_at-setting a i (bidder-inside a i b);
    positive = λ k b. weights-positive k 0 b (let some = (ordered.group k b).some_value in omega (arith, some));
  }
    where
      weights-positive : (k v : ℕ) → k < length a.groups → v < value_counts a k → pos 0 <ℤ weights_in a k v
      weights-positive k v b l = positive_pos (slice_index (group_at a k).weights v) ((ordered.group k b).positive v l)

  module _ (ranks : List Rank) (is : IsList a ranks) where
    -- the values of a record have some weight
    rank-positive : (c : ℕ) → c < length ranks → pos 0 <ℤ rank_weight a ranks c
    rank-positive c b =
        let rank = rank_at ranks c in
        let inside : IsInside (length a.groups) (value_counts a) rank = ranks-inside (length a.groups) (value_counts a) (value_counts a) ranks is (λ k. omega arith) c b in
        between-positive (weights_in a rank.group) rank.first rank.stop inside.some
        (λ v l h. positive_pos (slice_index (group_at a rank.group).weights v) ((ordered.group rank.group inside.group).positive v (omega (arith, h, inside.stop))))

    module _ (f : ℕ → ℤ) (past : (h : ℕ) → length a.slots ≤ h → f h ≡ pos 0) where
      alike : (i v u : ℕ) → i < length (sizes_of (setting_of a)) → place_of ranks (group_of a i) v ≡ place_of ranks (group_of a i) u
          → interim (sizes_of (setting_of a)) (weight_of (setting_of a)) i (slot_brings a ranks f i) v ≡ interim (sizes_of (setting_of a)) (weight_of (setting_of a)) i (slot_brings a ranks f i) u
      alike i v u b e =
          interim-same (sizes_of (setting_of a)) (weight_of (setting_of a)) i (slot_brings a ranks f i) v u
          (λ t p. ap (brings f) (slot-alike a ranks t i v u (omega (arith, bidder-inside a i b, (is-report a t p).long)) e))

      -- what a record adds to those before it is its weight times what its group gets with one of its values
      pub rank-together : (c k v : ℕ) → c < length ranks → place_of ranks k v ≡ c
          → weights_in a k 0 *ℤ (first_sum a ranks f (suc c) -ℤ first_sum a ranks f c) ≡ rank_weight a ranks c *ℤ group_gets a (slot_brings a ranks f) k v
      rank-together c k v l here =
          let w = weight_of (setting_of a) in
          let sizes = sizes_of (setting_of a) in
          let rank = rank_at ranks c in
          let of : IsOf rank k v = place-of ranks k v c l here in
          let mass : sum_to (value_counts a k) (λ u. if place_of ranks k u == c then weights_in a k u else pos 0) ≡ rank_weight a ranks c =
          sum-at_place (length a.groups) (value_counts a) ranks is c k (weights_in a k) l
          ∙ ap (λ (t : Bool). if t then over_rank (weights_in a k) rank else pos 0) (eq-eqb rank.group k of.group)
          ∙ ap (λ j. over_rank (weights_in a j) rank) (sym of.group) in
          ap (λ z. weights_in a k 0 *ℤ z)
          (record-gets a ordered ranks f past c l
          ∙ ap (λ n. total_by (λ t. w t *ℤ sum_to n (λ i. if place_of ranks (group_of a i) (slice_index t i) == c then slot_brings a ranks f i t else pos 0)) (profiles_of sizes)) (sym (as-many a)))
          ∙ place-sum sizes w (group_of a) (weights_in a) (length a.groups) (value_counts a) are-grouped (place_of ranks) c k v (slot_brings a ranks f) here
          (λ i u d e. sym (place-of ranks (group_of a i) u c l e).group ∙ of.group) (λ i u d e. alike i u v d e)
          ∙ ap (λ z. z *ℤ group_gets a (slot_brings a ranks f) k v) mass

      -- with a value of a record
      share-inside : (q : ℕ → ℤ) → IsShare a ranks f q → (k v : ℕ) → place_of ranks k v < length ranks → weights_in a k 0 *ℤ q (place_of ranks k v) ≡ group_gets a (slot_brings a ranks f) k v
      share-inside q share k v l =
          let c = place_of ranks k v in
          *ℤ_cancel (rank_weight a ranks c) _ _ (rank-positive c l)
          (*ℤ_left_comm (rank_weight a ranks c) (weights_in a k 0) (q c) ∙ ap (λ z. weights_in a k 0 *ℤ z) (share.1 c l) ∙ rank-together c k v l refl)

      -- with a value of no record
      share-outside : (q : ℕ → ℤ) → IsShare a ranks f q → (k v : ℕ) → place_of ranks k v ≡ length ranks → weights_in a k 0 *ℤ q (place_of ranks k v) ≡ group_gets a (slot_brings a ranks f) k v
      share-outside q share k v e =
          let n = length (sizes_of (setting_of a)) in
          ap (λ z. weights_in a k 0 *ℤ z) (ap q e ∙ share.0)
          ∙ *ℤ-zero (weights_in a k 0)
          ∙ sym
          (group-same n (group_of a) k (λ i. interim (sizes_of (setting_of a)) (weight_of (setting_of a)) i (slot_brings a ranks f i) v) (λ i. pos 0)
          (λ i b d.
          interim-none (sizes_of (setting_of a)) (weight_of (setting_of a)) i (slot_brings a ranks f i) v
          (λ t p.
          let place : place_of ranks (group_of a i) v ≡ length ranks = ap (λ j. place_of ranks j v) d ∙ e in
          ap (brings f) (slot-none a ranks t i v (omega (arith, bidder-inside a i b, (is-report a t p).long)) (omega (arith, place)))))
          ∙ sum_to-zero n _ (λ i b. either (group_of a i == k)))
        where
          either : (b : Bool) → (if b then pos 0 else pos 0) ≡ pos 0
          either true = refl
          either false = refl

      pub share-is : (q : ℕ → ℤ) → IsShare a ranks f q → (k v : ℕ) → k < length a.groups → weights_in a k 0 *ℤ q (place_of ranks k v) ≡ group_gets a (slot_brings a ranks f) k v
      share-is q share k v b = elim (cases_lt (place_of ranks k v) (length ranks)) [
        | inl l ↦ share-inside q share k v l
        | inr l ↦ share-outside q share k v (omega (arith, l, place-bounded ranks k v))
      ]

    -- ---- units and payments

    module _ (units odds pays : ℕ → ℤ) (sums : AreSums a ranks units odds pays) where
      pub units-are : (k v : ℕ) → k < length a.groups → weights_in a k 0 *ℤ units (place_of ranks k v) ≡ group_gets a (λ i t. pos (amount_at a ranks t i)) k v
      units-are k v b =
          share-is (units_of a) (units-past a) units sums.gets k v b
          ∙ group-same (length (sizes_of (setting_of a))) (group_of a) k _ _
          (λ i d e.
          total_given-same (sizes_of (setting_of a)) i 0 _ _ (λ t p h. ap (λ z. weight_of (setting_of a) t *ℤ z) (brings-amount a.slots (slot_at a ranks (replaced t i v) i))))

      by-record : PaysByRecord ranks (values_in a) units pays
      by-record = record { gets_none = sums.gets.0; pays_none = sums.none; steps = sums.steps }

      pay-times : (c : ℤ) (value q : ℕ → ℤ) (v : ℕ) → pay_by value (λ u. c *ℤ q u) v ≡ c *ℤ pay_by value q v
      pay-times c value q v =
          sum_to-same (suc v) _ (λ x. c *ℤ (value x *ℤ step_of q x)) (λ x b. ap (λ z. value x *ℤ z) (step x) ∙ *ℤ_left_comm (value x) c (step_of q x))
          ∙ sum_to-*ℤ (suc v) c (λ x. value x *ℤ step_of q x)
        where
          step : (x : ℕ) → step_of (λ u. c *ℤ q u) x ≡ c *ℤ step_of q x
          step zero = refl
          step (suc x) = parts c (q (suc x)) (q x)
            where
              parts : (c x y : ℤ) → c *ℤ x -ℤ c *ℤ y ≡ c *ℤ (x -ℤ y)
              parts c x y = simp ring (omega (arith, linear))

      pub pays-are_together : (k v : ℕ) → k < length a.groups → v < value_counts a k → weights_in a k 0 *ℤ pays (place_of ranks k v) ≡ group_gets a (payment a ranks) k v
      pays-are_together k v b l =
          let n = length (sizes_of (setting_of a)) in
          let sizes = sizes_of (setting_of a) in
          let w = weight_of (setting_of a) in
          let x = λ (i : ℕ) (t : List ℕ). pos (amount_at a ranks t i) in
          sym
          (group-same n (group_of a) k _ (λ i. pay_by (values_in a k) (interim sizes w i (x i)) v)
          (λ i d e.
          interim-pays sizes w i (value_at a i) (x i) (payment a ranks i) v
          (λ t p h. (is-listed a ranks i (bidder-inside a i d)).pays t v p (subst (λ m. v < m) (sym (size_at-setting a i (bidder-inside a i d) ∙ ap (value_counts a) e)) l))
          ∙ ap (λ j. pay_by (values_in a j) (interim sizes w i (x i)) v) e)
          ∙ group-pays n (group_of a) k (values_in a k) (λ i. interim sizes w i (x i)) v
          ∙ pay-same (values_in a k) _ (λ u. weights_in a k 0 *ℤ units (place_of ranks k u)) v (λ u d. sym (units-are k u b))
          ∙ pay-times (weights_in a k 0) (values_in a k) (λ u. units (place_of ranks k u)) v
          ∙ ap (λ z. weights_in a k 0 *ℤ z) (pays-by_values (length a.groups) (value_counts a) ranks is (values_in a) units pays by-record k v l))
