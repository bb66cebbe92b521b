-- What a record adds to those before it is a multiple of the weight of its values.
use Rattle.std.proofs.Common.{◌≡◌, ℕ, suc, ◌<◌, ◌≤◌, ◌==◌, ℤ, pos, ◌-ℤ◌, ◌*ℤ◌, Bool, if◌then◌else◌, List, length, refl, sym, ap, ap₂, ◌∙◌, subst, arith, eq-eqb, ne_eqb}
use Rattle.std.specs.Prelude.{slice_index}
use Rattle.md_math.specs.Sums.{total_by}
use Rattle.md_math.proofs.Order.{*ℤ_cancel}
use Rattle.md_math.proofs.Ring.{one-*ℤ, *ℤ_assoc, *ℤ_left_comm}
use Rattle.md_space.specs.AllProfiles.{profiles_of}
use Rattle.md_space.specs.ByType.{where_type}
use Rattle.md_space.specs.Profiles.{IsProfile, replaced}
use Rattle.md_space.proofs.TypeSums.{total_given-same, total_given-*ℤ}
use Rattle.md_setting.specs.Meaning.{sizes_of, weight_of}
use Rattle.md_setting.specs.Grouped.{GroupedAuction, group_of, bidder_count, weight_at}
use Rattle.md_bidders.specs.Products.{product_below}
use Rattle.md_bidders.specs.Setting.{setting_of}
use Rattle.md_setting.specs.GroupedShaped.{IsOrdered}
use Rattle.md_bidders.proofs.SettingLaws.{weight_of-setting}
use Rattle.md_list.specs.Closed.{first_sum, rank_weight}
use Rattle.md_list.specs.Ranks.{Rank, place_of, IsList}
use Rattle.md_list.specs.Valid.{rank_at}
use Rattle.md_list.proofs.PlaceLaws.{place-in}
use Rattle.md_list_laws.proofs.Groups.{of_group, group-same, group-times}
use Rattle.md_list_laws.proofs.Inside.{IsInside, ranks-inside}
use Rattle.md_list_laws.proofs.Interim.{interim}
use Rattle.md_list_laws.proofs.LateLevels.{weights_in}
use Rattle.md_list_laws.proofs.Market.{product-turned, bidder-inside}
use Rattle.md_list_laws.proofs.Shares.{value_counts, slot_brings, group_gets, are-grouped, rank-together}

-- the weight of the values of all bidders but one
abbrev others_weigh : GroupedAuction → ℕ → List ℕ → ℤ
others_weigh a i t = product_below (bidder_count a) (λ j. if j == i then pos 1 else weight_at a j (slice_index t j))

-- what bidder i gets with a value over all profiles of the others, by weight
abbrev over_others : GroupedAuction → (List ℕ → ℤ) → ℕ → ℕ → ℤ
over_others a x i v = total_by (where_type i 0 (λ t. others_weigh a i t *ℤ x (replaced t i v))) (profiles_of (sizes_of (setting_of a)))

-- What a record brings to the bidders of its group together, over the others' values by weight, where each of them has its least value
-- by turns.
abbrev pub record_share : GroupedAuction → List Rank → (ℕ → ℤ) → ℕ → ℤ
record_share a ranks f c =
    of_group (length (sizes_of (setting_of a))) (group_of a) (rank_at ranks c).group (λ i. over_others a (slot_brings a ranks f i) i (rank_at ranks c).first)

weight-parts : (a : GroupedAuction) (i : ℕ) (t : List ℕ) → i < bidder_count a → IsProfile (sizes_of (setting_of a)) t → weight_of (setting_of a) t ≡ weight_at a i (slice_index t i) *ℤ others_weigh a i t
weight-parts a i t b p =
    let own = λ (j : ℕ). weight_at a j (slice_index t j) in
    let rest = λ (j : ℕ). if j == i then pos 1 else own j in
    weight_of-setting a t p
    ∙ sym (one-*ℤ (product_below (bidder_count a) own))
    ∙ ap (λ z. z *ℤ product_below (bidder_count a) own) (sym (ap (λ (c : Bool). if c then pos 1 else own i) (eq-eqb i i refl)))
    ∙ product-turned (bidder_count a) i own rest b (λ j c d. sym (ap (λ (t : Bool). if t then pos 1 else own j) (ne_eqb j i d)))

interim-others : (a : GroupedAuction) (x : List ℕ → ℤ) (i v : ℕ) → i < bidder_count a → interim (sizes_of (setting_of a)) (weight_of (setting_of a)) i x v ≡ weight_at a i 0 *ℤ over_others a x i v
interim-others a x i v b =
    total_given-same (sizes_of (setting_of a)) i 0 _ (λ t. weight_at a i 0 *ℤ (others_weigh a i t *ℤ x (replaced t i v)))
    (λ t p e.
    ap (λ w. w *ℤ x (replaced t i v)) (weight-parts a i t b p ∙ ap (λ k. weight_at a i k *ℤ others_weigh a i t) e) ∙ *ℤ_assoc (weight_at a i 0) (others_weigh a i t) (x (replaced t i v)))
    ∙ total_given-*ℤ (sizes_of (setting_of a)) i 0 (weight_at a i 0) (λ t. others_weigh a i t *ℤ x (replaced t i v))

module _ (a : GroupedAuction) (ordered : IsOrdered a) (ranks : List Rank) (is : IsList a ranks) (f : ℕ → ℤ) (past : (h : ℕ) → length a.slots ≤ h → f h ≡ pos 0) where
  group-others : (k v : ℕ) → group_gets a (slot_brings a ranks f) k v ≡ weights_in a k 0 *ℤ of_group (length (sizes_of (setting_of a))) (group_of a) k (λ i. over_others a (slot_brings a ranks f i) i v)
  group-others k v =
      group-same (length (sizes_of (setting_of a))) (group_of a) k _ (λ i. weights_in a k 0 *ℤ over_others a (slot_brings a ranks f i) i v)
      (λ i b e.
      interim-others a (slot_brings a ranks f i) i v (bidder-inside a i b) ∙ ap (λ j. weights_in a j 0 *ℤ over_others a (slot_brings a ranks f i) i v) e)
      ∙ group-times (length (sizes_of (setting_of a))) (group_of a) k (weights_in a k 0) (λ i. over_others a (slot_brings a ranks f i) i v)

  -- so the division by the weight of a record leaves nothing
  pub share-whole : (c : ℕ) → c < length ranks → rank_weight a ranks c *ℤ record_share a ranks f c ≡ first_sum a ranks f (suc c) -ℤ first_sum a ranks f c
  share-whole c b =
      let rank = rank_at ranks c in
      let inside : IsInside (length a.groups) (value_counts a) rank = ranks-inside (length a.groups) (value_counts a) (value_counts a) ranks is (λ k. omega arith) c b in
      let place : place_of ranks rank.group rank.first ≡ c = place-in (length a.groups) (value_counts a) ranks is c rank.first b (omega arith) inside.some in
      let first = weights_in a rank.group 0 in
      *ℤ_cancel first _ _ ((are-grouped a ordered).positive rank.group inside.group)
      (*ℤ_left_comm first (rank_weight a ranks c) (record_share a ranks f c)
      ∙ ap (λ z. rank_weight a ranks c *ℤ z) (sym (group-others rank.group rank.first))
      ∙ sym (rank-together a ordered ranks is f past c rank.group rank.first b place))
