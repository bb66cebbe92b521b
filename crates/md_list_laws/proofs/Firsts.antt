-- The closed sums of the first records of a list are what all bidders with a value of them get together, over all profiles by weight.
use Rattle.std.proofs.Common.{◌≡◌, ◌≢◌, ◌⊎◌, ℕ, suc, ◌<◌, ◌≤◌, ◌==◌, ℤ, pos, ◌+ℤ◌, ◌-ℤ◌, ◌*ℤ◌, Bool, true, false, nat_lt, if◌then◌else◌, List, length, inl, inr, refl, sym, ap, ap₂, ◌∙◌, arith, lt-ltb, le-ltb, eq-eqb, ne_eqb}
use Rattle.std.specs.Prelude.{slice_index}
use Rattle.std.proofs.lemmas.Bool.{cases_lt, cases_eq}
use Rattle.md_math.specs.Lists.{list_to}
use Rattle.md_math.specs.Sums.{sum_to, total_by}
use Rattle.md_math.proofs.Ring.{linear, ring, *ℤ-zero, *ℤ-one}
use Rattle.md_math.proofs.SumLaws.{sum_to-same, sum_to-zero, sum_to-+ℤ, sum_to-single, sum_to-by_test}
use Rattle.md_math.proofs.TotalLaws.{total_by-places, total_by-sub}
use Rattle.md_space.specs.AllProfiles.{profiles_of}
use Rattle.md_space.specs.Profiles.{IsProfile}
use Rattle.md_space.proofs.TypeSums.{total-same}
use Rattle.md_setting.specs.Meaning.{sizes_of, weight_of, total_of}
use Rattle.md_setting.specs.Grouped.{GroupedAuction, group_at, group_of, group_with, bidder_count, value_count, weight_at}
use Rattle.md_bidders.specs.Setting.{setting_of}
use Rattle.md_setting.specs.GroupedShaped.{IsOrdered}
use Rattle.md_bidders.proofs.BidderLaws.{is-group}
use Rattle.md_bidders.proofs.ProductLaws.{product_below-same}
use Rattle.md_bidders.proofs.SettingLaws.{sizes_of-setting, weight_of-setting}
use Rattle.md_list.specs.Closed.{all_weight, listed_weight, numbers_with, first_sum, rank_weight, all_profiles}
use Rattle.md_list.specs.Gains.{weight_in}
use Rattle.md_list.specs.Ranks.{Rank, place_of, IsList}
use Rattle.md_list.specs.Rule.{place_at, count_to, slot_at}
use Rattle.md_list_laws.proofs.Numbers.{numbers-same, joint, joint-total, passing, passed, failed, passing-sum}
use Rattle.md_list.specs.Valid.{rank_at, over_rank}
use Rattle.md_list_laws.proofs.Places.{one-more, sum-at_place}
use Rattle.md_list_laws.proofs.Serving.{brings, served-below}

-- what does not pass is the whole less what passes
rest-of : (n : ℕ) (test : ℕ → Bool) (f : ℕ → ℤ) (whole : ℤ) → whole ≡ sum_to n f → sum_to n (λ v. if test v then pos 0 else f v) ≡ whole -ℤ sum_to n (λ v. if test v then f v else pos 0)
rest-of n test f whole e = omega (arith, linear, e, sum_to-by_test n test f)

-- what bidders with one of the first places get together at a profile, where a slot brings f
abbrev pub firsts_at : GroupedAuction → List Rank → (ℕ → ℤ) → ℕ → List ℕ → ℤ
firsts_at a ranks f r t = sum_to (bidder_count a) (λ i. if nat_lt (place_at a ranks t i) r then brings f (slot_at a ranks t i) else pos 0)

-- what those with the place c get together
abbrev pub place_gets : GroupedAuction → List Rank → (ℕ → ℤ) → ℕ → List ℕ → ℤ
place_gets a ranks f c t = sum_to (bidder_count a) (λ i. if place_at a ranks t i == c then brings f (slot_at a ranks t i) else pos 0)

module _ (a : GroupedAuction) (ordered : IsOrdered a) where
  -- the values of a bidder weigh what its group says
  pub whole-weight : (i : ℕ) → i < bidder_count a → all_weight (group_with a i) ≡ sum_to (value_count a i) (weight_at a i)
  whole-weight i b = total_by-places pos (group_with a i).weights 0 ∙ ap (λ n. sum_to n (weight_at a i)) (is-group a ordered i b).one_each

  -- all profiles together weigh the product of what the values of each bidder weigh
  pub total-weight : total_of (setting_of a) ≡ all_profiles a
  total-weight =
      total-same (sizes_of (setting_of a)) _ (joint (weight_at a) (value_count a) (bidder_count a)) (λ t p. weight_of-setting a t p)
      ∙ ap (λ sizes. total_by (joint (weight_at a) (value_count a) (bidder_count a)) (profiles_of sizes)) (sizes_of-setting a)
      ∙ joint-total (weight_at a) (value_count a) (bidder_count a)
      ∙ product_below-same (bidder_count a) _ _ (λ i b. sym (whole-weight i b))

  module _ (ranks : List Rank) where
    abbrev listed : ℕ → ℕ → ℕ → Bool
    listed r i v = nat_lt (place_of ranks (group_of a i) v) r

    -- the profiles in which so many bidders have a value of the first r records weigh what the numbers say
    pub numbers-weigh : (r : ℕ) (g : ℕ → ℤ)
        → total_by (λ t. weight_of (setting_of a) t *ℤ g (count_to (bidder_count a) (λ i. nat_lt (place_at a ranks t i) r))) (profiles_of (sizes_of (setting_of a)))
        ≡ sum_to (suc (bidder_count a)) (λ h. numbers_with a ranks r h *ℤ g h)
    numbers-weigh r g =
        let n = bidder_count a in
        let terms = λ (t : List ℕ). joint (weight_at a) (value_count a) n t *ℤ g (passing (weight_at a) (value_count a) (listed r) n t) in
        total-same (sizes_of (setting_of a)) _ terms (λ t p. ap (λ w. w *ℤ g (count_to n (λ i. nat_lt (place_at a ranks t i) r))) (weight_of-setting a t p))
        ∙ ap (λ sizes. total_by terms (profiles_of sizes)) (sizes_of-setting a)
        ∙ passing-sum (weight_at a) (value_count a) (listed r) n g
        ∙ sum_to-same (suc n) _ _
        (λ h b.
        ap (λ z. z *ℤ g h)
        (numbers-same n (failed (weight_at a) (value_count a) (listed r)) (passed (weight_at a) (value_count a) (listed r))
        (λ i. all_weight (group_with a i) -ℤ listed_weight a ranks r (group_of a i)) (λ i. listed_weight a ranks r (group_of a i)) h
        (λ i c. rest-of (value_count a i) (listed r i) (weight_at a i) (all_weight (group_with a i)) (whole-weight i c)) (λ i c. refl)))

    -- those in which h bidders have one
    pub numbers-exact : (r h : ℕ) → h ≤ bidder_count a
        → total_by (λ t. weight_of (setting_of a) t *ℤ (if count_to (bidder_count a) (λ i. nat_lt (place_at a ranks t i) r) == h then pos 1 else pos 0)) (profiles_of (sizes_of (setting_of a)))
        ≡ numbers_with a ranks r h
    numbers-exact r h l =
        numbers-weigh r (λ j. if j == h then pos 1 else pos 0)
        ∙ sum_to-single (suc (bidder_count a)) h (λ j. numbers_with a ranks r j *ℤ (if j == h then pos 1 else pos 0)) (omega (arith, l))
        (λ j b d. ap (λ (t : Bool). numbers_with a ranks r j *ℤ (if t then pos 1 else pos 0)) (ne_eqb j h d) ∙ *ℤ-zero (numbers_with a ranks r j))
        ∙ ap (λ (t : Bool). numbers_with a ranks r h *ℤ (if t then pos 1 else pos 0)) (eq-eqb h h refl)
        ∙ *ℤ-one (numbers_with a ranks r h)

    -- before the first record no value is listed
    pub listed-none : (k : ℕ) → listed_weight a ranks 0 k ≡ pos 0
    listed-none k = sum_to-zero (length (group_at a k).values) _ (λ v b. ap (λ (t : Bool). if t then weight_in (group_at a k) v else pos 0) (le-ltb (place_of ranks k v) 0 (omega arith)))

    -- each record lists its values
    pub listed-more : IsList a ranks → (c k : ℕ) → c < length ranks → listed_weight a ranks (suc c) k ≡ listed_weight a ranks c k +ℤ (if (rank_at ranks c).group == k then rank_weight a ranks c else pos 0)
    listed-more is c k b =
        let size = λ (j : ℕ). length (group_at a j).values in
        sum_to-same (size k) _ _ (λ v h. one-more c (place_of ranks k v) (weight_in (group_at a k) v))
        ∙ sum_to-+ℤ (size k) (λ v. if nat_lt (place_of ranks k v) c then weight_in (group_at a k) v else pos 0) (λ v. if place_of ranks k v == c then weight_in (group_at a k) v else pos 0)
        ∙ ap (λ z. listed_weight a ranks c k +ℤ z) (sum-at_place (length a.groups) size ranks is c k (weight_in (group_at a k)) b ∙ own (cases_eq (rank_at ranks c).group k))
      where
        own : ((rank_at ranks c).group ≡ k) ⊎ ((rank_at ranks c).group ≢ k)
            → (if (rank_at ranks c).group == k then over_rank (weight_in (group_at a k)) (rank_at ranks c) else pos 0) ≡ (if (rank_at ranks c).group == k then rank_weight a ranks c else pos 0)
        own (inl e) = ap (λ j. if (rank_at ranks c).group == k then over_rank (weight_in (group_at a j)) (rank_at ranks c) else pos 0) (sym e)
        own (inr d) = rw (ne_eqb (rank_at ranks c).group k d) refl

    module _ (f : ℕ → ℤ) (past : (h : ℕ) → length a.slots ≤ h → f h ≡ pos 0) where
      -- the first r records get what their sum says
      pub firsts-get : (r : ℕ) → r ≤ length ranks → first_sum a ranks f r ≡ total_by (λ t. weight_of (setting_of a) t *ℤ firsts_at a ranks f r t) (profiles_of (sizes_of (setting_of a)))
      firsts-get r l =
          sym
          (total-same (sizes_of (setting_of a)) _ _ (λ t p. ap (λ z. weight_of (setting_of a) t *ℤ z) (served-below a ranks t f r past l))
          ∙ numbers-weigh r (λ h. sum_to h f))

      -- a record gets what it adds to those before it
      pub record-gets : (c : ℕ) → c < length ranks
          → first_sum a ranks f (suc c) -ℤ first_sum a ranks f c ≡ total_by (λ t. weight_of (setting_of a) t *ℤ place_gets a ranks f c t) (profiles_of (sizes_of (setting_of a)))
      record-gets c b =
          let w = weight_of (setting_of a) in
          ap₂ (λ x y. x -ℤ y) (firsts-get (suc c) (omega (arith, b))) (firsts-get c (omega (arith, b)))
          ∙ sym (total_by-sub (λ t. w t *ℤ firsts_at a ranks f (suc c) t) (λ t. w t *ℤ firsts_at a ranks f c t) (profiles_of (sizes_of (setting_of a))))
          ∙ total-same (sizes_of (setting_of a)) _ _
          (λ t p.
          left (w t) _ _ _
          (sum_to-same (bidder_count a) _ _ (λ i d. one-more c (place_at a ranks t i) (brings f (slot_at a ranks t i)))
          ∙ sum_to-+ℤ (bidder_count a) (λ i. if nat_lt (place_at a ranks t i) c then brings f (slot_at a ranks t i) else pos 0) (λ i. if place_at a ranks t i == c then brings f (slot_at a ranks t i) else pos 0)))
        where
          left : (w x y z : ℤ) → x ≡ y +ℤ z → w *ℤ x -ℤ w *ℤ y ≡ w *ℤ z
          left w x y z e = rw e (parts w y z)
            where
              parts : (w y z : ℤ) → w *ℤ (y +ℤ z) -ℤ w *ℤ y ≡ w *ℤ z
              parts w y z = simp ring (omega (arith, linear))
