-- The bidders of an auction with groups, and what a list gives them and charges them.
use Rattle.std.proofs.Common.{◌≡◌, ◌≢◌, ℕ, zero, suc, ◌<◌, ℤ, pos, ◌+ℤ◌, ◌-ℤ◌, ◌*ℤ◌, List, length, inl, inr, sym, ap, ap₂, ◌∙◌, subst, arith}
use Rattle.std.specs.Prelude.{slice_index}
use Rattle.std.proofs.lemmas.Bool.{cases_lt}
use Rattle.std.proofs.lemmas.List.{set-set, get_or-set_same, get_or-set_other}
use Rattle.md_math.specs.Sums.{sum_to, total_by}
use Rattle.md_math.proofs.Builders.{length-list_to}
use Rattle.md_math.proofs.Ring.{linear, ring}
use Rattle.md_math.proofs.TotalLaws.{total_by-places}
use Rattle.md_space.specs.Profiles.{IsProfile, replaced}
use Rattle.md_space.proofs.Ranks.{replaced-IsProfile}
use Rattle.md_setting.specs.Meaning.{sizes_of, weight_of}
use Rattle.md_setting.specs.Grouped.{GroupedAuction, group_at, group_of, group_with, bidder_count, value_count, value_at, weight_at}
use Rattle.md_bidders.specs.Products.{product_below}
use Rattle.md_bidders.specs.Setting.{setting_of}
use Rattle.md_setting.specs.GroupedShaped.{IsOrdered}
use Rattle.md_bidders.proofs.BidderLaws.{is-group, values-ascend, weights-positive}
use Rattle.md_bidders.proofs.ProductLaws.{product_below-same}
use Rattle.md_bidders.proofs.SettingLaws.{sizes_of-setting, size_at-setting, is-report, weight_of-setting, weight-nonneg}
use Rattle.md_list.specs.Ranks.{Rank, place_of}
use Rattle.md_list.specs.Rule.{amount_at, amount_with, payment, pay_by}
use Rattle.md_list.proofs.AmountLaws.{amount-alike, amount-none}
use Rattle.md_list.proofs.PayLaws.{pay-same}
use Rattle.md_list_laws.proofs.Bidders.{IsListed}
use Rattle.md_list_laws.proofs.LateLevels.{values_in, weights_in, from_in}
use Rattle.md_list_laws.proofs.Scores.{IsMarket}

-- ---- weights

-- two products that differ in one factor
pub product-turned : (n i : ℕ) (f g : ℕ → ℤ) → i < n → ((j : ℕ) → j < n → j ≢ i → f j ≡ g j) → g i *ℤ product_below n f ≡ f i *ℤ product_below n g
product-turned zero i f g b h = absurd (omega (arith, b))
product-turned (suc n) i f g b h = elim (cases_lt i n) [
  | inl l ↦
      let rest : g i *ℤ product_below n f ≡ f i *ℤ product_below n g = product-turned n i f g l (λ j c d. h j (omega (arith, c)) d) in
      let last : f n ≡ g n = h n (omega arith) (λ e. omega (arith, e, l)) in
      grouped (g i) (product_below n f) (f n) ∙ ap₂ (λ y z. y *ℤ z) rest last ∙ sym (grouped (f i) (product_below n g) (g n))
  | inr l ↦
      let same : n ≡ i = omega (arith, b, l) in
      let rest : product_below n f ≡ product_below n g = product_below-same n f g (λ j c. h j (omega (arith, c)) (λ e. omega (arith, e, c, l))) in
      subst (λ k. g k *ℤ (product_below n f *ℤ f n) ≡ f k *ℤ (product_below n g *ℤ g n)) same (ap (λ z. g n *ℤ (z *ℤ f n)) rest ∙ turned (g n) (product_below n g) (f n))
]
  where
    grouped : (a b c : ℤ) → a *ℤ (b *ℤ c) ≡ (a *ℤ b) *ℤ c
    grouped a b c = simp ring

    turned : (a b c : ℤ) → a *ℤ (b *ℤ c) ≡ c *ℤ (b *ℤ a)
    turned a b c = simp ring

module _ (a : GroupedAuction) where
  abbrev sizes : List ℕ
  sizes = sizes_of (setting_of a)

  -- there is a size for each bidder
  pub as-many : length sizes ≡ bidder_count a
  as-many = ap length (sizes_of-setting a) ∙ length-list_to (bidder_count a) (value_count a)

  pub bidder-inside : (i : ℕ) → i < length sizes → i < bidder_count a
  bidder-inside i b = subst (λ n. i < n) as-many b

  pub value-inside : (i v : ℕ) → i < bidder_count a → v < slice_index sizes i → v < value_count a i
  value-inside i v b l = subst (λ n. v < n) (size_at-setting a i b) l

  -- the weight of a profile when one bidder's value is replaced
  weight-factor : (t : List ℕ) (i v : ℕ) → IsProfile sizes t → i < length sizes → v < slice_index sizes i
      → weight_at a i (slice_index t i) *ℤ weight_of (setting_of a) (replaced t i v) ≡ weight_at a i v *ℤ weight_of (setting_of a) t
  weight-factor t i v p b l =
      let n = bidder_count a in
      let u = replaced t i v in
      let here : i < n = bidder-inside i b in
      let told : slice_index u i ≡ v = get_or-set_same t i v 0 (omega (arith, here, (is-report a t p).long)) in
      ap (λ z. weight_at a i (slice_index t i) *ℤ z) (weight_of-setting a u (replaced-IsProfile sizes t i v p l))
      ∙ product-turned n i (λ j. weight_at a j (slice_index u j)) (λ j. weight_at a j (slice_index t j)) here (λ j c d. ap (weight_at a j) (get_or-set_other t i j v 0 d))
      ∙ ap₂ (λ k z. weight_at a i k *ℤ z) told (sym (weight_of-setting a t p))

  pub is-market : IsOrdered a → IsMarket sizes (weight_of (setting_of a)) (group_of a) (values_in a) (weights_in a) (from_in a)
  is-market ordered = record {
    apart = record {
      factor = weight-factor;
      positive = λ i v b l. weights-positive a ordered i (bidder-inside i b) v (value-inside i v (bidder-inside i b) l);
      nonneg = weight-nonneg a;
      some = λ i b. (let some = (is-group a ordered i (bidder-inside i b)).some_value in omega (arith, size_at-setting a i (bidder-inside i b), some));
    };
    ascends = λ i v b l. values-ascend a ordered i (bidder-inside i b) v (value-inside i (suc v) (bidder-inside i b) l);
    ends = λ i b. none (slice_index sizes i) (group_with a i).weights
        (size_at-setting a i (bidder-inside i b) ∙ sym (is-group a ordered i (bidder-inside i b)).one_each);
    weights_are = λ k v. step (total_by pos (group_at a k).weights) (sum_to v (weights_in a k)) (weights_in a k v);
  }
    where
      none : (n : ℕ) (xs : List ℕ) → n ≡ length xs → total_by pos xs -ℤ sum_to n (λ v. pos (slice_index xs v)) ≡ pos 0
      none n xs e = (let whole = total_by-places pos xs 0 in let same = ap (λ m. sum_to m (λ v. pos (slice_index xs v))) e in omega (arith, linear, whole, same))

      step : (t s w : ℤ) → w ≡ (t -ℤ s) -ℤ (t -ℤ (s +ℤ w))
      step t s w = omega (arith, linear)

  -- ---- the rule of a list

  pub is-listed : (ranks : List Rank) (i : ℕ) → i < bidder_count a
      → IsListed sizes i (value_at a i) (length ranks) (place_of ranks (group_of a i)) (λ t. pos (amount_at a ranks t i)) (payment a ranks i)
  is-listed ranks i b = record {
    same = λ t v u p e. ap (λ n. pos n) (amount-alike a ranks t i v u (long t p) e);
    none = λ t v p e. ap (λ n. pos n) (amount-none a ranks t i v (long t p) (omega (arith, e)));
    pays = λ t v p l.
        ap (pay_by (value_at a i) (λ w. pos (amount_with a ranks (replaced t i v) i w))) (get_or-set_same t i v 0 (long t p))
        ∙ pay-same (value_at a i) _ (λ w. pos (amount_with a ranks t i w)) v (λ w c. ap (λ u. pos (amount_at a ranks u i)) (set-set t i v w));
  }
    where
      long : (t : List ℕ) → IsProfile sizes t → i < length t
      long t p = omega (arith, b, (is-report a t p).long)
