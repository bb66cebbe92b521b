-- Weights that are divided by a common factor of their group change no average: the same mechanisms are admitted, and the same are best.
use Rattle.std.proofs.Common.{◌≡◌, ℕ, zero, suc, ◌*◌, ◌<◌, ℤ, pos, ◌+ℤ◌, ◌-ℤ◌, ◌*ℤ◌, ◌≤ℤ◌, ◌<ℤ◌, List, [], ◌∷◌, ◌++◌, length, replicate, inl, inr, refl, sym, ap, ap₂, ◌∙◌, subst, arith}
use Rattle.std.specs.Prelude.{slice_index, slice_index_or}
use Rattle.std.proofs.lemmas.Bool.{cases_lt}
use Rattle.std.proofs.lemmas.Int.{ints}
use Rattle.std.proofs.Math.IntN.{pos-*ℤ-pos}
use Rattle.std.proofs.lemmas.List.{get_or_past}
use Rattle.md_math.specs.Lists.{list_to, number_at}
use Rattle.md_math.specs.Sums.{sum_to, total_by}
use Rattle.md_math.proofs.Builders.{list_to-same}
use Rattle.md_math.proofs.Order.{*ℤ-le, le_from_*ℤ, le_from_lt, *ℤ_cancel, positive_pos}
use Rattle.md_math.proofs.Ring.{linear, ring, one-*ℤ, *ℤ_assoc}
use Rattle.md_math.proofs.SumLaws.{sum_to-same}
use Rattle.md_space.specs.Profiles.{IsProfile}
use Rattle.md_setting.specs.Meaning.{agent_count, outcome_count, sizes_of, weight_of, total_of, utility_of, value_of}
use Rattle.md_mech.specs.declared.mechanism.Mechanism.{Mechanism}
use Rattle.md_mech.specs.Admissible.{IsAdmissible}
use Rattle.md_mech.specs.Optimal.{worth_of}
use Rattle.md_setting.specs.Grouped.{Group, GroupedAuction, no_group, group_at, group_of, group_with, members_from, members, bidder_count, value_count, value_at, weight_at}
use Rattle.md_bidders.specs.Assignments.{assignments_of, assignments, assignment_at, amount_of, amount_in}
use Rattle.md_bidders.specs.Products.{product_below}
use Rattle.md_bidders.specs.Setting.{all_units, setting_of}
use Rattle.md_bidders.proofs.BidderLaws.{group-below}
use Rattle.md_bidders.proofs.ProductLaws.{product_below-same, product_below-positive}
use Rattle.md_bidders.proofs.SettingLaws.{setting-truth, setting-rational, setting-payments, setting-no_deficit, setting-revenue, agent_count-setting, outcome_count-setting, sizes_of-setting, is-report, weight_of-setting, utility_of-setting, outside_of-setting, value_of-setting}
use Rattle.md_list.specs.Averages.{revenue_in}
use Rattle.md_list.specs.Best.{IsBest, welfare_in}
use Rattle.md_list.specs.Reduced.{IsReducedGroup, IsReduced}
use Rattle.md_list_laws.proofs.Alike.{IsSale, AreAlike, alike-sym, worth-alike, welfare-alike, revenue-alike, total-alike, admissible-alike}

members-same : (k : ℕ) (xs ys : List Group) → length xs ≡ length ys → ((j : ℕ) → j < length ys → (slice_index_or xs j no_group).count ≡ (slice_index_or ys j no_group).count) → members_from k xs ≡ members_from k ys
members-same k [] [] e h = refl
members-same k [] (y ∷ ys) e h = absurd (omega (arith, e))
members-same k (x ∷ xs) [] e h = absurd (omega (arith, e))
members-same k (x ∷ xs) (y ∷ ys) e h =
    ap₂ (λ n rest. replicate n k ++ rest) (h 0 (omega arith)) (members-same (suc k) xs ys (omega (arith, e)) (λ j b. h (suc j) (omega (arith, b))))

product-times : (n : ℕ) (f g : ℕ → ℤ) → product_below n (λ i. f i *ℤ g i) ≡ product_below n f *ℤ product_below n g
product-times zero f g = sym (one-*ℤ (pos 1))
product-times (suc n) f g = ap (λ z. z *ℤ (f n *ℤ g n)) (product-times n f g) ∙ parts (product_below n f) (product_below n g) (f n) (g n)
  where
    parts : (x y f g : ℤ) → (x *ℤ y) *ℤ (f *ℤ g) ≡ (x *ℤ f) *ℤ (y *ℤ g)
    parts x y f g = simp ring

is-sale : (a : GroupedAuction) → IsSale (setting_of a)
is-sale a = record {
  truth = setting-truth a;
  rational = setting-rational a;
  payments = setting-payments a;
  no_deficit = setting-no_deficit a;
  outside = λ i v b. outside_of-setting a i v (subst (λ n. i < n) (agent_count-setting a) b);
}

module _ (a b : GroupedAuction) (factor : ℕ → ℕ) (reduced : IsReduced a b factor) where
  pub same-members : members b ≡ members a
  same-members = members-same 0 b.groups a.groups reduced.group_count (λ k c. (reduced.group k c).count)

  pub same-count : bidder_count b ≡ bidder_count a
  same-count = ap length same-members

  pub own-group : (i : ℕ) → i < bidder_count a → IsReducedGroup (factor (group_of a i)) (group_with a i) (group_with b i)
  own-group i c =
      subst (λ (ms : List ℕ). IsReducedGroup (factor (group_of a i)) (group_with a i) (group_at b (slice_index ms i))) (sym same-members) (reduced.group (group_of a i) (group-below a i c))

  pub same-sizes : sizes_of (setting_of b) ≡ sizes_of (setting_of a)
  same-sizes =
      sizes_of-setting b
      ∙ ap (λ n. list_to n (value_count b)) same-count
      ∙ list_to-same (bidder_count a) (value_count b) (value_count a) (λ i c. ap length (own-group i c).values)
      ∙ sym (sizes_of-setting a)

  pub same-ways : assignments b ≡ assignments a
  same-ways = ap₂ (λ n (slots : List ℕ). assignments_of n (length slots)) same-count reduced.slots

  pub same-outcomes : outcome_count (setting_of b) ≡ outcome_count (setting_of a)
  same-outcomes = outcome_count-setting b ∙ ap length same-ways ∙ sym (outcome_count-setting a)

  pub same-agents : agent_count (setting_of b) ≡ agent_count (setting_of a)
  same-agents = agent_count-setting b ∙ same-count ∙ sym (agent_count-setting a)

  pub same-amount : (o i : ℕ) → amount_in b (assignment_at b o) i ≡ amount_in a (assignment_at a o) i
  same-amount o i = ap₂ (λ slots (ways : List (List ℕ)). amount_of slots (slice_index (slice_index_or ways o []) i)) reduced.slots same-ways

  pub same-value : (i v : ℕ) → i < bidder_count a → value_at b i v ≡ value_at a i v
  same-value i v c = ap (λ values. number_at values v) (own-group i c).values

  own-weight : (i v : ℕ) → i < bidder_count a → weight_at a i v ≡ pos (factor (group_of a i)) *ℤ weight_at b i v
  own-weight i v c =
      let own = own-group i c in
      ap (λ n. pos n)
      (elim (cases_lt v (length (group_with a i).weights)) [
        | inl l ↦ own.weights v l
        | inr l ↦
            get_or_past (group_with a i).weights v 0 l ∙ sym (ap (λ w. factor (group_of a i) * w) (get_or_past (group_with b i).weights v 0 (omega (arith, l, own.one_each))) ∙ none (factor (group_of a i)))
      ])
      ∙ sym (pos-*ℤ-pos (factor (group_of a i)) (slice_index (group_with b i).weights v))
    where
      none : (n : ℕ) → n * 0 ≡ 0
      none n = omega arith

  -- by how much the weights of all profiles fall
  abbrev pub all_factors : ℤ
  all_factors = product_below (bidder_count a) (λ i. pos (factor (group_of a i)))

  pub factors-positive : pos 0 <ℤ all_factors
  factors-positive = product_below-positive (bidder_count a) _ (λ i c. positive_pos (factor (group_of a i)) (own-group i c).positive)

  profile-reduced : (t : List ℕ) → IsProfile (sizes_of (setting_of a)) t → IsProfile (sizes_of (setting_of b)) t
  profile-reduced t p = subst (λ sizes. IsProfile sizes t) (sym same-sizes) p

  weight-reduced : (t : List ℕ) → IsProfile (sizes_of (setting_of a)) t → weight_of (setting_of a) t ≡ all_factors *ℤ weight_of (setting_of b) t
  weight-reduced t p =
      weight_of-setting a t p
      ∙ product_below-same (bidder_count a) _ _ (λ i c. own-weight i (slice_index t i) c)
      ∙ product-times (bidder_count a) (λ i. pos (factor (group_of a i))) (λ i. weight_at b i (slice_index t i))
      ∙ ap (λ n. all_factors *ℤ product_below n (λ i. weight_at b i (slice_index t i))) (sym same-count)
      ∙ ap (λ z. all_factors *ℤ z) (sym (weight_of-setting b t (profile-reduced t p)))

  utility-reduced : (i : ℕ) (t : List ℕ) (o : ℕ) → i < agent_count (setting_of a) → IsProfile (sizes_of (setting_of a)) t → o < outcome_count (setting_of a) → utility_of (setting_of b) i t o ≡ utility_of (setting_of a) i t o
  utility-reduced i t o c p d =
      let here : i < bidder_count a = subst (λ n. i < n) (agent_count-setting a) c in
      let there : i < bidder_count b = subst (λ n. i < n) (sym same-count) here in
      let way : o < length (assignments a) = subst (λ n. o < n) (outcome_count-setting a) d in
      utility_of-setting b i t o there ((is-report b t (profile-reduced t p)).below i there) (subst (λ (ways : List (List ℕ)). o < length ways) (sym same-ways) way)
      ∙ ap₂ (λ v n. v *ℤ pos n) (same-value i (slice_index t i) here) (same-amount o i)
      ∙ sym (utility_of-setting a i t o here ((is-report a t p).below i here) way)

  value-reduced : (t : List ℕ) (o : ℕ) → IsProfile (sizes_of (setting_of a)) t → o < outcome_count (setting_of a) → value_of (setting_of b) t o ≡ value_of (setting_of a) t o
  value-reduced t o p d =
      let way : o < length (assignments a) = subst (λ n. o < n) (outcome_count-setting a) d in
      let term = λ (i : ℕ). ((b.welfare *ℤ value_at b i (slice_index t i) +ℤ (group_with b i).worth) -ℤ b.keep) *ℤ pos (amount_in b (assignment_at b o) i) in
      value_of-setting b t o (profile-reduced t p) (subst (λ (ways : List (List ℕ)). o < length ways) (sym same-ways) way)
      ∙ ap₂ (λ x y. x +ℤ y)
      (ap₂ (λ k (slots : List ℕ). k *ℤ total_by pos slots) reduced.keep reduced.slots)
      (ap (λ n. sum_to n term) same-count
      ∙ sum_to-same (bidder_count a) term _
      (λ i c.
      ap₂ (λ x n. x *ℤ pos n)
      (ap₂ (λ x k. x -ℤ k) (ap₂ (λ x g. x +ℤ g) (ap₂ (λ w v. w *ℤ v) reduced.welfare (same-value i (slice_index t i) c)) (own-group i c).worth) reduced.keep) (same-amount o i)))
      ∙ sym (value_of-setting a t o p way)

  pub alike : AreAlike (setting_of a) (setting_of b) (pos 1) all_factors
  alike = record {
    first = is-sale a;
    second = is-sale b;
    left_positive = omega (arith, ints);
    right_positive = factors-positive;
    sizes = same-sizes;
    outcomes = same-outcomes;
    agents = same-agents;
    weights = λ t p. one-*ℤ (weight_of (setting_of a) t) ∙ weight-reduced t p;
    utility = utility-reduced;
    value = value-reduced;
    revenue = setting-revenue b ∙ reduced.revenue ∙ sym (setting-revenue a);
  }

  -- ---- what carries over

  pub reduced-total : total_of (setting_of a) ≡ all_factors *ℤ total_of (setting_of b)
  reduced-total = sym (one-*ℤ (total_of (setting_of a))) ∙ total-alike (setting_of a) (setting_of b) (pos 1) all_factors alike

  pub reduced-worth : (m : Mechanism) → worth_of (setting_of a) m ≡ all_factors *ℤ worth_of (setting_of b) m
  reduced-worth m = sym (one-*ℤ (worth_of (setting_of a) m)) ∙ worth-alike (setting_of a) (setting_of b) (pos 1) all_factors alike m

  pub reduced-welfare : (m : Mechanism) → welfare_in (setting_of a) m ≡ all_factors *ℤ welfare_in (setting_of b) m
  reduced-welfare m = sym (one-*ℤ (welfare_in (setting_of a) m)) ∙ welfare-alike (setting_of a) (setting_of b) (pos 1) all_factors alike m

  pub reduced-revenue : (m : Mechanism) → revenue_in (setting_of a) m ≡ all_factors *ℤ revenue_in (setting_of b) m
  reduced-revenue m = sym (one-*ℤ (revenue_in (setting_of a) m)) ∙ revenue-alike (setting_of a) (setting_of b) (pos 1) all_factors alike m

  pub reduced-admits : (m : Mechanism) → IsAdmissible (setting_of a) m → IsAdmissible (setting_of b) m
  reduced-admits m is = admissible-alike (setting_of a) (setting_of b) (pos 1) all_factors alike m is

  pub admits-reduced : (m : Mechanism) → IsAdmissible (setting_of b) m → IsAdmissible (setting_of a) m
  admits-reduced m is = admissible-alike (setting_of b) (setting_of a) all_factors (pos 1) (alike-sym (setting_of a) (setting_of b) (pos 1) all_factors alike) m is

  -- averages are the same: of all profiles, each sum is the same fraction
  fraction : (x y s t f : ℤ) → x ≡ f *ℤ y → s ≡ f *ℤ t → x *ℤ t ≡ y *ℤ s
  fraction x y s t f e d = ap (λ z. z *ℤ t) e ∙ turned f y t ∙ ap (λ z. y *ℤ z) (sym d)
    where
      turned : (f y t : ℤ) → (f *ℤ y) *ℤ t ≡ y *ℤ (f *ℤ t)
      turned f y t = simp ring

  pub worth-average : (m : Mechanism) → worth_of (setting_of a) m *ℤ total_of (setting_of b) ≡ worth_of (setting_of b) m *ℤ total_of (setting_of a)
  worth-average m = fraction _ _ _ _ all_factors (reduced-worth m) reduced-total

  pub welfare-average : (m : Mechanism) → welfare_in (setting_of a) m *ℤ total_of (setting_of b) ≡ welfare_in (setting_of b) m *ℤ total_of (setting_of a)
  welfare-average m = fraction _ _ _ _ all_factors (reduced-welfare m) reduced-total

  pub revenue-average : (m : Mechanism) → revenue_in (setting_of a) m *ℤ total_of (setting_of b) ≡ revenue_in (setting_of b) m *ℤ total_of (setting_of a)
  revenue-average m = fraction _ _ _ _ all_factors (reduced-revenue m) reduced-total

  -- what is best by the reduced weights is best
  pub best-reduced : (m : Mechanism) → IsBest b m → IsBest a m
  best-reduced m best = record {
    optimal = record {
      admissible = admits-reduced m best.optimal.admissible;
      best = λ other is. more (worth_of (setting_of a) other) (worth_of (setting_of a) m) _ _ other.den m.den (reduced-worth other) (reduced-worth m) (best.optimal.best other (reduced-admits other is));
    };
    fullest = λ other is same.
        more (welfare_in (setting_of a) other) (welfare_in (setting_of a) m) _ _ other.den m.den (reduced-welfare other) (reduced-welfare m)
        (best.fullest other (reduced-admits other is) (level (worth_of (setting_of a) other) (worth_of (setting_of a) m) _ _ other.den m.den (reduced-worth other) (reduced-worth m) same));
  }
    where
      more : (x y z w d e : ℤ) → x ≡ all_factors *ℤ z → y ≡ all_factors *ℤ w → (z *ℤ e) ≤ℤ (w *ℤ d) → (x *ℤ e) ≤ℤ (y *ℤ d)
      more x y z w d e f g l =
          subst (λ u. u ≤ℤ (y *ℤ d)) (sym (*ℤ_assoc all_factors z e) ∙ ap (λ u. u *ℤ e) (sym f))
          (subst (λ u. (all_factors *ℤ (z *ℤ e)) ≤ℤ u) (sym (*ℤ_assoc all_factors w d) ∙ ap (λ u. u *ℤ d) (sym g)) (*ℤ-le all_factors (z *ℤ e) (w *ℤ d) (le_from_lt (pos 0) all_factors factors-positive) l))

      level : (x y z w d e : ℤ) → x ≡ all_factors *ℤ z → y ≡ all_factors *ℤ w → x *ℤ e ≡ y *ℤ d → z *ℤ e ≡ w *ℤ d
      level x y z w d e f g h =
          *ℤ_cancel all_factors (z *ℤ e) (w *ℤ d) factors-positive
          (sym (*ℤ_assoc all_factors z e) ∙ ap (λ u. u *ℤ e) (sym f) ∙ h ∙ ap (λ u. u *ℤ d) g ∙ *ℤ_assoc all_factors w d)
