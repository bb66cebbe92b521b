-- The averages over the profiles of a sale: what they say of truth, of taking part and of the objective.
use Rattle.std.proofs.Common.{◌≡◌, ℕ, ◌+◌, ◌-◌, ◌*◌, ◌<◌, ℤ, pos, ◌+ℤ◌, ◌-ℤ◌, ◌*ℤ◌, ◌≤ℤ◌, ◌<ℤ◌, Bool, true, false, ◌==◌, if◌then◌else◌, List, get_or, refl, sym, ap, ap₂, ◌∙◌, subst, arith}
use Rattle.std.specs.Prelude.{slice_index, nat_lt}
use Rattle.std.proofs.lemmas.Bool.Decides.{nat_tests}
use Rattle.std.proofs.lemmas.Int.{ints}
use Rattle.md_math.specs.Sums.{sum_to}
use Rattle.md_math.proofs.Order.{*ℤ-le, le_from_*ℤ, le_from_lt, nonneg-*ℤ, positive-*ℤ, chosen-nonneg}
use Rattle.md_math.proofs.Ring.{linear, ring}
use Rattle.md_math.proofs.SumLaws.{sum_to-same, sum_to-*ℤ}
use Rattle.md_math.proofs.TotalLaws.{total_by-nonneg}
use Rattle.md_space.specs.AllProfiles.{profiles_of}
use Rattle.md_space.specs.ByType.{where_type}
use Rattle.md_space.specs.Profiles.{IsProfile, replaced}
use Rattle.md_space.proofs.InOrder.{All-profiles_of}
use Rattle.md_setting.specs.Setting.{GeneralSetting}
use Rattle.md_setting.specs.Meaning.{agent_count, sizes_of, weight_of, marginal_of}
use Rattle.md_setting.specs.Shaped.{IsShaped}
use Rattle.md_mech.specs.Utility.{weighted_given}
use Rattle.md_asym_sale.specs.Forms.{pay_in, utility_in, cost_of}
use Rattle.md_asym_sale.specs.Pairs.{pair_number, agent_of, kind_of}
use Rattle.md_asym_sale.specs.Sale.{IsSale}
use Rattle.md_asym_sale.specs.Values.{pairs_of, own_value, marginal_at, surplus_at}
use Rattle.md_asym_sale.proofs.PairLaws.{lt_true, lt_false}
use Rattle.md_asym_sale.proofs.ProductLaws.{product_below-all, product_below-positive}
use Rattle.md_asym_laws.specs.Averages.{all_marginals, other_marginals, given_at, mean, plus_part, minus_part, averages}
use Rattle.md_asym_laws.proofs.PairFacts.{number-in, marginal-at, given-at, marginal-positive, pair-of}
use Rattle.md_asym_laws.proofs.Replacing.{given-replaced}
use Rattle.md_asym_laws.proofs.Utilities.{gain_at, gain-given}

-- ---- products of what types weigh

pub others-all : (s : GeneralSetting) (p : ℕ) → p < pairs_of s → other_marginals s p *ℤ marginal_at s p ≡ all_marginals s
others-all s p h = product_below-all (pairs_of s) p (marginal_at s) h

pub all-positive : (s : GeneralSetting) → IsShaped s → pos 0 <ℤ all_marginals s
all-positive s shaped = product_below-positive (pairs_of s) (marginal_at s) (λ p h. marginal-positive s p shaped h)

pub others-positive : (s : GeneralSetting) (p : ℕ) → IsShaped s → pos 0 <ℤ other_marginals s p
others-positive s p shaped = product_below-positive (pairs_of s) (λ q. if q == p then pos 1 else marginal_at s q) (λ q h. chosen (q == p) (marginal_at s q) (marginal-positive s q shaped h))
  where
    chosen : (b : Bool) (z : ℤ) → pos 0 <ℤ z → pos 0 <ℤ (if b then pos 1 else z)
    chosen true z h = omega (arith, ints)
    chosen false z h = h

-- ---- the point

minus-nonneg : (z : ℤ) → pos 0 ≤ℤ minus_part z
minus-nonneg z = omega (arith, ints)

plus-nonneg : (z : ℤ) → pos 0 ≤ℤ plus_part z
plus-nonneg z = omega (arith, ints)

parts-of : (z : ℤ) → plus_part z -ℤ minus_part z ≡ z
parts-of z = omega (arith, linear)

pub averages-win : (s : GeneralSetting) (win pay : ℕ → List ℕ → ℤ) (p : ℕ) → p < pairs_of s → averages s win pay p ≡ mean s win p
averages-win s win pay p h = rw (lt_true p (pairs_of s) h) refl

averages-plus : (s : GeneralSetting) (win pay : ℕ → List ℕ → ℤ) (p : ℕ) → p < pairs_of s → averages s win pay (pairs_of s + p) ≡ plus_part (mean s pay p)
averages-plus s win pay p h =
    let k = pairs_of s in
    let back : k + p - k ≡ p = omega arith in
    rw (lt_false (k + p) k (omega arith), lt_true (k + p) (2 * k) (omega (arith, h))) (ap (λ q. plus_part (mean s pay q)) back)

averages-minus : (s : GeneralSetting) (win pay : ℕ → List ℕ → ℤ) (p : ℕ) → averages s win pay (2 * pairs_of s + p) ≡ minus_part (mean s pay p)
averages-minus s win pay p =
    let k = pairs_of s in
    let back : 2 * k + p - 2 * k ≡ p = omega arith in
    rw (lt_false (2 * k + p) k (omega arith), lt_false (2 * k + p) (2 * k) (omega arith)) (ap (λ q. minus_part (mean s pay q)) back)

pub averages-pay : (s : GeneralSetting) (win pay : ℕ → List ℕ → ℤ) (p : ℕ) → p < pairs_of s → pay_in s (averages s win pay) p ≡ mean s pay p
averages-pay s win pay p h = ap₂ (λ x y. x -ℤ y) (averages-plus s win pay p h) (averages-minus s win pay p) ∙ parts-of (mean s pay p)

-- no number of the point is negative
pub averages-nonneg : (s : GeneralSetting) (win pay : ℕ → List ℕ → ℤ) (j : ℕ) → ((p : ℕ) → p < pairs_of s → pos 0 ≤ℤ mean s win p) → pos 0 ≤ℤ averages s win pay j
averages-nonneg s win pay j wins =
    either (nat_lt j (pairs_of s)) (nat_lt j (2 * pairs_of s)) (mean s win j) _ _ (λ e. wins j (below j (pairs_of s) e)) (plus-nonneg (mean s pay (j - pairs_of s))) (minus-nonneg (mean s pay (j - 2 * pairs_of s)))
  where
    below : (m n : ℕ) → nat_lt m n ≡ true → m < n
    below m n e = grind (arith, nat_tests)

    either : (b c : Bool) (x y z : ℤ) → (b ≡ true → pos 0 ≤ℤ x) → pos 0 ≤ℤ y → pos 0 ≤ℤ z → pos 0 ≤ℤ (if b then x else (if c then y else z))
    either true c x y z p q r = p refl
    either false true x y z p q r = q
    either false false x y z p q r = r

-- ---- what agents have

-- what an agent with the type a has by the averages where it tells the type b
pub averages-utility : (s : GeneralSetting) (win pay : ℕ → List ℕ → ℤ) (i a b : ℕ) → i < agent_count s → b < slice_index (sizes_of s) i
    → utility_in s (averages s win pay) i a b ≡ other_marginals s (pair_number (sizes_of s) i b) *ℤ weighted_given s i b (gain_at s win pay i a)
averages-utility s win pay i a b h k =
    let p = pair_number (sizes_of s) i b in
    let v = own_value s i a in
    let o = other_marginals s p in
    let inside = number-in s i b h k in
    ap₂ (λ x y. v *ℤ x -ℤ y) (averages-win s win pay p inside ∙ ap (λ z. o *ℤ z) (given-at s win i b h k)) (averages-pay s win pay p inside ∙ ap (λ z. o *ℤ z) (given-at s pay i b h k))
    ∙ parts o v (weighted_given s i b (win i)) (weighted_given s i b (pay i))
    ∙ ap (λ z. o *ℤ z) (sym (gain-given s win pay i a b))
  where
    parts : (o v x y : ℤ) → v *ℤ (o *ℤ x) -ℤ o *ℤ y ≡ o *ℤ (v *ℤ x -ℤ y)
    parts o v x y = simp ring (omega (arith, linear))

-- numbers of two types, each by the products without its own weight
product-le : (fa fb oa ob all told there here : ℤ) → pos 0 <ℤ fa → pos 0 <ℤ fb → pos 0 <ℤ all → oa *ℤ fa ≡ all → ob *ℤ fb ≡ all → fb *ℤ told ≡ fa *ℤ there → told ≤ℤ here
    → (ob *ℤ there) ≤ℤ (oa *ℤ here)
product-le fa fb oa ob all told there here p q r e d same less =
    let both : (all *ℤ (fb *ℤ told)) ≤ℤ (all *ℤ (fb *ℤ here)) = *ℤ-le all (fb *ℤ told) (fb *ℤ here) (le_from_lt (pos 0) all r) (*ℤ-le fb told here (le_from_lt (pos 0) fb q) less) in
    let left : (fa *ℤ fb) *ℤ (ob *ℤ there) ≡ all *ℤ (fb *ℤ told) = first fa fb ob there ∙ ap₂ (λ x y. x *ℤ y) d (sym same) in
    let right : (fa *ℤ fb) *ℤ (oa *ℤ here) ≡ all *ℤ (fb *ℤ here) = second fa fb oa here ∙ ap (λ z. z *ℤ (fb *ℤ here)) e in
    le_from_*ℤ (fa *ℤ fb) (ob *ℤ there) (oa *ℤ here) (positive-*ℤ fa fb p q) (subst (λ z. z ≤ℤ ((fa *ℤ fb) *ℤ (oa *ℤ here))) (sym left) (subst (λ z. (all *ℤ (fb *ℤ told)) ≤ℤ z) (sym right) both))
  where
    first : (x y o z : ℤ) → (x *ℤ y) *ℤ (o *ℤ z) ≡ (o *ℤ y) *ℤ (x *ℤ z)
    first x y o z = simp ring

    second : (x y o z : ℤ) → (x *ℤ y) *ℤ (o *ℤ z) ≡ (o *ℤ x) *ℤ (y *ℤ z)
    second x y o z = simp ring

-- where an agent gains nothing by telling another type, the averages say so
pub averaged-truth : (s : GeneralSetting) (win pay : ℕ → List ℕ → ℤ) (i a b : ℕ) → IsSale s → IsShaped s → i < agent_count s → a < slice_index (sizes_of s) i → b < slice_index (sizes_of s) i
    → weighted_given s i a (λ t. gain_at s win pay i a (replaced t i b)) ≤ℤ weighted_given s i a (gain_at s win pay i a)
    → utility_in s (averages s win pay) i a b ≤ℤ utility_in s (averages s win pay) i a a
averaged-truth s win pay i a b sale shaped h l k less =
    let f = marginal_of s i in
    let p = pair_number (sizes_of s) i a in
    let q = pair_number (sizes_of s) i b in
    let g = gain_at s win pay i a in
    subst (λ z. z ≤ℤ utility_in s (averages s win pay) i a a) (sym (averages-utility s win pay i a b h k))
    (subst (λ z. (other_marginals s q *ℤ weighted_given s i b g) ≤ℤ z) (sym (averages-utility s win pay i a a h l))
    (product-le (f a) (f b) (other_marginals s p) (other_marginals s q) (all_marginals s) (weighted_given s i a (λ t. g (replaced t i b))) (weighted_given s i b g) (weighted_given s i a g)
    (shaped.marginal i a h l) (shaped.marginal i b h k) (all-positive s shaped)
    (ap (λ z. other_marginals s p *ℤ z) (sym (marginal-at s i a h l)) ∙ others-all s p (number-in s i a h l))
    (ap (λ z. other_marginals s q *ℤ z) (sym (marginal-at s i b h k)) ∙ others-all s q (number-in s i b h k))
    (given-replaced s i a b g sale shaped h l k) less))

-- where it loses nothing by taking part, too
pub averaged-rational : (s : GeneralSetting) (win pay : ℕ → List ℕ → ℤ) (i a : ℕ) → IsShaped s → i < agent_count s → a < slice_index (sizes_of s) i
    → pos 0 ≤ℤ weighted_given s i a (gain_at s win pay i a) → pos 0 ≤ℤ utility_in s (averages s win pay) i a a
averaged-rational s win pay i a shaped h l some =
    let o = other_marginals s (pair_number (sizes_of s) i a) in
    subst (λ z. pos 0 ≤ℤ z) (sym (averages-utility s win pay i a a h l))
    (nonneg-*ℤ o (weighted_given s i a (gain_at s win pay i a)) (le_from_lt (pos 0) o (others-positive s (pair_number (sizes_of s) i a) shaped)) some)

-- where it never wins less than nothing, the average of what it wins is not negative
pub mean-nonneg : (s : GeneralSetting) (win : ℕ → List ℕ → ℤ) (p : ℕ) → IsShaped s → p < pairs_of s → ((i : ℕ) (t : List ℕ) → i < agent_count s → IsProfile (sizes_of s) t → pos 0 ≤ℤ win i t) → pos 0 ≤ℤ mean s win p
mean-nonneg s win p shaped h wins =
    let i = agent_of (sizes_of s) p in
    let a = kind_of (sizes_of s) p in
    nonneg-*ℤ (other_marginals s p) (given_at s win p) (le_from_lt (pos 0) (other_marginals s p) (others-positive s p shaped))
    (total_by-nonneg (where_type i a (λ t. weight_of s t *ℤ win i t)) (profiles_of (sizes_of s))
    (λ k d b. at i a (get_or (profiles_of (sizes_of s)) k d) ((pair-of s p h).agent) (All-profiles_of (sizes_of s) k d b)))
  where
    at : (i a : ℕ) (t : List ℕ) → i < agent_count s → IsProfile (sizes_of s) t → pos 0 ≤ℤ where_type i a (λ u. weight_of s u *ℤ win i u) t
    at i a t b q = chosen-nonneg (slice_index t i == a) (weight_of s t *ℤ win i t) (nonneg-*ℤ (weight_of s t) (win i t) (shaped.weight t q).nonneg (wins i t b q))

-- ---- the objective

-- the cost of the averages is what the pairs add to the objective over all profiles by weight, times what all types weigh
pub averaged-cost : (s : GeneralSetting) (win pay : ℕ → List ℕ → ℤ)
    → cost_of s (averages s win pay) ≡ all_marginals s *ℤ sum_to (pairs_of s) (λ p. surplus_at s p *ℤ given_at s win p +ℤ s.revenue *ℤ given_at s pay p)
averaged-cost s win pay =
    sum_to-same (pairs_of s) _ (λ p. all_marginals s *ℤ (surplus_at s p *ℤ given_at s win p +ℤ s.revenue *ℤ given_at s pay p))
    (λ p h.
    ap₂ (λ x y. marginal_at s p *ℤ (surplus_at s p *ℤ x +ℤ s.revenue *ℤ y)) (averages-win s win pay p h) (averages-pay s win pay p h)
    ∙ parts (marginal_at s p) (surplus_at s p) (other_marginals s p) (given_at s win p) s.revenue (given_at s pay p)
    ∙ ap (λ z. z *ℤ (surplus_at s p *ℤ given_at s win p +ℤ s.revenue *ℤ given_at s pay p)) (others-all s p h))
    ∙ sum_to-*ℤ (pairs_of s) (all_marginals s) (λ p. surplus_at s p *ℤ given_at s win p +ℤ s.revenue *ℤ given_at s pay p)
  where
    parts : (f u o x r y : ℤ) → f *ℤ (u *ℤ (o *ℤ x) +ℤ r *ℤ (o *ℤ y)) ≡ (o *ℤ f) *ℤ (u *ℤ x +ℤ r *ℤ y)
    parts f u o x r y = simp ring
