-- The averages over the bidders of an auction: what they say of truth, of taking part, of sets of values and of the objective.
use Rattle.std.proofs.Common.{◌≡◌, ℕ, suc, ◌+◌, ◌-◌, ◌*◌, ◌^◌, ◌<◌, ℤ, pos, negsuc, ◌+ℤ◌, ◌-ℤ◌, ◌*ℤ◌, ◌≤ℤ◌, ◌<ℤ◌, Bool, true, false, ◌==◌, if◌then◌else◌, List, get_or, refl, sym, ap, ap₂, ◌∙◌, subst, arith, eq-eqb, ne_eqb}
use Rattle.std.specs.Prelude.{slice_index, nat_lt}
use Rattle.std.proofs.lemmas.Bool.Decides.{nat_tests}
use Rattle.std.proofs.lemmas.Int.{ints}
use Rattle.std.proofs.Math.IntN.{pos-*ℤ-pos}
use Rattle.md_math.specs.Lists.{number_at}
use Rattle.md_math.specs.Sets.{member}
use Rattle.md_math.specs.Sums.{sum_to}
use Rattle.md_math.proofs.Order.{*ℤ-le, le_from_*ℤ, nonneg-*ℤ, positive-*ℤ, positive_pos, chosen-times, chosen-nonneg}
use Rattle.md_math.proofs.ProductLaws.{product_to-times, product_to-positive}
use Rattle.md_math.proofs.Ring.{linear, ring, *ℤ_assoc}
use Rattle.md_math.proofs.SumLaws.{sum_to-same, sum_to-sub, sum_to-*ℤ, sum_to-le, sum_to-nonneg, sum_to-+ℤ}
use Rattle.md_math.proofs.TotalLaws.{total_by-nonneg}
use Rattle.md_space.specs.AllProfiles.{profiles_of}
use Rattle.md_space.specs.ByType.{where_type}
use Rattle.md_space.specs.Profiles.{IsProfile, replaced}
use Rattle.md_space.proofs.InOrder.{All-profiles_of}
use Rattle.md_space.proofs.Ranks.{length-IsProfile}
use Rattle.md_setting.specs.Meaning.{sizes_of, weight_of}
use Rattle.md_setting.specs.Auction.{SymmetricAuction, value_count, total_weight}
use Rattle.md_setting.specs.AuctionShaped.{IsAuction}
use Rattle.md_setting.specs.General.{general_of}
use Rattle.md_setting.proofs.GeneralLaws.{weight_of-general}
use Rattle.md_mech.specs.Utility.{weighted_given}
use Rattle.md_border.specs.Odds.{weight_given}
use Rattle.md_border.specs.Sides.{right_by_counts}
use Rattle.md_border.specs.Worth.{surplus_of}
use Rattle.md_border.proofs.ByValues.{count-general, kinds-general, given-sub}
use Rattle.md_border.proofs.Necessity.{by_bidders}
use Rattle.md_border.specs.Odds.{sum_given, won_in}
use Rattle.md_reduced.specs.Averages.{all_weights, other_weights, times_of, mean, plus_part, minus_part, averages, gain_at, IsAdmissibleOnAverage}
use Rattle.md_reduced.specs.Sides.{pay_in, utility_in, demands_of, cost_of}
use Rattle.md_reduced.proofs.Replacing.{given-replaced}

-- ---- products of weights

pub others-all : (a : SymmetricAuction) (v : ℕ) → v < value_count a → pos (other_weights a v) *ℤ pos (slice_index a.weights v) ≡ pos (all_weights a)
others-all a v l =
    pos-*ℤ-pos (other_weights a v) (slice_index a.weights v)
    ∙ ap pos
    (turned (other_weights a v) (slice_index a.weights v)
    ∙ sym (product_to-times (value_count a) v (slice_index a.weights v) (slice_index a.weights) other l (here (slice_index a.weights v)) (λ j b d. rw (ne_eqb j v d) refl)))
  where
    other : ℕ → ℕ
    other u = if u == v then 1 else slice_index a.weights u

    turned : (x y : ℕ) → x * y ≡ y * x
    turned x y = omega arith

    here : (f : ℕ) → f ≡ f * (if v == v then 1 else f)
    here f = rw (eq-eqb v v refl) (omega arith)

pub all-positive : (a : SymmetricAuction) → IsAuction a → 0 < all_weights a
all-positive a h = product_to-positive (value_count a) (slice_index a.weights) (λ k b. (h.weight k b).0)

pub nonneg_pos : (n : ℕ) → pos 0 ≤ℤ pos n
nonneg_pos n = omega (arith, ints)

-- ---- what bidders have together

pub mean-gain : (a : SymmetricAuction) (win pay : ℕ → List ℕ → ℤ) (v w : ℕ) → mean a (gain_at a win pay v) w ≡ number_at a.values v *ℤ mean a win w -ℤ mean a pay w
mean-gain a win pay v w =
    let n = a.bidders in
    let s = general_of a in
    let c = number_at a.values v in
    ap (λ z. pos (other_weights a w) *ℤ z)
    (sum_to-same n _ _ (λ i b. given-sub s i w c (win i) (pay i))
    ∙ sum_to-sub n (λ i. c *ℤ weighted_given s i w (win i)) (λ i. weighted_given s i w (pay i))
    ∙ ap (λ z. z -ℤ sum_given a pay w) (sum_to-*ℤ n c (λ i. weighted_given s i w (win i))))
    ∙ parts (pos (other_weights a w)) c (sum_given a win w) (sum_given a pay w)
  where
    parts : (o c x y : ℤ) → o *ℤ (c *ℤ x -ℤ y) ≡ c *ℤ (o *ℤ x) -ℤ o *ℤ y
    parts o c x y = simp ring (omega (arith, linear))

-- ---- truth and taking part

pub averaged-truth : (a : SymmetricAuction) (units : ℕ) (den : ℤ) (win pay : ℕ → List ℕ → ℤ) (v w : ℕ) → IsAuction a → IsAdmissibleOnAverage a units den win pay → v < value_count a → w < value_count a
    → mean a (gain_at a win pay v) w ≤ℤ mean a (gain_at a win pay v) v
averaged-truth a units den win pay v w shaped average l k =
    let n = a.bidders in
    let s = general_of a in
    let g = gain_at a win pay v in
    let f = λ (u : ℕ). pos (slice_index a.weights u) in
    let told = sum_to n (λ i. weighted_given s i v (λ t. g i (replaced t i w))) in
    let same : f w *ℤ told ≡ f v *ℤ sum_given a g w =
    sym (sum_to-*ℤ n (f w) (λ i. weighted_given s i v (λ t. g i (replaced t i w))))
    ∙ sum_to-same n _ (λ i. f v *ℤ weighted_given s i w (g i)) (λ i b. given-replaced a i v w (g i) b l k)
    ∙ sum_to-*ℤ n (f v) (λ i. weighted_given s i w (g i)) in
    let less : told ≤ℤ sum_given a g v = sum_to-le n _ _ (λ i b. average.truthful i v w b l k) in
    product-le (f v) (f w) (pos (other_weights a v)) (pos (other_weights a w)) (pos (all_weights a)) told (sum_given a g w) (sum_given a g v)
    (positive_pos _ (shaped.weight v l).0) (positive_pos _ (shaped.weight w k).0) (nonneg_pos (all_weights a)) (others-all a v l) (others-all a w k) same less
  where
    product-le : (fv fw ov ow all told there here : ℤ) → pos 0 <ℤ fv → pos 0 <ℤ fw → pos 0 ≤ℤ all → ov *ℤ fv ≡ all → ow *ℤ fw ≡ all → fw *ℤ told ≡ fv *ℤ there → told ≤ℤ here
        → (ow *ℤ there) ≤ℤ (ov *ℤ here)
    product-le fv fw ov ow all told there here p q r e d same less =
        let both : (all *ℤ (fw *ℤ told)) ≤ℤ (all *ℤ (fw *ℤ here)) = *ℤ-le all (fw *ℤ told) (fw *ℤ here) r (*ℤ-le fw told here (weak fw q) less) in
        let left : (fv *ℤ fw) *ℤ (ow *ℤ there) ≡ all *ℤ (fw *ℤ told) = first fv fw ow there ∙ ap₂ (λ x y. x *ℤ y) d (sym same) in
        let right : (fv *ℤ fw) *ℤ (ov *ℤ here) ≡ all *ℤ (fw *ℤ here) = second fv fw ov here ∙ ap (λ z. z *ℤ (fw *ℤ here)) e in
        le_from_*ℤ (fv *ℤ fw) (ow *ℤ there) (ov *ℤ here) (positive-*ℤ fv fw p q) (subst (λ z. z ≤ℤ ((fv *ℤ fw) *ℤ (ov *ℤ here))) (sym left) (subst (λ z. (all *ℤ (fw *ℤ told)) ≤ℤ z) (sym right) both))
      where
        weak : (z : ℤ) → pos 0 <ℤ z → pos 0 ≤ℤ z
        weak z h = omega (arith, ints)

        first : (x y o z : ℤ) → (x *ℤ y) *ℤ (o *ℤ z) ≡ (o *ℤ y) *ℤ (x *ℤ z)
        first x y o z = simp ring

        second : (x y o z : ℤ) → (x *ℤ y) *ℤ (o *ℤ z) ≡ (o *ℤ x) *ℤ (y *ℤ z)
        second x y o z = simp ring

pub averaged-rational : (a : SymmetricAuction) (units : ℕ) (den : ℤ) (win pay : ℕ → List ℕ → ℤ) (v : ℕ) → IsAdmissibleOnAverage a units den win pay → v < value_count a
    → pos 0 ≤ℤ mean a (gain_at a win pay v) v
averaged-rational a units den win pay v average l =
    nonneg-*ℤ (pos (other_weights a v)) (sum_given a (gain_at a win pay v) v) (nonneg_pos (other_weights a v)) (sum_to-nonneg a.bidders _ (λ i b. average.rational i v b l))

-- ---- the point

pub parts-of : (z : ℤ) → plus_part z -ℤ minus_part z ≡ z
parts-of (pos n) = omega (arith, ints)
parts-of (negsuc n) = omega (arith, ints)

plus-nonneg : (z : ℤ) → pos 0 ≤ℤ plus_part z
plus-nonneg (pos n) = nonneg_pos n
plus-nonneg (negsuc n) = nonneg_pos 0

minus-nonneg : (z : ℤ) → pos 0 ≤ℤ minus_part z
minus-nonneg (pos n) = nonneg_pos 0
minus-nonneg (negsuc n) = nonneg_pos (suc n)

below : (m n : ℕ) → m < n → nat_lt m n ≡ true
below m n h = grind (arith, nat_tests)

behind : (m n : ℕ) → nat_lt (n + m) n ≡ false
behind m n = grind (arith, nat_tests)

pub averages-win : (a : SymmetricAuction) (win pay : ℕ → List ℕ → ℤ) (v : ℕ) → v < value_count a → averages a win pay v ≡ mean a win v
averages-win a win pay v l = rw (below v (value_count a) l) refl

averages-plus : (a : SymmetricAuction) (win pay : ℕ → List ℕ → ℤ) (v : ℕ) → v < value_count a → averages a win pay (value_count a + v) ≡ plus_part (mean a pay v)
averages-plus a win pay v l =
    let k = value_count a in
    let back : k + v - k ≡ v = omega arith in
    rw (behind v k, below (k + v) (2 * k) (omega (arith, l))) (ap (λ u. plus_part (mean a pay u)) back)

averages-minus : (a : SymmetricAuction) (win pay : ℕ → List ℕ → ℤ) (v : ℕ) → v < value_count a → averages a win pay (2 * value_count a + v) ≡ minus_part (mean a pay v)
averages-minus a win pay v l =
    let k = value_count a in
    let back : 2 * k + v - 2 * k ≡ v = omega arith in
    let far : nat_lt (2 * k + v) k ≡ false = ap (λ m. nat_lt m k) (let e : 2 * k + v ≡ k + (k + v) = omega arith in e) ∙ behind (k + v) k in
    rw (far, behind v (2 * k)) (ap (λ u. minus_part (mean a pay u)) back)

pub averages-pay : (a : SymmetricAuction) (win pay : ℕ → List ℕ → ℤ) (v : ℕ) → v < value_count a → pay_in a (averages a win pay) v ≡ mean a pay v
averages-pay a win pay v l = ap₂ (λ x y. x -ℤ y) (averages-plus a win pay v l) (averages-minus a win pay v l) ∙ parts-of (mean a pay v)

pub averages-utility : (a : SymmetricAuction) (win pay : ℕ → List ℕ → ℤ) (v w : ℕ) → w < value_count a → utility_in a (averages a win pay) v w ≡ mean a (gain_at a win pay v) w
averages-utility a win pay v w l =
    ap₂ (λ x y. number_at a.values v *ℤ x -ℤ y) (averages-win a win pay w l) (averages-pay a win pay w l) ∙ sym (mean-gain a win pay v w)

-- no number of the point is negative
mean-nonneg : (a : SymmetricAuction) (units : ℕ) (den : ℤ) (win pay : ℕ → List ℕ → ℤ) (v : ℕ) → IsAdmissibleOnAverage a units den win pay → pos 0 ≤ℤ mean a win v
mean-nonneg a units den win pay v average =
    let s = general_of a in
    nonneg-*ℤ (pos (other_weights a v)) (sum_given a win v) (nonneg_pos (other_weights a v))
    (sum_to-nonneg a.bidders _
    (λ i b. total_by-nonneg (where_type i v (λ t. weight_of s t *ℤ win i t)) (profiles_of (sizes_of s)) (λ k d h. at i b (get_or (profiles_of (sizes_of s)) k d) (All-profiles_of (sizes_of s) k d h))))
  where
    at : (i : ℕ) → i < a.bidders → (t : List ℕ) → IsProfile (sizes_of (general_of a)) t → pos 0 ≤ℤ where_type i v (λ u. weight_of (general_of a) u *ℤ win i u) t
    at i b t p =
        chosen-nonneg (slice_index t i == v) (weight_of (general_of a) t *ℤ win i t)
        (nonneg-*ℤ (weight_of (general_of a) t) (win i t)
        (subst (λ z. pos 0 ≤ℤ z) (sym (weight_of-general a t (length-IsProfile (sizes_of (general_of a)) t p ∙ count-general a))) (nonneg_pos _)) (average.nonneg i t b p))

pub averages-nonneg : (a : SymmetricAuction) (units : ℕ) (den : ℤ) (win pay : ℕ → List ℕ → ℤ) (j : ℕ) → IsAdmissibleOnAverage a units den win pay → pos 0 ≤ℤ averages a win pay j
averages-nonneg a units den win pay j average =
    either (nat_lt j (value_count a)) (nat_lt j (2 * value_count a)) _ _ _ (mean-nonneg a units den win pay j average) (plus-nonneg (mean a pay (j - value_count a))) (minus-nonneg (mean a pay (j - 2 * value_count a)))
  where
    either : (s t : Bool) (x y z : ℤ) → pos 0 ≤ℤ x → pos 0 ≤ℤ y → pos 0 ≤ℤ z → pos 0 ≤ℤ (if s then x else (if t then y else z))
    either true t x y z p q r = p
    either false true x y z p q r = q
    either false false x y z p q r = r

-- ---- sets of values

pub times-parts : (a : SymmetricAuction) → pos (times_of a) ≡ (pos a.bidders *ℤ pos (total_weight a.weights ^ (a.bidders - 1))) *ℤ pos (all_weights a)
times-parts a =
    sym (pos-*ℤ-pos (a.bidders * total_weight a.weights ^ (a.bidders - 1)) (all_weights a))
    ∙ ap (λ z. z *ℤ pos (all_weights a)) (sym (pos-*ℤ-pos a.bidders (total_weight a.weights ^ (a.bidders - 1))))

-- what bidders with a value ask for is what they have together, so often
demand-of_mean : (a : SymmetricAuction) (win : ℕ → List ℕ → ℤ) (v : ℕ) → v < value_count a → pos (a.bidders * weight_given a v) *ℤ mean a win v ≡ pos (times_of a) *ℤ sum_given a win v
demand-of_mean a win v l =
    let n = pos a.bidders in
    let b = pos (total_weight a.weights ^ (a.bidders - 1)) in
    let f = pos (slice_index a.weights v) in
    let o = pos (other_weights a v) in
    let g = sum_given a win v in
    ap (λ z. z *ℤ (o *ℤ g)) (sym (pos-*ℤ-pos a.bidders (weight_given a v)) ∙ ap (λ z. n *ℤ z) (sym (pos-*ℤ-pos (slice_index a.weights v) (total_weight a.weights ^ (a.bidders - 1)))))
    ∙ parts n f b o g
    ∙ ap (λ z. ((n *ℤ b) *ℤ z) *ℤ g) (others-all a v l)
    ∙ ap (λ z. z *ℤ g) (sym (times-parts a))
  where
    parts : (n f b o g : ℤ) → (n *ℤ (f *ℤ b)) *ℤ (o *ℤ g) ≡ ((n *ℤ b) *ℤ (o *ℤ f)) *ℤ g
    parts n f b o g = simp ring

pub averaged-demands : (a : SymmetricAuction) (win pay : ℕ → List ℕ → ℤ) (set : ℕ) → demands_of a (averages a win pay) set ≡ pos (times_of a) *ℤ won_in a win set
averaged-demands a win pay set =
    let kinds = value_count a in
    let t = pos (times_of a) in
    sum_to-same kinds _ (λ v. t *ℤ (if member set v then sum_given a win v else pos 0))
    (λ v b.
    ap (λ z. if member set v then z else pos 0) (ap (λ z. pos (a.bidders * weight_given a v) *ℤ z) (averages-win a win pay v b) ∙ demand-of_mean a win v b)
    ∙ sym (chosen-times (member set v) t (sum_given a win v)))
    ∙ sum_to-*ℤ kinds t (λ v. if member set v then sum_given a win v else pos 0)
    ∙ ap (λ z. t *ℤ z) (by_bidders (sizes_of (general_of a)) a.bidders kinds set (λ i t. weight_of (general_of a) t *ℤ win i t) (count-general a) (kinds-general a))

pub averaged-cut : (a : SymmetricAuction) (units : ℕ) (den : ℤ) (win pay : ℕ → List ℕ → ℤ) (set : ℕ) → IsAdmissibleOnAverage a units den win pay
    → demands_of a (averages a win pay) set ≤ℤ ((pos (times_of a) *ℤ den) *ℤ right_by_counts a units set)
averaged-cut a units den win pay set average =
    let t = pos (times_of a) in
    let r = right_by_counts a units set in
    subst (λ z. z ≤ℤ ((t *ℤ den) *ℤ r)) (sym (averaged-demands a win pay set))
    (subst (λ z. (t *ℤ won_in a win set) ≤ℤ z) (sym (*ℤ_assoc t den r)) (*ℤ-le t (won_in a win set) (den *ℤ r) (nonneg_pos (times_of a)) (average.inside set)))

-- ---- the objective

-- the cost of the averages is what bidders add to the objective over all profiles by weight, times the product of all weights
pub averaged-cost : (a : SymmetricAuction) (win pay : ℕ → List ℕ → ℤ)
    → cost_of a (averages a win pay)
    ≡ pos (all_weights a)
    *ℤ sum_to (value_count a) (λ v. sum_to a.bidders (λ i. surplus_of a v *ℤ weighted_given (general_of a) i v (win i) +ℤ a.revenue *ℤ weighted_given (general_of a) i v (pay i)))
averaged-cost a win pay =
    let n = a.bidders in
    let s = general_of a in
    let r = a.revenue in
    sum_to-same (value_count a) _ (λ v. pos (all_weights a) *ℤ sum_to n (λ i. surplus_of a v *ℤ weighted_given s i v (win i) +ℤ r *ℤ weighted_given s i v (pay i)))
    (λ v l.
    ap₂ (λ x y. pos (slice_index a.weights v) *ℤ (surplus_of a v *ℤ x +ℤ r *ℤ y)) (averages-win a win pay v l) (averages-pay a win pay v l)
    ∙ parts (pos (slice_index a.weights v)) (surplus_of a v) (pos (other_weights a v)) (sum_given a win v) r (sum_given a pay v)
    ∙ ap₂ (λ x y. x *ℤ y) (others-all a v l)
    (sym
    (sum_to-+ℤ n (λ i. surplus_of a v *ℤ weighted_given s i v (win i)) (λ i. r *ℤ weighted_given s i v (pay i))
    ∙ ap₂ (λ x y. x +ℤ y) (sum_to-*ℤ n (surplus_of a v) (λ i. weighted_given s i v (win i))) (sum_to-*ℤ n r (λ i. weighted_given s i v (pay i))))))
    ∙ sum_to-*ℤ (value_count a) (pos (all_weights a)) (λ v. sum_to n (λ i. surplus_of a v *ℤ weighted_given s i v (win i) +ℤ r *ℤ weighted_given s i v (pay i)))
  where
    parts : (f u o x r y : ℤ) → f *ℤ (u *ℤ (o *ℤ x) +ℤ r *ℤ (o *ℤ y)) ≡ (o *ℤ f) *ℤ (u *ℤ x +ℤ r *ℤ y)
    parts f u o x r y = simp ring
