-- Averages over the bidders of an auction are linear, and do not depend on the value in whose place a bidder tells another one.
use Rattle.std.proofs.Common.{◌≡◌, ℕ, zero, suc, ◌<◌, ℤ, pos, ◌+ℤ◌, ◌-ℤ◌, ◌*ℤ◌, ◌≤ℤ◌, ◌<ℤ◌, Bool, true, false, ◌==◌, if◌then◌else◌, List, get_or, sym, ap, ap₂, ◌∙◌, subst, arith}
use Rattle.std.specs.Prelude.{slice_index}
use Rattle.std.proofs.lemmas.Int.{ints}
use Rattle.std.proofs.Math.ListN.{replicate}
use Rattle.md_math.specs.Sums.{sum_to}
use Rattle.md_math.proofs.Order.{*ℤ_cancel, nonneg-*ℤ, positive-*ℤ, positive_pos}
use Rattle.md_math.proofs.Ring.{linear, ring, one-*ℤ}
use Rattle.md_math.proofs.SumLaws.{sum_to-same, sum_to-sub, sum_to-*ℤ, sum_to-nonneg}
use Rattle.md_math.proofs.TotalLaws.{total_by-nonneg}
use Rattle.md_space.specs.AllProfiles.{profiles_of}
use Rattle.md_space.specs.Profiles.{IsProfile, replaced}
use Rattle.md_space.proofs.InOrder.{All-profiles_of}
use Rattle.md_space.proofs.TypeSums.{total_given-same}
use Rattle.md_setting.specs.Meaning.{sizes_of, weight_of}
use Rattle.md_setting.specs.Auction.{SymmetricAuction, value_count}
use Rattle.md_setting.specs.AuctionShaped.{IsAuction}
use Rattle.md_setting.specs.General.{general_of}
use Rattle.md_setting.proofs.GeneralLaws.{sizes_of-general}
use Rattle.md_mech.specs.Utility.{weighted_given}
use Rattle.md_border.specs.Odds.{sum_given}
use Rattle.md_border.proofs.ByValues.{given-sub}
use Rattle.md_border.proofs.SideLaws.{profile-weight}
use Rattle.md_reduced.specs.Averages.{all_weights, other_weights, mean}
use Rattle.md_reduced.proofs.MeanLaws.{others-all}
use Rattle.md_reduced.proofs.Replacing.{given-replaced}
use Rattle.md_iron_values.specs.Odds.{pay_by}

nonneg_pos : (n : ℕ) → pos 0 ≤ℤ pos n
nonneg_pos n = omega (arith, ints)

-- ---- linear

-- of functions that are the same at each profile
pub mean-same : (a : SymmetricAuction) (f g : ℕ → List ℕ → ℤ) (v : ℕ) → ((i : ℕ) (t : List ℕ) → i < a.bidders → IsProfile (sizes_of (general_of a)) t → slice_index t i ≡ v → f i t ≡ g i t) → mean a f v ≡ mean a g v
mean-same a f g v h =
    let s = general_of a in
    ap (λ z. pos (other_weights a v) *ℤ z)
    (sum_to-same a.bidders _ _ (λ i b. total_given-same (sizes_of s) i v (λ t. weight_of s t *ℤ f i t) (λ t. weight_of s t *ℤ g i t) (λ t p e. ap (λ z. weight_of s t *ℤ z) (h i t b p e))))

pub mean-sub : (a : SymmetricAuction) (c : ℤ) (f g : ℕ → List ℕ → ℤ) (v : ℕ) → mean a (λ i t. c *ℤ f i t -ℤ g i t) v ≡ c *ℤ mean a f v -ℤ mean a g v
mean-sub a c f g v =
    let n = a.bidders in
    let s = general_of a in
    ap (λ z. pos (other_weights a v) *ℤ z)
    (sum_to-same n _ _ (λ i b. given-sub s i v c (f i) (g i))
    ∙ sum_to-sub n (λ i. c *ℤ weighted_given s i v (f i)) (λ i. weighted_given s i v (g i))
    ∙ ap (λ z. z -ℤ sum_given a g v) (sum_to-*ℤ n c (λ i. weighted_given s i v (f i))))
    ∙ parts (pos (other_weights a v)) c (sum_given a f v) (sum_given a g v)
  where
    parts : (o c x y : ℤ) → o *ℤ (c *ℤ x -ℤ y) ≡ c *ℤ (o *ℤ x) -ℤ o *ℤ y
    parts o c x y = simp ring (omega (arith, linear))

pub mean-zero : (a : SymmetricAuction) (v : ℕ) → mean a (λ i t. pos 0) v ≡ pos 0
mean-zero a v = mean-sub a (pos 1) (λ i t. pos 0) (λ i t. pos 0) v ∙ none (mean a (λ i t. pos 0) v)
  where
    none : (z : ℤ) → pos 1 *ℤ z -ℤ z ≡ pos 0
    none z = omega (arith, linear, one-*ℤ z)

pub mean-nonneg : (a : SymmetricAuction) (f : ℕ → List ℕ → ℤ) (v : ℕ) → ((i : ℕ) (t : List ℕ) → i < a.bidders → IsProfile (sizes_of (general_of a)) t → pos 0 ≤ℤ f i t) → pos 0 ≤ℤ mean a f v
mean-nonneg a f v h =
    let s = general_of a in
    nonneg-*ℤ (pos (other_weights a v)) (sum_given a f v) (nonneg_pos (other_weights a v))
    (sum_to-nonneg a.bidders _ (λ i b. total_by-nonneg _ (profiles_of (sizes_of s)) (λ k d l. one i (get_or (profiles_of (sizes_of s)) k d) b (All-profiles_of (sizes_of s) k d l))))
  where
    chosen : (t : Bool) (z : ℤ) → pos 0 ≤ℤ z → pos 0 ≤ℤ (if t then z else pos 0)
    chosen true z l = l
    chosen false z l = nonneg_pos 0

    one : (i : ℕ) (t : List ℕ) → i < a.bidders → IsProfile (sizes_of (general_of a)) t → pos 0 ≤ℤ (if slice_index t i == v then weight_of (general_of a) t *ℤ f i t else pos 0)
    one i t b p =
        let profile : IsProfile (replicate a.bidders (value_count a)) t = subst (λ sizes. IsProfile sizes t) (sizes_of-general a) p in
        let heavy : pos 0 ≤ℤ weight_of (general_of a) t = subst (λ z. pos 0 ≤ℤ z) (sym (profile-weight a t profile)) (nonneg_pos _) in
        chosen (slice_index t i == v) (weight_of (general_of a) t *ℤ f i t) (nonneg-*ℤ (weight_of (general_of a) t) (f i t) heavy (h i t b p))

pub mean-le : (a : SymmetricAuction) (f g : ℕ → List ℕ → ℤ) (v : ℕ) → ((i : ℕ) (t : List ℕ) → i < a.bidders → IsProfile (sizes_of (general_of a)) t → f i t ≤ℤ g i t) → mean a f v ≤ℤ mean a g v
mean-le a f g v h =
    let more : pos 0 ≤ℤ mean a (λ i t. pos 1 *ℤ g i t -ℤ f i t) v = mean-nonneg a (λ i t. pos 1 *ℤ g i t -ℤ f i t) v (λ i t b p. (let less = h i t b p in omega (arith, linear, one-*ℤ (g i t), less))) in
    omega (arith, linear, more, mean-sub a (pos 1) g f v, one-*ℤ (mean a g v))

-- ---- another value in the place of one

pub mean-told : (a : SymmetricAuction) (f : ℕ → List ℕ → ℤ) (v w : ℕ) → IsAuction a → v < value_count a → w < value_count a → mean a (λ i t. f i (replaced t i w)) v ≡ mean a f w
mean-told a f v w shaped l k =
    let n = a.bidders in
    let s = general_of a in
    let weight = λ (u : ℕ). pos (slice_index a.weights u) in
    let told = sum_to n (λ i. weighted_given s i v (λ t. f i (replaced t i w))) in
    let same : weight w *ℤ told ≡ weight v *ℤ sum_given a f w =
    sym (sum_to-*ℤ n (weight w) (λ i. weighted_given s i v (λ t. f i (replaced t i w))))
    ∙ sum_to-same n _ (λ i. weight v *ℤ weighted_given s i w (f i)) (λ i b. given-replaced a i v w (f i) b l k)
    ∙ sum_to-*ℤ n (weight v) (λ i. weighted_given s i w (f i)) in
    cancelled (weight v) (weight w) (pos (other_weights a v)) (pos (other_weights a w)) (pos (all_weights a)) told (sum_given a f w)
    (positive_pos _ (shaped.weight v l).0) (positive_pos _ (shaped.weight w k).0) (others-all a v l) (others-all a w k) same
  where
    cancelled : (fv fw ov ow all told there : ℤ) → pos 0 <ℤ fv → pos 0 <ℤ fw → ov *ℤ fv ≡ all → ow *ℤ fw ≡ all → fw *ℤ told ≡ fv *ℤ there → ov *ℤ told ≡ ow *ℤ there
    cancelled fv fw ov ow all told there p q e d same =
        *ℤ_cancel (fv *ℤ fw) (ov *ℤ told) (ow *ℤ there) (positive-*ℤ fv fw p q)
        (first fv fw ov told ∙ ap₂ (λ x y. x *ℤ y) e same ∙ ap (λ x. x *ℤ (fv *ℤ there)) (sym d) ∙ second fv fw ow there)
      where
        first : (x y o z : ℤ) → (x *ℤ y) *ℤ (o *ℤ z) ≡ (o *ℤ x) *ℤ (y *ℤ z)
        first x y o z = simp ring

        second : (x y o z : ℤ) → (o *ℤ y) *ℤ (x *ℤ z) ≡ (x *ℤ y) *ℤ (o *ℤ z)
        second x y o z = simp ring

-- ---- payments by functions of values

-- the average payment is the payment by the averages
pub mean-pay : (a : SymmetricAuction) (values : ℕ → ℤ) (f : ℕ → ℕ → List ℕ → ℤ) (v w : ℕ) → mean a (λ i t. pay_by values (λ u. f u i t) w) v ≡ pay_by values (λ u. mean a (f u) v) w
mean-pay a values f v zero =
    mean-same a _ (λ i t. values 0 *ℤ f 0 i t -ℤ pos 0) v (λ i t b p e. first (values 0) (f 0 i t))
    ∙ mean-sub a (values 0) (f 0) (λ i t. pos 0) v
    ∙ ap (λ z. values 0 *ℤ mean a (f 0) v -ℤ z) (mean-zero a v)
    ∙ sym (first (values 0) (mean a (f 0) v))
  where
    first : (c x : ℤ) → pos 0 +ℤ c *ℤ x ≡ c *ℤ x -ℤ pos 0
    first c x = omega (arith, linear)
mean-pay a values f v (suc w) =
    let c = values (suc w) in
    let before = λ (i : ℕ) (t : List ℕ). pay_by values (λ u. f u i t) w in
    let back = λ (i : ℕ) (t : List ℕ). c *ℤ f w i t -ℤ before i t in
    mean-same a _ (λ i t. c *ℤ f (suc w) i t -ℤ back i t) v (λ i t b p e. next c (before i t) (f w i t) (f (suc w) i t))
    ∙ mean-sub a c (f (suc w)) back v
    ∙ ap (λ z. c *ℤ mean a (f (suc w)) v -ℤ z) (mean-sub a c (f w) before v ∙ ap (λ z. c *ℤ mean a (f w) v -ℤ z) (mean-pay a values f v w))
    ∙ sym (next c (pay_by values (λ u. mean a (f u) v) w) (mean a (f w) v) (mean a (f (suc w)) v))
  where
    next : (c p x y : ℤ) → p +ℤ c *ℤ (y -ℤ x) ≡ c *ℤ y -ℤ (c *ℤ x -ℤ p)
    next c p x y = simp ring (omega (arith, linear))
