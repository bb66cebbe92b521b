-- A bidder's value in the place of another one, in sums over all profiles: the prior is a product.
use Rattle.std.proofs.Common.{◌≡◌, ℕ, zero, suc, ◌*◌, ◌<◌, ℤ, pos, ◌*ℤ◌, List, [], ◌∷◌, length, sym, ap, ◌∙◌, subst, arith}
use Rattle.std.specs.Prelude.{slice_index}
use Rattle.std.proofs.Math.IntN.{pos-*ℤ-pos}
use Rattle.md_math.specs.Products.{product_by}
use Rattle.md_math.proofs.Ring.{*ℤ_assoc}
use Rattle.md_space.specs.Profiles.{IsProfile, replaced}
use Rattle.md_space.proofs.Ranks.{length-IsProfile, replaced-IsProfile}
use Rattle.md_space.proofs.TypeSums.{total_given-same, total_given-*ℤ, swapped}
use Rattle.md_setting.specs.Meaning.{sizes_of, weight_of}
use Rattle.md_setting.specs.Auction.{SymmetricAuction, value_count}
use Rattle.md_setting.specs.General.{general_of}
use Rattle.md_setting.proofs.GeneralLaws.{weight_of-general}
use Rattle.md_mech.specs.Utility.{weighted_given}
use Rattle.md_border.proofs.ByValues.{count-general, kinds-general}

-- ---- one profile

product-replaced : (f : ℕ → ℕ) (t : List ℕ) (i b : ℕ) → i < length t → product_by f (replaced t i b) * f (slice_index t i) ≡ product_by f t * f b
product-replaced f [] i b h = absurd (omega (arith, h))
product-replaced f (x ∷ t) zero b h = turned (f b) (f x) (product_by f t)
  where
    turned : (y z p : ℕ) → (y * p) * z ≡ (z * p) * y
    turned y z p = omega arith
product-replaced f (x ∷ t) (suc i) b h =
    within (f x) (product_by f (replaced t i b)) (f (slice_index t i)) (product_by f t) (f b) (product-replaced f t i b (omega (arith, h)))
  where
    within : (x p y q z : ℕ) → p * y ≡ q * z → (x * p) * y ≡ (x * q) * z
    within x p y q z e = omega (arith, ap (λ m. x * m) e)

-- the weight of the one value times that of the profile with the other
weight-replaced : (a : SymmetricAuction) (t : List ℕ) (i v w : ℕ) → IsProfile (sizes_of (general_of a)) t → i < a.bidders → v < value_count a → slice_index t i ≡ w
    → pos (slice_index a.weights w) *ℤ weight_of (general_of a) (replaced t i v) ≡ pos (slice_index a.weights v) *ℤ weight_of (general_of a) t
weight-replaced a t i v w p b l e =
    let f = slice_index a.weights in
    let sizes = sizes_of (general_of a) in
    let long : length t ≡ a.bidders = length-IsProfile sizes t p ∙ count-general a in
    let other : length (replaced t i v) ≡ a.bidders =
    length-IsProfile sizes (replaced t i v) (replaced-IsProfile sizes t i v p (subst (λ k. v < k) (sym (kinds-general a i b)) l)) ∙ count-general a in
    let products : product_by f (replaced t i v) * f w ≡ product_by f t * f v =
    ap (λ u. product_by f (replaced t i v) * f u) (sym e) ∙ product-replaced f t i v (omega (arith, long, b)) in
    ap (λ z. pos (f w) *ℤ z) (weight_of-general a (replaced t i v) other)
    ∙ pos-*ℤ-pos (f w) (product_by f (replaced t i v))
    ∙ ap pos (turned (f w) (product_by f (replaced t i v)) (product_by f t) (f v) products)
    ∙ sym (pos-*ℤ-pos (f v) (product_by f t))
    ∙ ap (λ z. pos (f v) *ℤ z) (sym (weight_of-general a t long))
  where
    turned : (x p q y : ℕ) → p * x ≡ q * y → x * p ≡ y * q
    turned x p q y e = omega (arith, e)

-- ---- all profiles

-- What h gives on average over a bidder's profiles with one value, where it tells another one, is what h gives on average over
-- its profiles with the other one.
pub given-replaced : (a : SymmetricAuction) (i v w : ℕ) (h : List ℕ → ℤ) → i < a.bidders → v < value_count a → w < value_count a
    → pos (slice_index a.weights w) *ℤ weighted_given (general_of a) i v (λ t. h (replaced t i w)) ≡ pos (slice_index a.weights v) *ℤ weighted_given (general_of a) i w h
given-replaced a i v w h b l k =
    let s = general_of a in
    let sizes = sizes_of s in
    let f = λ (u : ℕ). pos (slice_index a.weights u) in
    let kinds = kinds-general a i b in
    ap (λ z. f w *ℤ z)
    (sym (swapped sizes i v w (λ u t. weight_of s u *ℤ h t) (subst (λ n. i < n) (sym (count-general a)) b) (subst (λ n. v < n) (sym kinds) l) (subst (λ n. w < n) (sym kinds) k)))
    ∙ sym (total_given-*ℤ sizes i w (f w) (λ t. weight_of s (replaced t i v) *ℤ h t))
    ∙ total_given-same sizes i w (λ t. f w *ℤ (weight_of s (replaced t i v) *ℤ h t)) (λ t. f v *ℤ (weight_of s t *ℤ h t))
    (λ t p e.
    sym (*ℤ_assoc (f w) (weight_of s (replaced t i v)) (h t))
    ∙ ap (λ z. z *ℤ h t) (weight-replaced a t i v w p b l e)
    ∙ *ℤ_assoc (f v) (weight_of s t) (h t))
    ∙ total_given-*ℤ sizes i w (f v) (λ t. weight_of s t *ℤ h t)
