-- A type of an agent in the place of another one, in sums over all profiles: the agents' types are independent.
use Rattle.std.proofs.Common.{◌≡◌, ℕ, ◌-◌, ◌<◌, ℤ, ◌*ℤ◌, List, sym, ap, ap₂, ◌∙◌, arith, get_or-set_same}
use Rattle.std.specs.Prelude.{slice_index}
use Rattle.std.proofs.lemmas.List.{get_or-set_other}
use Rattle.md_math.proofs.Order.{*ℤ_cancel}
use Rattle.md_math.proofs.Ring.{ring, *ℤ_assoc}
use Rattle.md_space.specs.Profiles.{IsProfile, replaced}
use Rattle.md_space.proofs.Ranks.{length-IsProfile, replaced-IsProfile}
use Rattle.md_space.proofs.TypeSums.{total_given-same, total_given-*ℤ, swapped}
use Rattle.md_setting.specs.Setting.{GeneralSetting}
use Rattle.md_setting.specs.Meaning.{agent_count, sizes_of, weight_of, total_of, marginal_of}
use Rattle.md_setting.specs.Shaped.{IsShaped}
use Rattle.md_setting.proofs.MarginalLaws.{total-positive}
use Rattle.md_mech.specs.Utility.{weighted_given}
use Rattle.md_asym_sale.specs.Products.{product_below}
use Rattle.md_asym_sale.specs.Sale.{IsSale}
use Rattle.md_asym_sale.proofs.ProductLaws.{product_below-but, product_below-positive}
use Rattle.md_asym_sale.proofs.SaleLaws.{in-sizes}

-- ---- one profile

-- how likely the types of all agents at a profile are
abbrev likely : GeneralSetting → List ℕ → ℕ → ℤ
likely s t j = marginal_of s j (slice_index t j)

told : (s : GeneralSetting) (t : List ℕ) (i a : ℕ) → IsProfile (sizes_of s) t → i < agent_count s → slice_index (replaced t i a) i ≡ a
told s t i a p b = get_or-set_same t i a 0 (omega (arith, in-sizes s i b, length-IsProfile (sizes_of s) t p))

-- what the one type weighs times the weight of the profile with the other
pub weight-replaced : (s : GeneralSetting) (t : List ℕ) (i a b : ℕ) → IsSale s → IsShaped s → IsProfile (sizes_of s) t → i < agent_count s → a < slice_index (sizes_of s) i → slice_index t i ≡ b
    → marginal_of s i b *ℤ weight_of s (replaced t i a) ≡ marginal_of s i a *ℤ weight_of s t
weight-replaced s t i a b sale shaped p h l e =
    let n = agent_count s in
    let u = replaced t i a in
    let all = product_below (n - 1) (λ _. total_of s) in
    let products : product_below n (likely s u) *ℤ likely s t i ≡ product_below n (likely s t) *ℤ likely s u i =
    product_below-but n i (likely s u) (likely s t) h (λ j c d. ap (marginal_of s j) (get_or-set_other t i j a 0 d)) in
    *ℤ_cancel all (marginal_of s i b *ℤ weight_of s u) (marginal_of s i a *ℤ weight_of s t) (product_below-positive (n - 1) (λ _. total_of s) (λ j c. total-positive s shaped))
    (turned all (marginal_of s i b) (weight_of s u)
    ∙ ap₂ (λ x k. x *ℤ marginal_of s i k) (sale.independent u (replaced-IsProfile (sizes_of s) t i a p l)) (sym e)
    ∙ products
    ∙ ap₂ (λ x k. x *ℤ marginal_of s i k) (sym (sale.independent t p)) (told s t i a p h)
    ∙ sym (turned all (marginal_of s i a) (weight_of s t)))
  where
    turned : (x m w : ℤ) → x *ℤ (m *ℤ w) ≡ (w *ℤ x) *ℤ m
    turned x m w = simp ring

-- ---- all profiles

-- What h gives on average over an agent's profiles with one type, where it tells another one, is what h gives on average over
-- its profiles with the other one.
pub given-replaced : (s : GeneralSetting) (i a b : ℕ) (h : List ℕ → ℤ) → IsSale s → IsShaped s → i < agent_count s → a < slice_index (sizes_of s) i → b < slice_index (sizes_of s) i
    → marginal_of s i b *ℤ weighted_given s i a (λ t. h (replaced t i b)) ≡ marginal_of s i a *ℤ weighted_given s i b h
given-replaced s i a b h sale shaped c l k =
    let sizes = sizes_of s in
    let f = marginal_of s i in
    ap (λ z. f b *ℤ z) (sym (swapped sizes i a b (λ u t. weight_of s u *ℤ h t) (in-sizes s i c) l k))
    ∙ sym (total_given-*ℤ sizes i b (f b) (λ t. weight_of s (replaced t i a) *ℤ h t))
    ∙ total_given-same sizes i b (λ t. f b *ℤ (weight_of s (replaced t i a) *ℤ h t)) (λ t. f a *ℤ (weight_of s t *ℤ h t))
    (λ t p e.
    sym (*ℤ_assoc (f b) (weight_of s (replaced t i a)) (h t))
    ∙ ap (λ z. z *ℤ h t) (weight-replaced s t i a b sale shaped p c l e)
    ∙ *ℤ_assoc (f a) (weight_of s t) (h t))
    ∙ total_given-*ℤ sizes i b (f a) (λ t. weight_of s t *ℤ h t)
