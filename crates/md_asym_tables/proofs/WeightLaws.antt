-- The weights of the profiles of a sale, none of which is 0, and their product.
use Rattle.std.proofs.Common.{◌≡◌, ℕ, ◌+◌, ◌-◌, ◌<◌, ℤ, pos, ◌*ℤ◌, ◌≤ℤ◌, ◌<ℤ◌, ◌==◌, if◌then◌else◌, List, slice_index, sym, ap, ap₂, ◌∙◌, subst, arith, inl, inr}
use Rattle.std.proofs.lemmas.Int.{ints}
use Rattle.md_math.proofs.BoundedTests.{true_or_false}
use Rattle.md_math.proofs.Order.{lt_or_same_or_gt}
use Rattle.md_math.proofs.Ring.{zero-*ℤ}
use Rattle.md_space.specs.Profiles.{IsProfile, profile_count, profile_at}
use Rattle.md_space.proofs.Ranks.{profile_at-IsProfile, report-below}
use Rattle.md_setting.specs.Setting.{GeneralSetting}
use Rattle.md_setting.specs.Meaning.{agent_count, sizes_of, weight_of, marginal_of, total_of}
use Rattle.md_setting.specs.Shaped.{IsShaped}
use Rattle.md_asym_sale.specs.Products.{product_below}
use Rattle.md_asym_sale.specs.Sale.{IsSale}
use Rattle.md_asym_sale.proofs.ProductLaws.{product_below-positive, product_below-all}
use Rattle.md_asym_sale.proofs.SaleLaws.{in-sizes}
use Rattle.md_asym_tables.specs.Mechanisms.{weight_at, all_weights, other_weights}

-- independent types, each of which is likely, make each profile likely
pub weight-positive : (s : GeneralSetting) (t : List ℕ) → IsSale s → IsShaped s → IsProfile (sizes_of s) t → pos 0 <ℤ weight_of s t
weight-positive s t sale shaped p =
    factor (weight_of s t) (product_below (agent_count s - 1) (λ _. total_of s)) (shaped.weight t p).nonneg
    (subst (λ z. pos 0 <ℤ z) (sym (sale.independent t p))
    (product_below-positive (agent_count s) (λ i. marginal_of s i (slice_index t i)) (λ i b. shaped.marginal i (slice_index t i) b (report-below (sizes_of s) t i p (in-sizes s i b)))))
  where
    factor : (w f : ℤ) → pos 0 ≤ℤ w → pos 0 <ℤ (w *ℤ f) → pos 0 <ℤ w
    factor w f l h = elim (lt_or_same_or_gt (pos 0) w) [
      | inl some ↦ some
      | inr (inl none) ↦ (let nothing : w *ℤ f ≡ pos 0 = ap (λ z. z *ℤ f) (sym none) ∙ zero-*ℤ f in absurd (omega (arith, ints, h, nothing)))
      | inr (inr less) ↦ absurd (omega (arith, ints, l, less))
    ]

pub all-positive : (s : GeneralSetting) → IsSale s → IsShaped s → pos 0 <ℤ all_weights s
all-positive s sale shaped =
    product_below-positive (profile_count (sizes_of s)) (weight_at s) (λ r b. weight-positive s (profile_at (sizes_of s) r) sale shaped (profile_at-IsProfile (sizes_of s) r b))

pub others-positive : (s : GeneralSetting) (r : ℕ) → IsSale s → IsShaped s → pos 0 <ℤ other_weights s r
others-positive s r sale shaped =
    product_below-positive (profile_count (sizes_of s)) _
    (λ q b. either q (weight-positive s (profile_at (sizes_of s) q) sale shaped (profile_at-IsProfile (sizes_of s) q b)))
  where
    either : (q : ℕ) → pos 0 <ℤ weight_at s q → pos 0 <ℤ (if q == r then pos 1 else weight_at s q)
    either q h = elim (true_or_false (q == r)) [ inl here ↦ rw here (omega (arith, ints)) | inr away ↦ rw away h ]

pub others-all : (s : GeneralSetting) (r : ℕ) → r < profile_count (sizes_of s) → other_weights s r *ℤ weight_at s r ≡ all_weights s
others-all s r b = product_below-all (profile_count (sizes_of s)) r (weight_at s) b
