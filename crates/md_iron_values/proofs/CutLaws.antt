-- The sets of the values from one on.
use Rattle.std.proofs.Common.{◌≡◌, ℕ, zero, suc, ◌<◌, ◌≤◌, true, false, nat_lt, if◌then◌else◌, inl, inr, refl, ap, subst, ◌∙◌, arith, lt-ltb, le-ltb}
use Rattle.std.proofs.lemmas.Bool.{cases_lt}
use Rattle.std.proofs.lemmas.Nat.Bits.{bit_at_mask_below, bit_at_mask_inside}
use Rattle.md_math.specs.Sets.{member}
use Rattle.md_iron_values.specs.Cuts.{set_from}
use Rattle.md_iron_values.specs.Weights.{weight_before}
use Rattle.md_iron_values.proofs.WeightLaws.{weight_before-same}

pub member-from : (kinds s v : ℕ) → s ≤ v → v < kinds → member (set_from kinds s) v ≡ true
unfolding member
member-from kinds s v l b = rw (bit_at_mask_inside s kinds v l b) refl

pub member-below : (kinds s v : ℕ) → v < s → member (set_from kinds s) v ≡ false
unfolding member
member-below kinds s v l = rw (bit_at_mask_below s kinds v l) refl

-- the weight of the values below one, and nothing of the others
pub weight-head : (g : ℕ → ℕ) (s k : ℕ) → s ≤ k → weight_before (λ v. if nat_lt v s then g v else 0) k ≡ weight_before g s
weight-head g s zero l =
    let same : 0 ≡ s = omega (arith, l) in
    subst (λ m. 0 ≡ weight_before g m) same refl
weight-head g s (suc k) l = elim (cases_lt k s) [
  | inl h ↦
      let same : suc k ≡ s = omega (arith, l, h) in
      weight_before-same (λ v. if nat_lt v s then g v else 0) g (suc k) (λ v b. rw (lt-ltb v s (omega (arith, b, h))) refl) ∙ ap (weight_before g) same
  | inr h ↦
      let last : (if nat_lt k s then g k else 0) ≡ 0 = rw (le-ltb k s h) refl in
      omega (arith, weight-head g s k h, last)
]
