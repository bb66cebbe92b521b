-- The reserve and the ends of pools are the same by sums that are the same.
use Rattle.std.proofs.Common.{◌≡◌, ℕ, ◌≤◌, ℤ, ◌-ℤ◌, ◌*ℤ◌, ◌≤ℤ◌, ◌<ℤ◌, ap₂, subst, arith}
use Rattle.md_math.specs.LexOrder.{IsPairNonNegative, IsPairPositive}
use Rattle.md_list.specs.ByRule.{growth, IsReserve, IsPoolEnd}

growth-same : (n : ℕ) (f g : ℕ → ℤ) → ((x : ℕ) → x ≤ n → f x ≡ g x) → (x y : ℕ) → x ≤ n → y ≤ n → growth f x y ≡ growth g x y
growth-same n f g same x y b c = ap₂ (λ u v. u -ℤ v) (same y c) (same x b)

pub reserve-same : (n : ℕ) (gain benefit gain' benefit' : ℕ → ℤ) (z : ℕ) → ((x : ℕ) → x ≤ n → gain x ≡ gain' x) → ((x : ℕ) → x ≤ n → benefit x ≡ benefit' x)
    → IsReserve n gain benefit z → IsReserve n gain' benefit' z
reserve-same n gain benefit gain' benefit' z gains benefits h = record {
  inside = h.inside;
  least = λ x b.
      subst (λ u. IsPairNonNegative u (growth benefit' z x)) (growth-same n gain gain' gains z x h.inside b)
      (subst (λ v. IsPairNonNegative (growth gain z x) v) (growth-same n benefit benefit' benefits z x h.inside b) (h.least x b));
  last = λ x l b.
      subst (λ u. IsPairPositive u (growth benefit' z x)) (growth-same n gain gain' gains z x h.inside b)
      (subst (λ v. IsPairPositive (growth gain z x) v) (growth-same n benefit benefit' benefits z x h.inside b) (h.last x l b));
}

pub pool-same : (n : ℕ) (weight gain weight' gain' : ℕ → ℤ) (first stop : ℕ) → ((x : ℕ) → x ≤ n → weight x ≡ weight' x) → ((x : ℕ) → x ≤ n → gain x ≡ gain' x)
    → IsPoolEnd n weight gain first stop → IsPoolEnd n weight' gain' first stop
pool-same n weight gain weight' gain' first stop weights gains h = record {
  some = h.some;
  inside = h.inside;
  least = λ x l b. by_le (products x b).0 (products x b).1 (h.least x l b);
  soonest = λ x l b. by_lt (products x (omega (arith, b, h.inside))).0 (products x (omega (arith, b, h.inside))).1 (h.soonest x l b);
}
  where
    from : first ≤ n
    from = omega (arith, h.some, h.inside)

    products : (x : ℕ) → x ≤ n → (growth gain first stop *ℤ growth weight first x ≡ growth gain' first stop *ℤ growth weight' first x)
        × (growth gain first x *ℤ growth weight first stop ≡ growth gain' first x *ℤ growth weight' first stop)
    products x b = (
      ap₂ (λ u v. u *ℤ v) (growth-same n gain gain' gains first stop from h.inside) (growth-same n weight weight' weights first x from b),
      ap₂ (λ u v. u *ℤ v) (growth-same n gain gain' gains first x from b) (growth-same n weight weight' weights first stop from h.inside),
    )

    by_le : {u v y z : ℤ} → u ≡ y → v ≡ z → u ≤ℤ v → y ≤ℤ z
    by_le {u} {v} {y} {z} e d l = subst (λ q. q ≤ℤ z) e (subst (λ q. u ≤ℤ q) d l)

    by_lt : {u v y z : ℤ} → u ≡ y → v ≡ z → u <ℤ v → y <ℤ z
    by_lt {u} {v} {y} {z} e d l = subst (λ q. q <ℤ z) e (subst (λ q. u <ℤ q) d l)
