-- The curve of virtual values is nowhere below its lower hull.
use Rattle.std.proofs.Common.{◌≡◌, ℕ, zero, suc, ◌<◌, ◌≤◌, ℤ, pos, ◌-ℤ◌, ◌*ℤ◌, ◌≤ℤ◌, ◌<ℤ◌, inl, inr, refl, sym, subst, arith, lt-ltb, le-ltb}
use Rattle.std.specs.Int.{int_min}
use Rattle.std.proofs.lemmas.Bool.{cases_lt}
use Rattle.std.proofs.lemmas.Int.{ints, int_min_is}
use Rattle.md_math.proofs.Ring.{linear}
use Rattle.md_iron_values.specs.Pools.{Pools, IsPooled, IsLow, over_pool}
use Rattle.md_iron_values.specs.Gaps.{least_to, gap_scale, gap_by}

-- ---- least places

min-left : (x y : ℤ) → int_min x y ≤ℤ x
min-left x y = omega (arith, ints, int_min_is x y)

min-right : (x y : ℤ) → int_min x y ≤ℤ y
min-right x y = omega (arith, ints, int_min_is x y)

min-above : (x y z : ℤ) → z ≤ℤ x → z ≤ℤ y → z ≤ℤ int_min x y
min-above x y z h k = omega (arith, ints, int_min_is x y)

pub least_to-next : (g : ℕ → ℤ) (j : ℕ) → least_to g (suc j) ≤ℤ least_to g j
least_to-next g j = min-left (least_to g j) (g (suc j))

pub least_to-le : (g : ℕ → ℤ) (j : ℕ) → least_to g j ≤ℤ g j
least_to-le g zero = omega (arith, linear)
least_to-le g (suc j) = min-right (least_to g j) (g (suc j))

pub least_to-above : (g : ℕ → ℤ) (j : ℕ) (z : ℤ) → ((x : ℕ) → x ≤ j → z ≤ℤ g x) → z ≤ℤ least_to g j
least_to-above g zero z h = h 0 (omega arith)
least_to-above g (suc j) z h = min-above (least_to g j) (g (suc j)) z (least_to-above g j z (λ x l. h x (omega (arith, l)))) (h (suc j) (omega arith))

-- ---- gaps

pub scale-none : (weight : ℕ → ℤ) (pools : Pools) (j : ℕ) → j < pools.reserve → gap_scale weight pools j ≡ pos 1
scale-none weight pools j l = rw (lt-ltb j pools.reserve l) refl

pub scale-some : (weight : ℕ → ℤ) (pools : Pools) (j : ℕ) → pools.reserve ≤ j → gap_scale weight pools j ≡ over_pool weight pools j
scale-some weight pools j g = rw (le-ltb j pools.reserve g) refl

pub gap-none : (weight sum : ℕ → ℤ) (pools : Pools) (j : ℕ) → j < pools.reserve → gap_by weight sum pools j ≡ sum j -ℤ least_to sum j
gap-none weight sum pools j l = rw (lt-ltb j pools.reserve l) refl

pub gap-some : (weight sum : ℕ → ℤ) (pools : Pools) (j : ℕ) → pools.reserve ≤ j
    → gap_by weight sum pools j ≡ (sum j -ℤ sum (pools.first j)) *ℤ over_pool weight pools j -ℤ over_pool sum pools j *ℤ (weight j -ℤ weight (pools.first j))
gap-some weight sum pools j g = rw (le-ltb j pools.reserve g) refl

-- each pool has some weight
pub pool-weight : (kinds : ℕ) (weight sum : ℕ → ℤ) (pools : Pools) → IsPooled kinds weight sum pools → ((x y : ℕ) → x < y → y ≤ kinds → weight x <ℤ weight y) → (j : ℕ) → j < kinds → pos 0 <ℤ over_pool weight pools j
pool-weight kinds weight sum pools p up j b =
    let (low, high, inside) = p.place j b in
    let less : weight (pools.first j) <ℤ weight (pools.stop j) = up (pools.first j) (pools.stop j) (omega (arith, low, high)) inside in
    omega (arith, linear, less)

pub scale-positive : (kinds : ℕ) (weight sum : ℕ → ℤ) (pools : Pools) → IsPooled kinds weight sum pools → ((x y : ℕ) → x < y → y ≤ kinds → weight x <ℤ weight y) → (j : ℕ) → j < kinds → pos 0 <ℤ gap_scale weight pools j
scale-positive kinds weight sum pools p up j b = elim (cases_lt j pools.reserve) [
  | inl l ↦ subst (λ z. pos 0 <ℤ z) (sym (scale-none weight pools j l)) (let one : pos 0 <ℤ pos 1 = omega (arith, ints) in one)
  | inr g ↦ subst (λ z. pos 0 <ℤ z) (sym (scale-some weight pools j g)) (pool-weight kinds weight sum pools p up j b)
]

pub gap-nonneg : (kinds : ℕ) (weight sum : ℕ → ℤ) (pools : Pools) → IsPooled kinds weight sum pools → (j : ℕ) → j < kinds → pos 0 ≤ℤ gap_by weight sum pools j
gap-nonneg kinds weight sum pools p j b = elim (cases_lt j pools.reserve) [
  | inl l ↦ omega (arith, linear, gap-none weight sum pools j l, least_to-le sum j)
  | inr g ↦
      let (low, high, inside) = p.place j b in
      let above : IsLow weight sum (pools.first j) (pools.stop j) j = p.low j j g b low (omega (arith, high)) in
      omega (arith, linear, gap-some weight sum pools j g, above.low)
]
