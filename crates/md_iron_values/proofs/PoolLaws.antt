-- Where the pools of values begin and end.
use Rattle.std.proofs.Common.{◌≡◌, ◌⊎◌, ℕ, zero, suc, ◌+◌, ◌<◌, ◌≤◌, ℤ, ◌*ℤ◌, ◌≤ℤ◌, inl, inr, refl, subst, arith}
use Rattle.std.proofs.lemmas.Bool.{cases_lt}
use Rattle.md_iron_values.specs.Pools.{Pools, IsPooled, over_pool}

-- the next value begins a pool, or it is in the same one, and both buy
pub next-pool : (kinds : ℕ) (weight sum : ℕ → ℤ) (pools : Pools) → IsPooled kinds weight sum pools → (j : ℕ) → suc j < kinds
    → ((pools.stop j ≡ suc j) × (pools.first (suc j) ≡ suc j)) ⊎ ((pools.reserve ≤ j) × (pools.first (suc j) ≡ pools.first j) × (pools.stop (suc j) ≡ pools.stop j))
next-pool kinds weight sum pools p j b =
    let next : j + 1 ≡ suc j = omega arith in
    let (low, high, inside) = p.place (suc j) b in
    let either : ((pools.stop j ≡ suc j) × (pools.first (suc j) ≡ suc j)) ⊎ ((pools.first (suc j) ≡ pools.first j) × (pools.stop (suc j) ≡ pools.stop j)) =
    subst (λ m. ((pools.stop j ≡ m) × (pools.first m ≡ m)) ⊎ ((pools.first m ≡ pools.first j) × (pools.stop m ≡ pools.stop j))) next (p.join j (omega (arith, b))) in
    elim either [
      | inl e ↦ inl e
      | inr e ↦ elim (cases_lt j pools.reserve) [
        | inl l ↦ (let end : pools.stop j ≡ j + 1 = (p.alone j l).1 in absurd (omega (arith, end, e.1, high)))
        | inr g ↦ inr (g, e.0, e.1)
      ]
    ]

-- the first value that buys begins a pool
pub reserve-begins : (kinds : ℕ) (weight sum : ℕ → ℤ) (pools : Pools) → IsPooled kinds weight sum pools → pools.reserve < kinds → pools.first pools.reserve ≡ pools.reserve
reserve-begins kinds weight sum pools p b = at pools.reserve refl b
  where
    at : (j : ℕ) → pools.reserve ≡ j → j < kinds → pools.first j ≡ j
    at zero e l = (let (low, high, inside) = p.place 0 l in omega (arith, low))
    at (suc i) e l = elim (next-pool kinds weight sum pools p i l) [
      | inl h ↦ h.1
      | inr h ↦ (let (buys, start, end) = h in absurd (omega (arith, e, buys)))
    ]

-- the pool of the last value ends behind it
pub last-stop : (kinds : ℕ) (weight sum : ℕ → ℤ) (pools : Pools) → IsPooled kinds weight sum pools → (j : ℕ) → suc j ≡ kinds → pools.stop j ≡ suc j
last-stop kinds weight sum pools p j e = (let (low, high, inside) = p.place j (omega (arith, e)) in omega (arith, e, high, inside))

-- the next pool rises at least as steeply
pub next-rise : (kinds : ℕ) (weight sum : ℕ → ℤ) (pools : Pools) → IsPooled kinds weight sum pools → (j : ℕ) → suc j < kinds → pools.reserve ≤ j → pools.stop j ≡ suc j
    → (over_pool sum pools j *ℤ over_pool weight pools (suc j)) ≤ℤ (over_pool sum pools (suc j) *ℤ over_pool weight pools j)
next-rise kinds weight sum pools p j b buys e =
    let next : j + 1 ≡ suc j = omega arith in
    subst (λ m. (over_pool sum pools j *ℤ over_pool weight pools m) ≤ℤ (over_pool sum pools m *ℤ over_pool weight pools j)) next (p.rise j buys (omega (arith, b)) (omega (arith, e)))
