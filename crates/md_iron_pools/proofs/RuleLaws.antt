-- There is one choice of pools that the rule of ironing names.
use Rattle.std.proofs.Common.{◌≡◌, ◌⊎◌, inl, inr, ℕ, zero, suc, ◌+◌, ◌<◌, ◌≤◌, ℤ, ◌≤ℤ◌, ◌<ℤ◌, arith, sym, subst, ◌∙◌}
use Rattle.std.proofs.lemmas.Bool.{cases_lt}
use Rattle.md_math.proofs.Ring.{linear}
use Rattle.md_iron_values.specs.Pools.{Pools, IsLow, IsPooled}
use Rattle.md_iron_values.proofs.PoolLaws.{next-pool, reserve-begins}
use Rattle.md_iron_pools.specs.ByRule.{IsHigher, IsPooledByRule, AreSamePools}
use Rattle.md_iron_pools.proofs.PooledTo.{IsReserve, IsExtended, IsPooledTo, IsPooled-end}

-- ---- one choice

no-sooner : (p q : ℤ) → p ≤ℤ q → q <ℤ p → ⊥
no-sooner p q h k = omega (arith, linear)

-- a pool from s to e, with the lowest chord of all places and the first such one
record IsSoonest (k : ℕ) (weights sums : ℕ → ℤ) (s e : ℕ) : Type 0 where
  behind : s < e
  inside : e ≤ k
  low : (x : ℕ) → s ≤ x → x ≤ k → IsLow weights sums s e x
  higher : (x : ℕ) → s < x → x < e → IsHigher weights sums s e x

same-stop : (k : ℕ) (weights sums : ℕ → ℤ) (s e f : ℕ) → IsSoonest k weights sums s e → IsSoonest k weights sums s f → e ≡ f
same-stop k weights sums s e f one other = elim (cases_lt e f) [
  | inl l ↦ absurd (no-sooner _ _ (one.low f (omega (arith, other.behind)) other.inside).low (other.higher e one.behind l).higher)
  | inr g ↦ elim (cases_lt f e) [
    | inl l ↦ absurd (no-sooner _ _ (other.low e (omega (arith, one.behind)) one.inside).low (one.higher f other.behind l).higher)
    | inr h ↦ omega (arith, g, h)
  ]
]

soonest-at : (k : ℕ) (weights sums : ℕ → ℤ) (pools : Pools) → IsPooledByRule k weights sums pools → (j s : ℕ) → pools.reserve ≤ j → j < k → pools.first j ≡ s → IsSoonest k weights sums s (pools.stop j)
soonest-at k weights sums pools h j s l b e = subst (λ i. IsSoonest k weights sums i (pools.stop j)) e (record {
  behind = (let (low, high, inside) = h.pooled.place j b in omega (arith, low, high));
  inside = (let (low, high, inside) = h.pooled.place j b in inside);
  low = λ x m n. h.lowest j x l b m n;
  higher = λ x m n. h.soonest j x l b m n;
})

same-reserve : (k : ℕ) (weights sums : ℕ → ℤ) (one other : Pools) → IsPooledByRule k weights sums one → IsPooledByRule k weights sums other → one.reserve ≡ other.reserve
same-reserve k weights sums one other h g = elim (cases_lt one.reserve other.reserve) [
  | inl l ↦ absurd (no-sooner _ _ (g.pooled.least one.reserve h.pooled.inside) (h.last other.reserve l g.pooled.inside))
  | inr m ↦ elim (cases_lt other.reserve one.reserve) [
    | inl l ↦ absurd (no-sooner _ _ (h.pooled.least other.reserve g.pooled.inside) (g.last one.reserve l h.pooled.inside))
    | inr n ↦ omega (arith, m, n)
  ]
]

-- where both pools of a value begin at one place, they are the same
same-pool : (k : ℕ) (weights sums : ℕ → ℤ) (one other : Pools) → IsPooledByRule k weights sums one → IsPooledByRule k weights sums other
    → (j s : ℕ) → one.reserve ≤ j → other.reserve ≤ j → j < k → one.first j ≡ s → other.first j ≡ s → (one.first j ≡ other.first j) × (one.stop j ≡ other.stop j)
same-pool k weights sums one other h g j s l m b e f =
    (e ∙ sym f, same-stop k weights sums s (one.stop j) (other.stop j) (soonest-at k weights sums one h j s l b e) (soonest-at k weights sums other g j s m b f))

same-pools : (k : ℕ) (weights sums : ℕ → ℤ) (one other : Pools) → IsPooledByRule k weights sums one → IsPooledByRule k weights sums other → one.reserve ≡ other.reserve
    → (j : ℕ) → one.reserve ≤ j → j < k → (one.first j ≡ other.first j) × (one.stop j ≡ other.stop j)
same-pools k weights sums one other h g same zero l b =
    let (low, high, inside) = h.pooled.place 0 b in
    let (low', high', inside') = g.pooled.place 0 b in
    same-pool k weights sums one other h g 0 0 l (omega (arith, l, same)) b (omega (arith, low)) (omega (arith, low'))
same-pools k weights sums one other h g same (suc j) l b = elim (cases_lt j one.reserve) [
  | inl m ↦
      let at : one.reserve ≡ suc j = omega (arith, l, m) in
      let at' : other.reserve ≡ suc j = omega (arith, at, same) in
      same-pool k weights sums one other h g (suc j) (suc j) l (omega (arith, at')) b
      (begins one h.pooled at) (begins other g.pooled at')
  | inr m ↦ next (same-pools k weights sums one other h g same j m (omega (arith, b))) (next-pool k weights sums one h.pooled j b) (next-pool k weights sums other g.pooled j b)
]
  where
    begins : (pools : Pools) → IsPooled k weights sums pools → pools.reserve ≡ suc j → pools.first (suc j) ≡ suc j
    begins pools p at = subst (λ i. pools.first i ≡ i) at (reserve-begins k weights sums pools p (omega (arith, at, b)))

    next : (one.first j ≡ other.first j) × (one.stop j ≡ other.stop j)
        → ((one.stop j ≡ suc j) × (one.first (suc j) ≡ suc j)) ⊎ ((one.reserve ≤ j) × (one.first (suc j) ≡ one.first j) × (one.stop (suc j) ≡ one.stop j))
        → ((other.stop j ≡ suc j) × (other.first (suc j) ≡ suc j)) ⊎ ((other.reserve ≤ j) × (other.first (suc j) ≡ other.first j) × (other.stop (suc j) ≡ other.stop j))
        → (one.first (suc j) ≡ other.first (suc j)) × (one.stop (suc j) ≡ other.stop (suc j))
    next before (inl e) (inl f) = same-pool k weights sums one other h g (suc j) (suc j) l (omega (arith, l, same)) b e.1 f.1
    next before (inr e) (inr f) = (let (buys, start, end) = e in let (buys', start', end') = f in (start ∙ before.0 ∙ sym start', end ∙ before.1 ∙ sym end'))
    next before (inl e) (inr f) = (let (buys, start, end) = f in let (low, high, inside) = g.pooled.place (suc j) b in absurd (omega (arith, e.0, before.1, end, high)))
    next before (inr e) (inl f) = (let (buys, start, end) = e in let (low, high, inside) = h.pooled.place (suc j) b in absurd (omega (arith, f.0, before.1, end, high)))

-- pools that both are by the rule are the same
pub one-by_rule : (k : ℕ) (weights sums : ℕ → ℤ) (one other : Pools) → IsPooledByRule k weights sums one → IsPooledByRule k weights sums other → AreSamePools k one other
one-by_rule k weights sums one other h g = record {
  same_reserve = same;
  same_pool = λ j b. elim (cases_lt j one.reserve) [
    | inl l ↦ alone j (h.pooled.alone j l) (g.pooled.alone j (omega (arith, l, same)))
    | inr m ↦ same-pools k weights sums one other h g same j m b
  ];
}
  where
    same : one.reserve ≡ other.reserve
    same = same-reserve k weights sums one other h g

    alone : (j : ℕ) → (one.first j ≡ j) × (one.stop j ≡ j + 1) → (other.first j ≡ j) × (other.stop j ≡ j + 1) → (one.first j ≡ other.first j) × (one.stop j ≡ other.stop j)
    alone j e f = (e.0 ∙ sym f.0, e.1 ∙ sym f.1)

-- ---- pools of the first places, to which one more is added

-- each pool of a value before n that buys ends at the first place with its chord
pub record IsSoonestTo (weights sums : ℕ → ℤ) (z n : ℕ) (first stop : ℕ → ℕ) : Type 0 where
  pub higher : (j x : ℕ) → z ≤ j → j < n → first j < x → x < stop j → IsHigher weights sums (first j) (stop j) x

pub IsSoonestTo-start : (weights sums : ℕ → ℤ) (z : ℕ) (first stop : ℕ → ℕ) → IsSoonestTo weights sums z z first stop
IsSoonestTo-start weights sums z first stop = record { higher = λ j x l b c d. absurd (omega (arith, l, b)) }

pub IsSoonestTo-more : (weights sums : ℕ → ℤ) (z n e : ℕ) (first stop first' stop' : ℕ → ℕ) → IsSoonestTo weights sums z n first stop → ((x : ℕ) → n < x → x < e → IsHigher weights sums n e x)
    → IsExtended n e first stop first' stop' → IsSoonestTo weights sums z e first' stop'
IsSoonestTo-more weights sums z n e first stop first' stop' old new extended = record {
  higher = λ j x l b c d. elim (cases_lt j n) [
    | inl o ↦ by_names j x (first j) (stop j) c d (extended.kept j o) (λ m o'. old.higher j x l o m o')
    | inr g ↦ by_names j x n e c d (extended.new j g b) (λ m o'. new x m o')
  ];
}
  where
    by_names : (j x s t : ℕ) → first' j < x → x < stop' j → (first' j ≡ s) × (stop' j ≡ t) → (s < x → x < t → IsHigher weights sums s t x) → IsHigher weights sums (first' j) (stop' j) x
    by_names j x s t c d same higher = rw (same.0, same.1) (higher (omega (arith, same.0, c)) (omega (arith, same.1, d)))

pub IsPooledByRule-end : (k : ℕ) (weights sums : ℕ → ℤ) (n : ℕ) (pools : Pools) → n ≡ k → IsReserve k sums pools.reserve
    → IsPooledTo k weights sums pools.reserve n pools.first pools.stop → IsSoonestTo weights sums pools.reserve n pools.first pools.stop → IsPooledByRule k weights sums pools
IsPooledByRule-end k weights sums n pools e reserve h soonest = record {
  pooled = IsPooled-end k weights sums n pools e reserve h;
  last = reserve.last;
  lowest = λ j x l b c d. h.low j x l (omega (arith, b, e)) c d;
  soonest = λ j x l b c d. soonest.higher j x l (omega (arith, b, e)) c d;
}
