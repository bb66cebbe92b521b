-- Searches for the lowest place of a curve, and for its lowest chord.
use Rattle.std.proofs.Common.{◌≡◌, ◌⊎◌, inl, inr, ℕ, zero, suc, ◌+◌, ◌<◌, ◌≤◌, ℤ, pos, ◌-ℤ◌, ◌≤ℤ◌, ◌<ℤ◌, refl, subst, arith}
use Rattle.std.proofs.lemmas.Bool.{cases_lt}
use Rattle.md_math.proofs.Order.{le_from_same, ≤ℤ_trans, ≤ℤ_antisymm, le_from_lt}
use Rattle.md_math.proofs.Ring.{linear}
use Rattle.md_iron_values.specs.Gaps.{least_to}
use Rattle.md_iron_values.specs.Pools.{IsLow}
use Rattle.md_iron_values.proofs.GapLaws.{least_to-above, least_to-le, least_to-next}
use Rattle.md_iron_pools.specs.ByRule.{IsHigher}
use Rattle.md_iron_pools.proofs.ChordLaws.{between, IsLow-first, IsLow-stop, IsLow-through, IsLow_from_IsHigher, IsHigher-through}
use Rattle.md_iron_pools.proofs.PooledTo.{IsRising}

-- ---- the lowest place

-- the last of the places before n at which the curve is lowest
pub record IsLowestBefore (n : ℕ) (sums : ℕ → ℤ) (z : ℕ) : Type 0 where
  pub inside : z < n
  pub least : (x : ℕ) → x < n → sums z ≤ℤ sums x
  pub last : (x : ℕ) → z < x → x < n → sums z <ℤ sums x

pub IsLowestBefore-start : (sums : ℕ → ℤ) → IsLowestBefore 1 sums 0
IsLowestBefore-start sums = record {
  inside = omega arith;
  least = λ x b. let e : 0 ≡ x = omega (arith, b) in subst (λ y. sums 0 ≤ℤ sums y) e (le_from_same _ _ refl);
  last = λ x l b. absurd (omega (arith, l, b));
}

last_or_before : (n x : ℕ) → x < n + 1 → (x < n) ⊎ (n ≡ x)
last_or_before n x b = elim (cases_lt x n) [ inl l ↦ inl l | inr g ↦ inr (omega (arith, b, g)) ]

pub IsLowestBefore-kept : (n : ℕ) (sums : ℕ → ℤ) (z : ℕ) → IsLowestBefore n sums z → sums z <ℤ sums n → IsLowestBefore (n + 1) sums z
IsLowestBefore-kept n sums z h higher = record {
  inside = omega (arith, h.inside);
  least = λ x b. elim (last_or_before n x b) [ inl l ↦ h.least x l | inr e ↦ subst (λ y. sums z ≤ℤ sums y) e (le_from_lt _ _ higher) ];
  last = λ x l b. elim (last_or_before n x b) [ inl m ↦ h.last x l m | inr e ↦ subst (λ y. sums z <ℤ sums y) e higher ];
}

pub IsLowestBefore-moved : (n : ℕ) (sums : ℕ → ℤ) (z : ℕ) → IsLowestBefore n sums z → sums n ≤ℤ sums z → IsLowestBefore (n + 1) sums n
IsLowestBefore-moved n sums z h lower = record {
  inside = omega arith;
  least = λ x b. elim (last_or_before n x b) [ inl l ↦ ≤ℤ_trans _ _ _ lower (h.least x l) | inr e ↦ subst (λ y. sums n ≤ℤ sums y) e (le_from_same _ _ refl) ];
  last = λ x l b. absurd (omega (arith, l, b));
}

-- ---- the lowest chord

-- of the places behind s and before n, the first one whose chord from s is lowest
pub record IsLowestChord (n : ℕ) (weights sums : ℕ → ℤ) (s e : ℕ) : Type 0 where
  pub behind : s < e
  pub inside : e < n
  pub low : (x : ℕ) → s ≤ x → x < n → IsLow weights sums s e x
  pub soonest : (x : ℕ) → s < x → x < e → IsHigher weights sums s e x

pub IsLowestChord-start : (weights sums : ℕ → ℤ) (s n : ℕ) → n ≡ s + 2 → IsLowestChord n weights sums s (s + 1)
IsLowestChord-start weights sums s n two = record {
  behind = omega arith;
  inside = omega (arith, two);
  low = λ x l b. elim (last_or_before (s + 1) x (omega (arith, two, b))) [
    | inl m ↦ (let e : s ≡ x = omega (arith, l, m) in subst (λ y. IsLow weights sums s (s + 1) y) e (IsLow-first weights sums s (s + 1)))
    | inr e ↦ subst (λ y. IsLow weights sums s (s + 1) y) e (IsLow-stop weights sums s (s + 1))
  ];
  soonest = λ x l b. absurd (omega (arith, l, b));
}

pub IsLowestChord-kept : (n : ℕ) (weights sums : ℕ → ℤ) (s e : ℕ) → IsLowestChord n weights sums s e → IsLow weights sums s e n → IsLowestChord (n + 1) weights sums s e
IsLowestChord-kept n weights sums s e h above = record {
  behind = h.behind;
  inside = omega (arith, h.inside);
  low = λ x l b. elim (last_or_before n x b) [ inl m ↦ h.low x l m | inr same ↦ subst (λ y. IsLow weights sums s e y) same above ];
  soonest = h.soonest;
}

heavy : (k : ℕ) (weights : ℕ → ℤ) (s x : ℕ) → IsRising k weights → s ≤ x → x ≤ k → pos 0 ≤ℤ between weights s x
heavy k weights s x h l b = elim (cases_lt s x) [
  | inl m ↦ le_from_lt _ _ (h.some s x m b)
  | inr g ↦ (let e : s ≡ x = omega (arith, l, g) in subst (λ y. pos 0 ≤ℤ between weights s y) e (none (weights s)))
]
  where
    none : (z : ℤ) → pos 0 ≤ℤ (z -ℤ z)
    none z = omega (arith, linear)

pub IsLowestChord-moved : (k n : ℕ) (weights sums : ℕ → ℤ) (s e : ℕ) → IsRising k weights → n ≤ k → IsLowestChord n weights sums s e → IsHigher weights sums s n e → IsLowestChord (n + 1) weights sums s n
IsLowestChord-moved k n weights sums s e rising end h under = record {
  behind = omega (arith, h.behind, h.inside);
  inside = omega arith;
  low = λ x l b. elim (last_or_before n x b) [
    | inl m ↦ IsLow-through weights sums s e n x (rising.some s e h.behind (omega (arith, h.inside, end)))
        (heavy k weights s n rising (omega (arith, h.behind, h.inside)) end) (heavy k weights s x rising l (omega (arith, m, end))) (h.low x l m) (IsLow_from_IsHigher weights sums s n e under)
    | inr same ↦ subst (λ y. IsLow weights sums s n y) same (IsLow-stop weights sums s n)
  ];
  soonest = λ x l b.
      IsHigher-through weights sums s e n x (rising.some s e h.behind (omega (arith, h.inside, end)))
      (heavy k weights s n rising (omega (arith, h.behind, h.inside)) end) (rising.some s x l (omega (arith, b, end))) (h.low x (omega (arith, l)) b) under;
}

-- ---- the least so far

pub least_to-lowest : (sums : ℕ → ℤ) (j z : ℕ) → z ≤ j → ((x : ℕ) → x ≤ j → sums z ≤ℤ sums x) → sums z ≡ least_to sums j
least_to-lowest sums j z inside h = ≤ℤ_antisymm _ _ (least_to-above sums j (sums z) h) (below j z inside)
  where
    below : (j z : ℕ) → z ≤ j → least_to sums j ≤ℤ sums z
    below zero z l = let e : 0 ≡ z = omega (arith, l) in subst (λ x. least_to sums 0 ≤ℤ sums x) e (least_to-le sums 0)
    below (suc j) z l = elim (last_or_before (suc j) z (omega (arith, l))) [
      | inl m ↦ ≤ℤ_trans _ _ _ (least_to-next sums j) (below j z (omega (arith, m)))
      | inr e ↦ subst (λ x. least_to sums (suc j) ≤ℤ sums x) e (least_to-le sums (suc j))
    ]
