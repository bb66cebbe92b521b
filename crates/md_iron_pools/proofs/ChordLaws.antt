-- Chords of sums over weights: which of some is lowest, and what follows for neighbouring pools.
use Rattle.std.proofs.Common.{ℕ, ℤ, pos, ◌-ℤ◌, ◌*ℤ◌, ◌≤ℤ◌, ◌<ℤ◌, arith, refl}
use lib.IntN.{*ℤ_comm}
use Rattle.md_math.proofs.Order.{*ℤ-le, *ℤ-lt, le_from_*ℤ, lt_from_*ℤ, le_from_same, le_from_lt, positive-*ℤ, positive_from_*ℤ}
use Rattle.md_math.proofs.Ring.{linear, ring}
use Rattle.md_iron_values.specs.Pools.{IsLow}
use Rattle.md_iron_pools.specs.ByRule.{IsHigher}

-- what a function of places grows by from one place to another
abbrev pub between : (ℕ → ℤ) → ℕ → ℕ → ℤ
between f s e = f e -ℤ f s

-- ---- one chord

at_first : (p q r s : ℤ) → (p *ℤ (r -ℤ r)) ≤ℤ ((s -ℤ s) *ℤ q)
at_first p q r s = simp ring (omega (arith, linear))

pub IsLow-first : (weights sums : ℕ → ℤ) (s e : ℕ) → IsLow weights sums s e s
IsLow-first weights sums s e = record { low = at_first (between sums s e) (between weights s e) (weights s) (sums s) }

pub IsLow-stop : (weights sums : ℕ → ℤ) (s e : ℕ) → IsLow weights sums s e e
IsLow-stop weights sums s e = record { low = le_from_same _ _ refl }

-- ---- a lower chord

-- what is no higher than the mean of e is no higher than a mean that is at least that of e
through : (ae ax ay we wx wy : ℤ) → pos 0 <ℤ we → pos 0 ≤ℤ wx → pos 0 ≤ℤ wy → (ae *ℤ wy) ≤ℤ (ay *ℤ we) → (ax *ℤ we) ≤ℤ (ae *ℤ wx) → (ax *ℤ wy) ≤ℤ (ay *ℤ wx)
through ae ax ay we wx wy some x y h k =
    let first : (wy *ℤ (ax *ℤ we)) ≤ℤ (wy *ℤ (ae *ℤ wx)) = *ℤ-le wy (ax *ℤ we) (ae *ℤ wx) y k in
    let second : (wx *ℤ (ae *ℤ wy)) ≤ℤ (wx *ℤ (ay *ℤ we)) = *ℤ-le wx (ae *ℤ wy) (ay *ℤ we) x h in
    let both : (we *ℤ (ax *ℤ wy)) ≤ℤ (we *ℤ (ay *ℤ wx)) = simp ring (omega (arith, linear, simp ring at first, simp ring at second)) in
    le_from_*ℤ we (ax *ℤ wy) (ay *ℤ wx) some both

pub IsLow-through : (weights sums : ℕ → ℤ) (s e x y : ℕ) → pos 0 <ℤ between weights s e → pos 0 ≤ℤ between weights s x → pos 0 ≤ℤ between weights s y
    → IsLow weights sums s e y → IsLow weights sums s x e → IsLow weights sums s x y
IsLow-through weights sums s e x y we wx wy h k = record {
  low = through (between sums s e) (between sums s x) (between sums s y) (between weights s e) (between weights s x) (between weights s y) we wx wy h.low k.low;
}

-- where the curve is higher than a chord it is no lower
pub IsLow_from_IsHigher : (weights sums : ℕ → ℤ) (s e x : ℕ) → IsHigher weights sums s e x → IsLow weights sums s e x
IsLow_from_IsHigher weights sums s e x h = record { low = le_from_lt _ _ h.higher }

-- what is less than the mean of e is less than a mean that is at least that of e
through-less : (ae ax ay we wx wy : ℤ) → pos 0 <ℤ we → pos 0 ≤ℤ wx → pos 0 <ℤ wy → (ae *ℤ wy) ≤ℤ (ay *ℤ we) → (ax *ℤ we) <ℤ (ae *ℤ wx) → (ax *ℤ wy) <ℤ (ay *ℤ wx)
through-less ae ax ay we wx wy some x y h k =
    let first : (wy *ℤ (ax *ℤ we)) <ℤ (wy *ℤ (ae *ℤ wx)) = *ℤ-lt wy (ax *ℤ we) (ae *ℤ wx) y k in
    let second : (wx *ℤ (ae *ℤ wy)) ≤ℤ (wx *ℤ (ay *ℤ we)) = *ℤ-le wx (ae *ℤ wy) (ay *ℤ we) x h in
    let both : (we *ℤ (ax *ℤ wy)) <ℤ (we *ℤ (ay *ℤ wx)) = simp ring (omega (arith, linear, simp ring at first, simp ring at second)) in
    lt_from_*ℤ we (ax *ℤ wy) (ay *ℤ wx) some both

pub IsHigher-through : (weights sums : ℕ → ℤ) (s e x y : ℕ) → pos 0 <ℤ between weights s e → pos 0 ≤ℤ between weights s x → pos 0 <ℤ between weights s y
    → IsLow weights sums s e y → IsHigher weights sums s x e → IsHigher weights sums s x y
IsHigher-through weights sums s e x y we wx wy h k = record {
  higher = through-less (between sums s e) (between sums s x) (between sums s y) (between weights s e) (between weights s x) (between weights s y) we wx wy h.low k.higher;
}

-- ---- the next pool

apart : (a b c u v w : ℤ) → ((b -ℤ a) *ℤ (w -ℤ u)) ≤ℤ ((c -ℤ a) *ℤ (v -ℤ u)) → ((b -ℤ a) *ℤ (w -ℤ v)) ≤ℤ ((c -ℤ b) *ℤ (v -ℤ u))
apart a b c u v w h = simp ring (omega (arith, linear, simp ring at h))

-- where the chord of a pool is no higher at the end of the next one, that one has no smaller mean
pub rise-from_IsLow : (weights sums : ℕ → ℤ) (s e f : ℕ) → IsLow weights sums s e f → (between sums s e *ℤ between weights e f) ≤ℤ (between sums e f *ℤ between weights s e)
rise-from_IsLow weights sums s e f h = apart (sums s) (sums e) (sums f) (weights s) (weights e) (weights f) h.low

-- and a positive one, if that of the pool is
pub positive-from_rise : (p m q n : ℤ) → pos 0 <ℤ p → pos 0 <ℤ m → pos 0 <ℤ n → (p *ℤ n) ≤ℤ (q *ℤ m) → pos 0 <ℤ q
positive-from_rise p m q n some weight next h =
    let product : pos 0 <ℤ (p *ℤ n) = positive-*ℤ p n some next in
    let more : pos 0 <ℤ (m *ℤ q) = omega (arith, linear, product, h, *ℤ_comm m q) in
    positive_from_*ℤ m q weight more
