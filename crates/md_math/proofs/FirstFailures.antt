-- What a loop over places needs: what holds below one more place, and the first place where it fails.
use Rattle.std.proofs.Common.{◌≡◌, ℕ, ◌+◌, ◌<◌, ◌≤◌, ◌⊎◌, inl, inr, arith, below_none, below_more}
use Rattle.std.proofs.lemmas.Bool.{cases_lt}
use Rattle.md_math.specs.FirstFailure.{HoldsBelow, IsFirstFailure}

pub HoldsBelow-none : (C : ℕ → Type 0) → HoldsBelow 0 C
HoldsBelow-none C = record { holds = below_none C }

pub HoldsBelow-more : (C : ℕ → Type 0) (n : ℕ) → HoldsBelow n C → C n → HoldsBelow (n + 1) C
HoldsBelow-more C n h c = record { holds = below_more C n h.holds c }

pub HoldsBelow-fewer : (C : ℕ → Type 0) (m n : ℕ) → m ≤ n → HoldsBelow n C → HoldsBelow m C
HoldsBelow-fewer C m n l h = record { holds = λ k b. h.holds k (omega arith) }

pub HoldsBelow-weaker : (C D : ℕ → Type 0) (n : ℕ) → ((k : ℕ) → k < n → C k → D k) → HoldsBelow n C → HoldsBelow n D
HoldsBelow-weaker C D n w h = record { holds = λ k b. w k b (h.holds k b) }

pub IsFirstFailure-here : (C : ℕ → Type 0) (n k : ℕ) → k < n → ¬ C k → HoldsBelow k C → IsFirstFailure n C k
IsFirstFailure-here C n k b f h = record { below = b; fails = f; before = h }

-- a first failure among fewer places is one among more
pub IsFirstFailure-more : (C : ℕ → Type 0) (m n k : ℕ) → m ≤ n → IsFirstFailure m C k → IsFirstFailure n C k
IsFirstFailure-more C m n k l h = record { below = (let b : k < m = h.below in omega arith); fails = h.fails; before = h.before }

pub HoldsBelow-no_failure : (C : ℕ → Type 0) (n k : ℕ) → HoldsBelow n C → IsFirstFailure n C k → ⊥
HoldsBelow-no_failure C n k h f = f.fails (h.holds k f.below)

-- there is at most one first failure
pub same_from_IsFirstFailure : (C : ℕ → Type 0) (n j k : ℕ) → IsFirstFailure n C j → IsFirstFailure n C k → j ≡ k
same_from_IsFirstFailure C n j k f g = at (cases_lt j k) (cases_lt k j)
  where
    at : (j < k) ⊎ (k ≤ j) → (k < j) ⊎ (j ≤ k) → j ≡ k
    at (inl l) _ = absurd (f.fails (g.before.holds j l))
    at (inr l) (inl m) = absurd (g.fails (f.before.holds k m))
    at (inr l) (inr m) = omega arith
