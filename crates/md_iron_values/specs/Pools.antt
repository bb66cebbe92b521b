-- Values that are treated alike: the ironing of virtual values (Myerson 1981). Over the weights of the values below each place,
-- the sums of their virtual values are a curve; its chords from below say which values are pooled.
use Rattle.std.specs.Prelude.{ℕ, ◌≡◌, ◌⊎◌, ◌+◌, ◌<◌, ◌≤◌, ℤ, pos, ◌-ℤ◌, ◌*ℤ◌, ◌≤ℤ◌, ◌<ℤ◌}

-- Values are counted from 0. Those from `reserve` on buy; the pool of a value begins at `first` and ends before `stop`.
pub record Pools : Type 0 where
  pub reserve : ℕ
  pub first : ℕ → ℕ
  pub stop : ℕ → ℕ

-- what a function of places grows by over the pool of a value
abbrev pub over_pool : (ℕ → ℤ) → Pools → ℕ → ℤ
over_pool g pools j = g (pools.stop j) -ℤ g (pools.first j)

-- the curve is at the place x no lower than its chord from the place s to the place e
pub record IsLow (weight sum : ℕ → ℤ) (s e x : ℕ) : Type 0 where
  pub low : ((sum e -ℤ sum s) *ℤ (weight x -ℤ weight s)) ≤ℤ ((sum x -ℤ sum s) *ℤ (weight e -ℤ weight s))

-- The values are pooled by the lowest chords of the curve: `weight` is by place the weight of the values below it, and `sum` the
-- sum of their virtual values. Nothing is sold below the place where the sum is least, and each value is alone there.
pub record IsPooled (kinds : ℕ) (weight sum : ℕ → ℤ) (pools : Pools) : Type 0 where
  pub inside : pools.reserve ≤ kinds
  pub least : (x : ℕ) → x ≤ kinds → sum pools.reserve ≤ℤ sum x
  pub place : (j : ℕ) → j < kinds → (pools.first j ≤ j) × (j < pools.stop j) × (pools.stop j ≤ kinds)
  -- the next value begins a pool, or is in the same one
  pub join : (j : ℕ) → j + 1 < kinds
      → ((pools.stop j ≡ j + 1) × (pools.first (j + 1) ≡ j + 1)) ⊎ ((pools.first (j + 1) ≡ pools.first j) × (pools.stop (j + 1) ≡ pools.stop j))
  pub alone : (j : ℕ) → j < pools.reserve → (pools.first j ≡ j) × (pools.stop j ≡ j + 1)
  -- within a pool the curve is nowhere below the chord
  pub low : (j x : ℕ) → pools.reserve ≤ j → j < kinds → pools.first j ≤ x → x ≤ pools.stop j → IsLow weight sum (pools.first j) (pools.stop j) x
  -- the chord of the next pool is at least as steep
  pub rise : (j : ℕ) → pools.reserve ≤ j → j + 1 < kinds → pools.stop j ≡ j + 1
      → (over_pool sum pools j *ℤ over_pool weight pools (j + 1)) ≤ℤ (over_pool sum pools (j + 1) *ℤ over_pool weight pools j)
  pub positive : (j : ℕ) → pools.reserve ≤ j → j < kinds → pos 0 <ℤ over_pool sum pools j
