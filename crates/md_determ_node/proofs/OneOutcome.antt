-- Chances that add to the whole, where one of them is the whole, or each is 0 or the whole.
use Rattle.std.proofs.Common.{◌≡◌, ◌≢◌, ℕ, zero, suc, ◌<◌, ◌⊎◌, inl, inr, ℤ, pos, ◌≤ℤ◌, refl, arith}
use Rattle.std.specs.Prelude.{◌==◌, if◌then◌else◌}
use Rattle.std.proofs.lemmas.Bool.{cases_eq, ne_eqb}
use Rattle.std.proofs.lemmas.Int.{ints}
use Rattle.md_math.specs.Sums.{sum_to}
use Rattle.md_math.proofs.Order.{unchosen-nonneg}
use Rattle.md_math.proofs.SumLaws.{sum_to-but, sum_to-all_zero}

-- an outcome that has the whole
pub record HasWhole (n : ℕ) (f : ℕ → ℤ) (den : ℤ) : Type 0 where
  pub outcome : ℕ
  pub below : outcome < n
  pub whole : f outcome ≡ den

some-whole : (n : ℕ) (f : ℕ → ℤ) (den : ℤ) → ((o : ℕ) → o < n → (f o ≡ pos 0) ⊎ (f o ≡ den)) → (sum_to n f ≡ pos 0) ⊎ HasWhole n f den
some-whole zero f den each = inl refl
some-whole (suc n) f den each = elim (some-whole n f den (λ o l. each o (omega (arith, l)))) [
  | inl none ↦ elim (each n (omega arith)) [
    | inl nothing ↦ inl (omega (arith, ints, none, nothing))
    | inr whole ↦ inr (record { outcome = n; below = omega arith; whole = whole })
  ]
  | inr before ↦ inr (record { outcome = before.outcome; below = (let b : before.outcome < n = before.below in omega arith); whole = before.whole })
]

pub whole-outcome : (n : ℕ) (f : ℕ → ℤ) (den : ℤ) → pos 1 ≤ℤ den → sum_to n f ≡ den → ((o : ℕ) → o < n → (f o ≡ pos 0) ⊎ (f o ≡ den)) → HasWhole n f den
whole-outcome n f den up sum each = elim (some-whole n f den each) [
  | inl none ↦ absurd (omega (arith, ints, up, sum, none))
  | inr there ↦ there
]

-- beside one that has the whole there is nothing
pub others-none : (n k : ℕ) (f : ℕ → ℤ) (den : ℤ) → k < n → ((j : ℕ) → j < n → pos 0 ≤ℤ f j) → sum_to n f ≡ den → f k ≡ den → (j : ℕ) → j < n → j ≢ k → f j ≡ pos 0
others-none n k f den inside above sum whole j l apart =
    let rest = λ (i : ℕ). if i == k then pos 0 else f i in
    let none : sum_to n rest ≤ℤ pos 0 = omega (arith, ints, sum_to-but n k f inside, sum, whole) in
    let nothing : rest j ≡ pos 0 = sum_to-all_zero n j rest l (λ i b. unchosen-nonneg (i == k) (f i) (above i b)) none in
    rw (ne_eqb j k apart) at nothing

pub one-whole : (n i k : ℕ) (f : ℕ → ℤ) (den : ℤ) → pos 1 ≤ℤ den → i < n → k < n → ((j : ℕ) → j < n → pos 0 ≤ℤ f j) → sum_to n f ≡ den → f i ≡ den → f k ≡ den → i ≡ k
one-whole n i k f den up first second above sum here there = elim (cases_eq i k) [
  | inl same ↦ same
  | inr apart ↦ (let none = others-none n k f den second above sum there i first apart in absurd (omega (arith, ints, up, here, none)))
]
