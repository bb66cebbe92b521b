-- A test that holds somewhere below a bound, or nowhere.
use Rattle.std.proofs.Common.{◌≡◌, ℕ, zero, suc, ◌<◌, inl, inr, Bool, true, false, ◌||◌, refl, sym, ap, ◌∙◌, arith}
use Rattle.std.proofs.lemmas.Bool.{cases_lt}
use Rattle.md_math.proofs.BoundedTests.{search_below, true_or_false}
use Rattle.md_flow.specs.Over.{any_below}

pub any_below-true : (n : ℕ) (test : ℕ → Bool) (j : ℕ) → j < n → test j ≡ true → any_below n test ≡ true
any_below-true zero test j b h = absurd (omega arith)
any_below-true (suc n) test j b h =
    elim (cases_lt j n) [
      | inl l ↦ rw (any_below-true n test j l h) refl
      | inr l ↦ (let same : j ≡ n = omega arith in let here : test n ≡ true = ap test (sym same) ∙ h in rw here (or_true (any_below n test)))
    ]
  where
    or_true : (a : Bool) → (a || true) ≡ true
    or_true true = refl
    or_true false = refl

any_below-none : (n : ℕ) (test : ℕ → Bool) → ((j : ℕ) → j < n → test j ≡ false) → any_below n test ≡ false
any_below-none zero test h = refl
any_below-none (suc n) test h = rw (any_below-none n test (λ j b. h j (omega arith)), h n (omega arith)) refl

pub any_below-place : (n : ℕ) (test : ℕ → Bool) → any_below n test ≡ true → (j : ℕ) × (j < n) × (test j ≡ true)
any_below-place n test h =
    elim (search_below n test) [
      | inl w ↦ w
      | inr none ↦ (let t : any_below n test ≡ false = any_below-none n test none in absurd cc)
    ]

pub any_below-false : (n : ℕ) (test : ℕ → Bool) → any_below n test ≡ false → (j : ℕ) → j < n → test j ≡ false
any_below-false n test h j b =
    elim (true_or_false (test j)) [
      | inl e ↦ (let t : any_below n test ≡ true = any_below-true n test j b e in absurd cc)
      | inr e ↦ e
    ]
