-- Tests of the numbers below a bound.
use Rattle.std.proofs.Common.{◌≡◌, ℕ, zero, suc, ◌<◌, ◌⊎◌, inl, inr, Bool, true, false, ◌&&◌, refl, sym, ap, ◌∙◌, arith}
use Rattle.std.proofs.lemmas.Bool.{cases_lt}

pub and-left : (a b : Bool) → (a && b) ≡ true → a ≡ true
and-left true b h = refl
and-left false b h = cc

pub and-right : (a b : Bool) → (a && b) ≡ true → b ≡ true
and-right true b h = h
and-right false b h = cc

pub and-both : (a b : Bool) → a ≡ true → b ≡ true → (a && b) ≡ true
and-both true b p q = q
and-both false b p q = cc

pub true_or_false : (b : Bool) → (b ≡ true) ⊎ (b ≡ false)
true_or_false true = inl refl
true_or_false false = inr refl

-- a place below n where a test holds, or it fails at each
pub search_below : (n : ℕ) (test : ℕ → Bool) → ((j : ℕ) × (j < n) × (test j ≡ true)) ⊎ ((j : ℕ) → j < n → test j ≡ false)
search_below zero test = inr (λ j b. absurd (omega arith))
search_below (suc n) test = at (search_below n test) (true_or_false (test n))
  where
    at : ((j : ℕ) × (j < n) × (test j ≡ true)) ⊎ ((j : ℕ) → j < n → test j ≡ false) → (test n ≡ true) ⊎ (test n ≡ false) → ((j : ℕ) × (j < suc n) × (test j ≡ true)) ⊎ ((j : ℕ) → j < suc n → test j ≡ false)
    at (inl (j, b, e)) _ = inl (j, omega arith, e)
    at (inr none) (inl here) = inl (n, omega arith, here)
    at (inr none) (inr here) = inr (λ j b. elim (cases_lt j n) [ inl l ↦ none j l | inr l ↦ (let same : n ≡ j = omega arith in ap test (sym same) ∙ here) ])
