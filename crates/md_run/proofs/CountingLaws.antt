-- How many of the numbers below one have a property, where they are those of an interval, and where a test tells.
use Rattle.std.proofs.Common.{◌≡◌, ◌↔◌, ℕ, zero, suc, ◌+◌, ◌-◌, ◌<◌, ◌≤◌, Bool, true, if◌then◌else◌, List, [], ◌∷◌, ◌++◌, inl, inr, sym, ap, ◌∙◌, arith, subst}
use Rattle.std.proofs.lemmas.Bool.{false≢true}
use Rattle.md_math.specs.Lists.{list_to}
use Rattle.md_math.proofs.BoundedTests.{true_or_false}
use Rattle.md_winners.specs.Sets.{size}
use Rattle.md_run.specs.Counting.{HasCountBelow}

more-lacks : (P : ℕ → Type 0) (n count : ℕ) → ¬ P n → HasCountBelow n P count → HasCountBelow (suc n) P count
more-lacks P n zero h c = (h, c)
more-lacks P n (suc count) h c = inr (h, c)

before : (P : ℕ → Type 0) (n : ℕ) → ((d : ℕ) → d < n → ¬ P d) → HasCountBelow n P 0
before P zero h = tt
before P (suc n) h = (h n (omega arith), before P n (λ d b. h d (omega arith)))

inside : (P : ℕ → Type 0) (from count : ℕ) → ((d : ℕ) → d < from → ¬ P d) → ((d : ℕ) → from ≤ d → d < from + count → P d) → HasCountBelow (from + count) P count
inside P from zero h g = let e : from ≡ from + zero = omega arith in subst (λ n. HasCountBelow n P zero) e (before P from h)
inside P from (suc count) h g =
    let e : suc (from + count) ≡ from + suc count = omega arith in
    subst (λ n. HasCountBelow n P (suc count)) e
    (inl (g (from + count) (omega arith) (omega arith), inside P from count h (λ d l b. g d l (omega arith))))

behind : (P : ℕ → Type 0) (n count more : ℕ) → HasCountBelow n P count → ((d : ℕ) → n ≤ d → ¬ P d) → HasCountBelow (n + more) P count
behind P n count zero c h = let e : n ≡ n + zero = omega arith in subst (λ m. HasCountBelow m P count) e c
behind P n count (suc more) c h =
    let e : suc (n + more) ≡ n + suc more = omega arith in
    subst (λ m. HasCountBelow m P count) e (more-lacks P (n + more) count (h (n + more) (omega arith)) (behind P n count more c h))

-- a property that the numbers of an interval below n have, and no others
pub interval : (P : ℕ → Type 0) (n from count : ℕ) → from + count ≤ n → ((d : ℕ) → from ≤ d → d < from + count → P d) → ((d : ℕ) → P d → (from ≤ d) × (d < from + count)) → HasCountBelow n P count
interval P n from count w g o =
    let e : from + count + (n - (from + count)) ≡ n = omega (arith, w) in
    subst (λ m. HasCountBelow m P count) e
    (behind P (from + count) count (n - (from + count))
    (inside P from count (λ d b p. (let l : from ≤ d = (o d p).0 in omega arith)) g)
    (λ d b p. (let l : d < from + count = (o d p).1 in omega arith)))

-- a property that the numbers from one on have, and no others
pub below-end : (P : ℕ → Type 0) (n from count : ℕ) → from + count ≡ n → ((d : ℕ) → from ≤ d → P d) → ((d : ℕ) → P d → from ≤ d) → HasCountBelow n P count
below-end P n from count e g o =
    subst (λ m. HasCountBelow m P count) e
    (inside P from count (λ d b p. (let l : from ≤ d = o d p in omega arith)) (λ d l b. g d l))

-- the same where another property is meant
pub count-same : (P Q : ℕ → Type 0) (n count : ℕ) → ((d : ℕ) → P d ↔ Q d) → HasCountBelow n P count → HasCountBelow n Q count
count-same P Q zero zero h c = tt
count-same P Q zero (suc count) h c = absurd c
count-same P Q (suc n) zero h c = ((λ q. c.0 ((h n).1 q)), count-same P Q n zero h c.1)
count-same P Q (suc n) (suc count) h (inl (p, c)) = inl ((h n).0 p, count-same P Q n count h c)
count-same P Q (suc n) (suc count) h (inr (p, c)) = inr ((λ q. p ((h n).1 q)), count-same P Q n (suc count) h c)

size-push : (xs : List Bool) (b : Bool) → size (xs ++ b ∷ []) ≡ size xs + (if b then 1 else 0)
size-push [] b = omega arith
size-push (x ∷ xs) b = omega (arith, size-push xs b)

-- as many as pass a test
pub count-passed : (n : ℕ) (test : ℕ → Bool) → HasCountBelow n (λ d. test d ≡ true) (size (list_to n test))
count-passed zero test = tt
count-passed (suc n) test = elim (true_or_false (test n)) [
  | inl is ↦
      let e : size (list_to (suc n) test) ≡ suc (size (list_to n test)) = size-push (list_to n test) (test n) ∙ ap (λ b. size (list_to n test) + (if b then 1 else 0)) is ∙ (let f : size (list_to n test) + 1 ≡ suc (size (list_to n test)) = omega arith in f) in
      subst (HasCountBelow (suc n) (λ d. test d ≡ true)) (sym e) (inl (is, count-passed n test))
  | inr is ↦
      let e : size (list_to (suc n) test) ≡ size (list_to n test) = size-push (list_to n test) (test n) ∙ ap (λ b. size (list_to n test) + (if b then 1 else 0)) is ∙ (let f : size (list_to n test) + 0 ≡ size (list_to n test) = omega arith in f) in
      subst (HasCountBelow (suc n) (λ d. test d ≡ true)) (sym e) (more-lacks (λ d. test d ≡ true) n (size (list_to n test)) (λ p. false≢true (sym is ∙ p)) (count-passed n test))
]
