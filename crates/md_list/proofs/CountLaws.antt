-- How many places pass a test.
use Rattle.std.proofs.Common.{◌≡◌, ℕ, zero, suc, ◌+◌, ◌<◌, ◌≤◌, Bool, true, false, if◌then◌else◌, refl, sym, ap, ap₂, ◌∙◌, inl, inr, arith}
use Rattle.std.proofs.lemmas.Bool.{cases_eq, false≢true}
use Rattle.md_list.specs.Rule.{count_to}

pub count-same : (n : ℕ) (r s : ℕ → Bool) → ((i : ℕ) → i < n → r i ≡ s i) → count_to n r ≡ count_to n s
count-same zero r s h = refl
count-same (suc n) r s h = ap₂ (λ x y. x + (if y then 1 else 0)) (count-same n r s (λ i b. h i (omega (arith, b)))) (h n (omega arith))

count-one : (x y : Bool) → (x ≡ true → y ≡ true) → (if x then 1 else 0) ≤ (if y then 1 else 0)
count-one true true h = omega arith
count-one true false h = absurd (false≢true (h refl))
count-one false y h = omega arith

-- where one test passes another one does, too
pub count-le : (n : ℕ) (r s : ℕ → Bool) → ((i : ℕ) → i < n → r i ≡ true → s i ≡ true) → count_to n r ≤ count_to n s
count-le zero r s h = omega arith
count-le (suc n) r s h = omega (arith, count-le n r s (λ i b. h i (omega (arith, b))), count-one (r n) (s n) (h n (omega arith)))

-- and that one alone passes at one place
pub count-less : (n k : ℕ) (r s : ℕ → Bool) → k < n → ((i : ℕ) → i < n → r i ≡ true → s i ≡ true) → r k ≡ false → s k ≡ true → count_to n r < count_to n s
count-less zero k r s b h e f = absurd (omega (arith, b))
count-less (suc n) k r s b h e f = elim (cases_eq k n) [
  | inl at ↦
      last (r n) (s n) (count_to n r) (count_to n s) (ap r (sym at) ∙ e) (ap s (sym at) ∙ f) (count-le n r s (λ i c. h i (omega (arith, c))))
  | inr away ↦
      omega (arith, count-less n k r s (omega (arith, b, away)) (λ i c. h i (omega (arith, c))) e f, count-one (r n) (s n) (h n (omega arith)))
]
  where
    last : (x y : Bool) (c d : ℕ) → x ≡ false → y ≡ true → c ≤ d → c + (if x then 1 else 0) < d + (if y then 1 else 0)
    last x y c d g k l = rw (g, k) (omega (arith, l))
