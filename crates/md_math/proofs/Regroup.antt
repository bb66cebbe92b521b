-- A sum by the keys of its terms.
use Rattle.std.proofs.Common.{◌≡◌, ℕ, ◌<◌, ℤ, pos, ◌*ℤ◌, eqb, if◌then◌else◌, refl, sym, ap, ◌∙◌, inl, inr, eq-eqb, ne_eqb}
use Rattle.std.proofs.lemmas.Bool.{cases_eq}
use Rattle.md_math.specs.Sums.{sum_to}
use Rattle.md_math.proofs.SumLaws.{sum_to-same, sum_to-swap, sum_to-single, sum_to-*ℤ}
use Rattle.md_math.proofs.Ring.{*ℤ-one, *ℤ-zero}

-- the sum of n terms, each with a key below m, is that over the keys of the terms with that key
pub sum_to-by_key : (m n : ℕ) (key : ℕ → ℕ) (f : ℕ → ℤ) → ((k : ℕ) → k < n → key k < m) → sum_to n f ≡ sum_to m (λ c. sum_to n (λ k. if eqb (key k) c then f k else pos 0))
sum_to-by_key m n key f h =
    sum_to-same n f (λ k. sum_to m (λ c. if eqb (key k) c then f k else pos 0)) (λ k b. sym (one k b))
    ∙ sum_to-swap n m (λ k c. if eqb (key k) c then f k else pos 0)
  where
    one : (k : ℕ) → k < n → sum_to m (λ c. if eqb (key k) c then f k else pos 0) ≡ f k
    one k b =
        sum_to-single m (key k) (λ c. if eqb (key k) c then f k else pos 0) (h k b) (λ c l d. rw (ne_eqb (key k) c (λ e. d (sym e))) refl)
        ∙ (rw (eq-eqb (key k) (key k) refl) refl)

-- where a term depends on its key alone, each key counts as often as it comes
pub sum_to-by_key_count : (m n : ℕ) (key : ℕ → ℕ) (g : ℕ → ℤ) → ((k : ℕ) → k < n → key k < m) → sum_to n (λ k. g (key k)) ≡ sum_to m (λ c. g c *ℤ sum_to n (λ k. if eqb (key k) c then pos 1 else pos 0))
sum_to-by_key_count m n key g h =
    sum_to-by_key m n key (λ k. g (key k)) h
    ∙ sum_to-same m _ _ (λ c b. sum_to-same n _ (λ k. g c *ℤ (if eqb (key k) c then pos 1 else pos 0)) (λ k l. at k c) ∙ sum_to-*ℤ n (g c) (λ k. if eqb (key k) c then pos 1 else pos 0))
  where
    at : (k c : ℕ) → (if eqb (key k) c then g (key k) else pos 0) ≡ g c *ℤ (if eqb (key k) c then pos 1 else pos 0)
    at k c =
        elim (cases_eq (key k) c) [
          | inl e ↦ rw (eq-eqb (key k) c e) (ap g e ∙ sym (*ℤ-one (g c)))
          | inr d ↦ rw (ne_eqb (key k) c d) (sym (*ℤ-zero (g c)))
        ]
