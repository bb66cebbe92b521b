-- The laws of the lexicographic order, by the signs of numbers and of their differences.
use Rattle.std.proofs.Common.{◌≡◌, ◌⊎◌, ℕ, zero, suc, ◌<◌, ◌≤◌, ℤ, pos, ◌+ℤ◌, ◌*ℤ◌, neg_ℤ, ◌≤ℤ◌, ◌<ℤ◌, sym, ap, ◌∙◌, subst, inl, inr, arith, below_more}
use Rattle.std.proofs.lemmas.Bool.{cases_lt}
use Rattle.md_math.specs.LexOrder.{IsPairNonNegative, IsPairPositive, IsLexPositive, IsLexNonNegative}
use Rattle.md_math.proofs.Ring.{linear, *ℤ-zero}
use Rattle.md_math.proofs.Order.{positive-*ℤ, nonneg-*ℤ, lt_or_same_or_gt, positive_from_*ℤ, zero_from_*ℤ, le_from_lt}

-- ---- pairs

pub first_from_IsPairNonNegative : (f m : ℤ) → IsPairNonNegative f m → pos 0 ≤ℤ f
first_from_IsPairNonNegative f m (inl h) = le_from_lt (pos 0) f h
first_from_IsPairNonNegative f m (inr h) = let e : f ≡ pos 0 = h.0 in omega (arith, linear)

pub second_from_IsPairNonNegative : (f m : ℤ) → IsPairNonNegative f m → f ≡ pos 0 → pos 0 ≤ℤ m
second_from_IsPairNonNegative f m (inl h) e = absurd (omega (arith, linear))
second_from_IsPairNonNegative f m (inr h) e = h.1

pub IsPairNonNegative-from_positive : (f m : ℤ) → IsPairPositive f m → IsPairNonNegative f m
IsPairNonNegative-from_positive f m (inl h) = inl h
IsPairNonNegative-from_positive f m (inr h) = inr (h.0, le_from_lt (pos 0) m h.1)

pub IsPairNonNegative-+ℤ : (f m g n : ℤ) → IsPairNonNegative f m → IsPairNonNegative g n → IsPairNonNegative (f +ℤ g) (m +ℤ n)
IsPairNonNegative-+ℤ f m g n (inl h) k = inl (let l : pos 0 ≤ℤ g = first_from_IsPairNonNegative g n k in omega (arith, linear))
IsPairNonNegative-+ℤ f m g n (inr h) (inl k) = inl (let e : f ≡ pos 0 = h.0 in omega (arith, linear))
IsPairNonNegative-+ℤ f m g n (inr h) (inr k) =
    let e : f ≡ pos 0 = h.0 in
    let d : g ≡ pos 0 = k.0 in
    let p : pos 0 ≤ℤ m = h.1 in
    let q : pos 0 ≤ℤ n = k.1 in
    inr (omega (arith, linear), omega (arith, linear))

-- ---- functions

pub IsLexNonNegative-from_positive : (n : ℕ) (f : ℕ → ℤ) → IsLexPositive n f → IsLexNonNegative n f
IsLexNonNegative-from_positive n f h = record { at = λ k b zeros. cases k zeros (cases_lt k h.place) (cases_lt h.place k) }
  where
    cases : (k : ℕ) → ((j : ℕ) → j < k → f j ≡ pos 0) → (k < h.place) ⊎ (h.place ≤ k) → (h.place < k) ⊎ (k ≤ h.place) → pos 0 ≤ℤ f k
    cases k zeros (inl l) _ = let e : f k ≡ pos 0 = h.before k l in omega (arith, linear)
    cases k zeros (inr l) (inl m) =
        let e : f h.place ≡ pos 0 = zeros h.place m in
        let p : pos 0 <ℤ f h.place = h.positive in
        absurd (omega (arith, linear))
    cases k zeros (inr l) (inr m) =
        let same : h.place ≡ k = omega arith in
        let p : pos 0 <ℤ f k = subst (λ i. pos 0 <ℤ f i) same h.positive in
        le_from_lt (pos 0) (f k) p

pub IsLexPositive-more : (m n : ℕ) (f : ℕ → ℤ) → m ≤ n → IsLexPositive m f → IsLexPositive n f
IsLexPositive-more m n f l h = record { place = h.place; inside = (let b : h.place < m = h.inside in omega arith); before = h.before; positive = h.positive }

pub IsLexPositive-same : (n : ℕ) (f g : ℕ → ℤ) → ((k : ℕ) → k < n → f k ≡ g k) → IsLexPositive n f → IsLexPositive n g
IsLexPositive-same n f g e h = record {
  place = h.place;
  inside = h.inside;
  before = λ k b. sym (e k (let c : h.place < n = h.inside in omega arith)) ∙ h.before k b;
  positive = subst (λ z. pos 0 <ℤ z) (e h.place h.inside) h.positive;
}

-- the first number that is not 0: none, or its place and sign
pub lex_cases : (n : ℕ) (f : ℕ → ℤ) → ((k : ℕ) → k < n → f k ≡ pos 0) ⊎ (IsLexPositive n f ⊎ IsLexPositive n (λ k. neg_ℤ (f k)))
lex_cases zero f = inl (λ k b. absurd (omega arith))
lex_cases (suc n) f =
    elim (lex_cases n f) [
      | inr (inl h) ↦ inr (inl (IsLexPositive-more n (suc n) f (omega arith) h))
      | inr (inr h) ↦ inr (inr (IsLexPositive-more n (suc n) (λ k. neg_ℤ (f k)) (omega arith) h))
      | inl zeros ↦
          elim (lt_or_same_or_gt (pos 0) (f n)) [
            | inl p ↦ inr (inl (record { place = n; inside = omega arith; before = zeros; positive = p }))
            | inr (inl e) ↦ inl (λ k b. rest zeros e k b)
            | inr (inr p) ↦ inr (inr (record { place = n; inside = omega arith; before = λ k b. (let e : f k ≡ pos 0 = zeros k b in omega (arith, linear)); positive = omega (arith, linear) }))
          ]
    ]
  where
    rest : ((k : ℕ) → k < n → f k ≡ pos 0) → pos 0 ≡ f n → (k : ℕ) → k < suc n → f k ≡ pos 0
    rest zeros e k b = below_more (λ j. f j ≡ pos 0) n zeros (sym e) k (omega arith)

-- a positive function plus one that is not negative is positive
pub IsLexPositive-+ℤ : (n : ℕ) (f g : ℕ → ℤ) → IsLexPositive n f → IsLexNonNegative n g → IsLexPositive n (λ k. f k +ℤ g k)
IsLexPositive-+ℤ n f g h k =
    elim (lex_cases h.place g) [
      | inl zeros ↦
          let p : pos 0 <ℤ f h.place = h.positive in
          let q : pos 0 ≤ℤ g h.place = k.at h.place h.inside zeros in
          record { place = h.place; inside = h.inside; before = λ i b. both (h.before i b) (zeros i b); positive = omega (arith, linear) }
      | inr (inl l) ↦
          let p : pos 0 <ℤ g l.place = l.positive in
          let e : f l.place ≡ pos 0 = h.before l.place l.inside in
          let inside : l.place < n = (let a : l.place < h.place = l.inside in let b : h.place < n = h.inside in omega arith) in
          record {
            place = l.place;
            inside = inside;
            before = λ i b. both (h.before i (let a : l.place < h.place = l.inside in omega arith)) (l.before i b);
            positive = omega (arith, linear);
          }
      | inr (inr l) ↦
          let p : pos 0 <ℤ neg_ℤ (g l.place) = l.positive in
          let inside : l.place < n = (let a : l.place < h.place = l.inside in let b : h.place < n = h.inside in omega arith) in
          let q : pos 0 ≤ℤ g l.place = k.at l.place inside (λ j b. zero_from_neg (l.before j b)) in
          absurd (omega (arith, linear))
    ]
  where
    both : {x y : ℤ} → x ≡ pos 0 → y ≡ pos 0 → x +ℤ y ≡ pos 0
    both {x} {y} a b = omega (arith, linear)

    zero_from_neg : {x : ℤ} → neg_ℤ x ≡ pos 0 → x ≡ pos 0
    zero_from_neg {x} a = omega (arith, linear)

pub IsLexPositive-*ℤ : (n : ℕ) (c : ℤ) (f : ℕ → ℤ) → pos 0 <ℤ c → IsLexPositive n f → IsLexPositive n (λ k. c *ℤ f k)
IsLexPositive-*ℤ n c f p h = record {
  place = h.place;
  inside = h.inside;
  before = λ k b. ap (λ z. c *ℤ z) (h.before k b) ∙ *ℤ-zero c;
  positive = positive-*ℤ c (f h.place) p h.positive;
}

-- a positive factor is taken away
pub IsLexPositive-from_*ℤ : (n : ℕ) (c : ℤ) (f : ℕ → ℤ) → pos 0 <ℤ c → IsLexPositive n (λ k. c *ℤ f k) → IsLexPositive n f
IsLexPositive-from_*ℤ n c f p h = record {
  place = h.place;
  inside = h.inside;
  before = λ k b. zero_from_*ℤ c (f k) p (h.before k b);
  positive = positive_from_*ℤ c (f h.place) p h.positive;
}

pub IsLexNonNegative-*ℤ : (n : ℕ) (c : ℤ) (f : ℕ → ℤ) → pos 0 <ℤ c → IsLexNonNegative n f → IsLexNonNegative n (λ k. c *ℤ f k)
IsLexNonNegative-*ℤ n c f p h = record { at = λ k b zeros. nonneg-*ℤ c (f k) (le_from_lt (pos 0) c p) (h.at k b (λ j l. zero_from_*ℤ c (f j) p (zeros j l))) }
