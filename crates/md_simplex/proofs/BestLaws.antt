-- The best row, one row after another: and so each column has one, or has no row with a positive entry.
use Rattle.std.proofs.Common.{◌≡◌, ℕ, zero, suc, ◌+◌, ◌<◌, Option, None, Some, ℤ, pos, ◌+ℤ◌, ◌-ℤ◌, ◌*ℤ◌, neg_ℤ, ◌≤ℤ◌, ◌<ℤ◌, inl, inr, subst, arith, add-one}
use Rattle.std.proofs.lemmas.Bool.{cases_lt}
use Rattle.md_math.specs.LexOrder.{IsLexPositive, IsLexNonNegative}
use Rattle.md_math.proofs.Ring.{linear, ring}
use Rattle.md_math.proofs.Order.{lt_or_le}
use Rattle.md_math.proofs.LexLaws.{lex_cases, IsLexPositive-+ℤ, IsLexPositive-*ℤ, IsLexPositive-from_*ℤ, IsLexPositive-same, IsLexNonNegative-from_positive, IsLexNonNegative-*ℤ}
use Rattle.md_simplex.specs.Rules.{gap, key}
use Rattle.md_simplex.specs.Best.{IsLeastBelow, HasNoRowBelow, IsBest}

-- ---- a list whose places are looked at one after another

pub lex_zeros : (n : ℕ) (f : ℕ → ℤ) → ((k : ℕ) → k < n → f k ≡ pos 0) → IsLexNonNegative n f
lex_zeros n f zeros = record { at = λ k b _. (let z : f k ≡ pos 0 = zeros k b in omega (arith, linear)) }

pub lex_positive_at : (n place : ℕ) (f : ℕ → ℤ) → place < n → ((k : ℕ) → k < place → f k ≡ pos 0) → pos 0 <ℤ f place → IsLexNonNegative n f
lex_positive_at n place f b zeros p = IsLexNonNegative-from_positive n f (record { place = place; inside = b; before = zeros; positive = p })

pub lex_negative_at : (n place : ℕ) (f : ℕ → ℤ) → place < n → ((k : ℕ) → k < place → f k ≡ pos 0) → f place <ℤ pos 0 → IsLexPositive n (λ k. neg_ℤ (f k))
lex_negative_at n place f b zeros p = record {
  place = place;
  inside = b;
  before = λ k a. (let z : f k ≡ pos 0 = zeros k a in omega (arith, linear));
  positive = omega (arith, linear);
}

-- ---- one more row

module _ (m columns : ℕ) (e : ℕ → ℕ → ℤ) (column : ℕ) where
  pub best_none : HasNoRowBelow e column 0
  best_none = record { none = λ i a. absurd (omega arith) }

  -- a row without a positive entry
  pub best_skips : (n : ℕ) (best : Option ℕ) → IsBest m columns e column n best → e n column ≤ℤ pos 0 → IsBest m columns e column (n + 1) best
  best_skips n None h l = record {
    none = λ i a.
        elim (cases_lt i n) [
          | inl b ↦ h.none i b
          | inr b ↦ (let s : n ≡ i = omega arith in subst (λ k. e k column ≤ℤ pos 0) s l)
        ];
  }
  best_skips n (Some r) h l = record {
    inside = (let b : r < n = h.inside in omega arith);
    positive = h.positive;
    least = λ i a p.
        elim (cases_lt i n) [
          | inl b ↦ h.least i b p
          | inr b ↦ (let s : n ≡ i = omega arith in let q : e i column ≤ℤ pos 0 = subst (λ k. e k column ≤ℤ pos 0) s l in absurd (omega (arith, linear)))
        ];
  }

  gap_own : (n : ℕ) → IsLexNonNegative (m + 1) (gap m columns e column n n)
  gap_own n = lex_zeros (m + 1) (gap m columns e column n n) (λ k b. omega (arith, linear))

  own : (i n : ℕ) → n ≡ i → IsLexNonNegative (m + 1) (gap m columns e column i n)
  own i n s = subst (λ j. IsLexNonNegative (m + 1) (gap m columns e column j n)) s (gap_own n)

  -- the first row with a positive entry
  pub best_first : (n : ℕ) → HasNoRowBelow e column n → pos 0 <ℤ e n column → IsLeastBelow m columns e column (n + 1) n
  best_first n h p = record {
    inside = omega arith;
    positive = p;
    least = λ i a q.
        elim (cases_lt i n) [
          | inl b ↦ (let l : e i column ≤ℤ pos 0 = h.none i b in absurd (omega (arith, linear)))
          | inr b ↦ own i n (omega arith)
        ];
  }

  -- a row whose list is less than that of the best one
  through : (n r i : ℕ) → pos 0 <ℤ e r column → pos 0 <ℤ e n column → pos 0 <ℤ e i column → IsLexPositive (m + 1) (λ k. neg_ℤ (gap m columns e column n r k)) → IsLexNonNegative (m + 1) (gap m columns e column i r) → IsLexNonNegative (m + 1) (gap m columns e column i n)
  through n r i over_r over_n over_i less least =
      IsLexNonNegative-from_positive (m + 1) (gap m columns e column i n)
      (IsLexPositive-from_*ℤ (m + 1) (e r column) (gap m columns e column i n) over_r
      (IsLexPositive-same (m + 1) (λ k. e i column *ℤ neg_ℤ (gap m columns e column n r k) +ℤ e n column *ℤ gap m columns e column i r k) (λ k. e r column *ℤ gap m columns e column i n k)
      (λ k _. turned (e r column) (e n column) (e i column) (e i (key m columns k)) (e n (key m columns k)) (e r (key m columns k)))
      (IsLexPositive-+ℤ (m + 1) (λ k. e i column *ℤ neg_ℤ (gap m columns e column n r k)) (λ k. e n column *ℤ gap m columns e column i r k)
      (IsLexPositive-*ℤ (m + 1) (e i column) (λ k. neg_ℤ (gap m columns e column n r k)) over_i less)
      (IsLexNonNegative-*ℤ (m + 1) (e n column) (gap m columns e column i r) over_n least))))
    where
      turned : (x y z u v w : ℤ) → z *ℤ neg_ℤ (x *ℤ v -ℤ y *ℤ w) +ℤ y *ℤ (x *ℤ u -ℤ z *ℤ w) ≡ x *ℤ (y *ℤ u -ℤ z *ℤ v)
      turned x y z u v w = simp ring (omega (arith, linear))

  pub best_replaced : (n r : ℕ) → IsLeastBelow m columns e column n r → pos 0 <ℤ e n column → IsLexPositive (m + 1) (λ k. neg_ℤ (gap m columns e column n r k)) → IsLeastBelow m columns e column (n + 1) n
  best_replaced n r h p less = record {
    inside = omega arith;
    positive = p;
    least = λ i a q.
        elim (cases_lt i n) [
          | inl b ↦ through n r i h.positive p q less (h.least i b q)
          | inr b ↦ own i n (omega arith)
        ];
  }

  -- a row whose list is not less
  pub best_kept : (n r : ℕ) → IsLeastBelow m columns e column n r → IsLexNonNegative (m + 1) (gap m columns e column n r) → IsLeastBelow m columns e column (n + 1) r
  best_kept n r h least = record {
    inside = (let b : r < n = h.inside in omega arith);
    positive = h.positive;
    least = λ i a q.
        elim (cases_lt i n) [
          | inl b ↦ h.least i b q
          | inr b ↦ (let s : n ≡ i = omega arith in subst (λ j. IsLexNonNegative (m + 1) (gap m columns e column j r)) s least)
        ];
  }

  -- ---- there is a best row, or none

  best_more : (n : ℕ) (best : Option ℕ) → IsBest m columns e column n best → pos 0 <ℤ e n column → (r : ℕ) × IsLeastBelow m columns e column (n + 1) r
  best_more n None h p = (n, best_first n h p)
  best_more n (Some r) h p =
      elim (lex_cases (m + 1) (gap m columns e column n r)) [
        | inl zeros ↦ (r, best_kept n r h (lex_zeros (m + 1) (gap m columns e column n r) zeros))
        | inr (inl above) ↦ (r, best_kept n r h (IsLexNonNegative-from_positive (m + 1) (gap m columns e column n r) above))
        | inr (inr below) ↦ (n, best_replaced n r h p below)
      ]

  pub best_exists : (n : ℕ) → (best : Option ℕ) × IsBest m columns e column n best
  best_exists zero = (None, best_none)
  best_exists (suc n) =
      let (best, h) = best_exists n in
      elim (lt_or_le (pos 0) (e n column)) [
        | inl p ↦ (let (r, k) = best_more n best h p in (Some r, rw add-one at k))
        | inr l ↦ (best, rw add-one at (best_skips n best h l))
      ]
