-- The terms so far that stand at ascending columns, and where their columns are searched.
use Rattle.std.proofs.Common.{◌≡◌, ℕ, ◌+◌, ◌-◌, ◌<◌, ◌≤◌, inl, inr, List, length, Result, Ok, Err, IfOk, IfErr, get_or, sym, arith, ap, refl, ◌∙◌}
use Rattle.std.specs.List.Sorted.{IsSearchInRange, IsBinarySearchResult, IsNonDecreasingBy}
use Rattle.std.specs.Ordering.{nat_cmp, ordering_index}
use Rattle.std.proofs.lemmas.Bool.{cases_lt}
use Rattle.std.proofs.lemmas.Bool.Decides.{nat_tests}
use Rattle.std.proofs.lemmas.Cmp.{ranked}
use Rattle.std.proofs.lemmas.List.Sorted.{IsNonDecreasingBy-from_default}
use Rattle.md_lp.specs.declared.term.Term.{Term}
use Rattle.md_lp.specs.Shape.{column_in, IsAscending, HasPlaces}
use Rattle.md_lp.specs.Search.{IsGapFor}
use Rattle.md_lp.specs.declared.stored_term.StoredTerm.{StoredTerm}
use Rattle.md_lp.specs.Stored.{kept_column, shown_terms}
use Rattle.md_lp.proofs.StoredTerms.{no_stored, column_in-shown, length-shown}

-- the first n terms have their places, and `least` is one more than the last column, or 0
pub record IsPlacedBelow (columns : ℕ) (terms : List Term) (n least : ℕ) : Type 0 where
  pub below : (k : ℕ) → k < n → column_in terms k < columns
  pub ascending : (i k : ℕ) → i < k → k < n → column_in terms i < column_in terms k
  pub least_above : (k : ℕ) → k < n → column_in terms k < least
  pub none : n ≡ 0 → least ≡ 0
  pub last : 0 < n → least ≡ column_in terms (n - 1) + 1

pub IsPlacedBelow-none : (columns : ℕ) (terms : List Term) → IsPlacedBelow columns terms 0 0
IsPlacedBelow-none columns terms = record { below = λ k b. absurd (omega arith); ascending = λ i k l b. absurd (omega arith); least_above = λ k b. absurd (omega arith); none = λ _. refl; last = λ b. absurd (omega arith) }

pub IsPlacedBelow-more : (columns : ℕ) (terms : List Term) (n least column : ℕ) → IsPlacedBelow columns terms n least → column_in terms n ≡ column → least ≤ column → column < columns → IsPlacedBelow columns terms (n + 1) (column + 1)
IsPlacedBelow-more columns terms n least column h e l b = record {
  below = λ k c. elim (cases_lt k n) [ inl d ↦ h.below k d | inr d ↦ (let same : k ≡ n = omega arith in omega (arith, ap (column_in terms) same)) ];
  ascending = λ i k c d. elim (cases_lt k n) [
    | inl m ↦ h.ascending i k c m
    | inr m ↦ (let same : k ≡ n = omega arith in let before : column_in terms i < least = h.least_above i (omega arith) in omega (arith, ap (column_in terms) same))
  ];
  least_above = λ k c. elim (cases_lt k n) [ inl d ↦ (let before : column_in terms k < least = h.least_above k d in omega arith) | inr d ↦ (let same : k ≡ n = omega arith in omega (arith, ap (column_in terms) same)) ];
  none = λ z. absurd (omega arith);
  last = λ _. (let same : n + 1 - 1 ≡ n = omega arith in omega (arith, ap (column_in terms) same));
}

pub IsPlacedBelow-all : (columns : ℕ) (terms : List Term) (n least : ℕ) → IsPlacedBelow columns terms n least → n ≡ length terms → HasPlaces columns terms
IsPlacedBelow-all columns terms n least h e = record {
  below = λ k b. h.below k (omega arith);
  order = record { ascending = λ i k l b. h.ascending i k l (omega arith) };
}

-- a column below the least that may come next
pub HasPlaces-not_below : (columns : ℕ) (terms : List Term) (n least : ℕ) → IsPlacedBelow columns terms n least → n < length terms → column_in terms n < least → HasPlaces columns terms → ⊥
HasPlaces-not_below columns terms n least h b l p = elim (cases_lt 0 n) [
  | inl c ↦
      let before : column_in terms (n - 1) < column_in terms n = p.order.ascending (n - 1) n (omega arith) b in
      let last : least ≡ column_in terms (n - 1) + 1 = h.last c in
      omega arith
  | inr c ↦ (let zero : least ≡ 0 = h.none (omega arith) in omega arith)
]

pub HasPlaces-not_past : (columns : ℕ) (terms : List Term) (n : ℕ) → n < length terms → columns ≤ column_in terms n → HasPlaces columns terms → ⊥
HasPlaces-not_past columns terms n b l p = (let inside : column_in terms n < columns = p.below n b in omega arith)

rising : (terms : List StoredTerm) (i j : ℕ) → IsAscending (shown_terms terms) → i ≤ j → j < length (shown_terms terms) → column_in (shown_terms terms) i ≤ column_in (shown_terms terms) j
rising terms i j h l b = elim (cases_lt i j) [
  | inl below ↦ (let above : column_in (shown_terms terms) i < column_in (shown_terms terms) j = h.ascending i j below b in omega arith)
  | inr not_below ↦ (let same : i ≡ j = omega arith in omega (arith, ap (column_in (shown_terms terms)) same))
]

-- the comparisons with a column rise along the terms, as a binary search asks
comparisons_rise : (terms : List StoredTerm) (column : ℕ) → IsAscending (shown_terms terms) → IsNonDecreasingBy (λ t. ordering_index (nat_cmp (kept_column t) column)) terms
comparisons_rise terms column h = IsNonDecreasingBy-from_default (λ t. ordering_index (nat_cmp (kept_column t) column)) terms no_stored (λ i j le in_range.
    let inside : j < length (shown_terms terms) = omega (arith, length-shown terms) in
    let columns_rise : kept_column (get_or terms i no_stored) ≤ kept_column (get_or terms j no_stored) = rw (column_in-shown terms i, column_in-shown terms j) at (rising terms i j h le inside) in
    grind (arith, nat_tests))

-- a binary search by column ends at the column, or at the gap for it
pub searched : (terms : List StoredTerm) (column : ℕ) → IsAscending (shown_terms terms) → (r : Result ℕ ℕ) → IsSearchInRange r (length terms) → IsBinarySearchResult (λ t. nat_cmp (kept_column t) column) terms r → record { found : IfOk r (λ at. (at < length terms) × (column_in (shown_terms terms) at ≡ column)); absent : IfErr r (IsGapFor (shown_terms terms) column) }
searched terms column h (Ok at) in_range equal = record { found = (in_range, column_in-shown terms at ∙ ranked _ column _ (sym (equal no_stored))); absent = tt }
searched terms column h (Err at) in_range parted = record {
  found = tt;
  absent = record {
    in_range = omega (arith, length-shown terms);
    smaller_before = λ j lt. rw (column_in-shown terms j) (ranked _ column _ (sym ((parted (comparisons_rise terms column h)).0 j no_stored (omega arith) lt)));
    greater_after = λ j le lt. rw (column_in-shown terms j) (ranked _ column _ (sym ((parted (comparisons_rise terms column h)).1 j no_stored le (omega (arith, length-shown terms)))));
  };
}
