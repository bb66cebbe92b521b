-- Sums over the terms of a row are sums over the columns, and a term that stands alone is the coefficient.
use Rattle.std.proofs.Common.{◌≡◌, ◌≢◌, ℕ, zero, suc, ◌<◌, ◌≤◌, inl, inr, if◌then◌else◌, eqb, eq-eqb, ne_eqb, ℤ, pos, ◌+ℤ◌, ◌*ℤ◌, List, [], ◌∷◌, ◌++◌, length, get_or, All, refl, sym, ap, ◌∙◌, subst, arith}
use Rattle.std.proofs.lemmas.Bool.{cases_eq}
use Rattle.std.proofs.lemmas.List.Elements.{All-head, All-tail, All-from_get_or}
use Rattle.md_math.specs.Sums.{dot, total_by}
use Rattle.md_math.specs.Sizes.{IsWithin}
use Rattle.md_math.proofs.Ring.{linear, zero-*ℤ}
use Rattle.md_math.proofs.SumLaws.{sum_to-zero, sum_to-single, +ℤ-dot}
use Rattle.md_math.proofs.SizeLaws.{IsWithin-zero}
use Rattle.md_lp.specs.declared.term.Term.{Term}
use Rattle.md_lp.specs.Program.{value_of}
use Rattle.md_lp.specs.Shape.{column_in, IsAscending, HasPlaces}

-- the term that stands past the end of a list
abbrev pub no_term : Term
no_term = record { column = 0; value = pos 0 }

-- ---- one term

-- what a term gives to a column
abbrev pub share : Term → ℕ → ℤ
share t j = if eqb t.column j then t.value else pos 0

share-here : (t : Term) (j : ℕ) → t.column ≡ j → share t j ≡ t.value
share-here t j e = rw (eq-eqb t.column j e) refl

share-elsewhere : (t : Term) (j : ℕ) → t.column ≢ j → share t j ≡ pos 0
share-elsewhere t j d = rw (ne_eqb t.column j d) refl

-- the sum over the columns that one term makes
dot-share : (n : ℕ) (t : Term) (x : ℕ → ℤ) → t.column < n → dot n (share t) x ≡ t.value *ℤ x t.column
dot-share n t x b =
    sum_to-single n t.column (λ j. share t j *ℤ x j) b (λ j c d. rw (share-elsewhere t j (λ e. d (sym e))) (zero-*ℤ (x j)))
    ∙ ap (λ z. z *ℤ x t.column) (share-here t t.column refl)

-- ---- a row

-- the sum over the columns is the sum over the terms
pub dot-value_of : (n : ℕ) (terms : List Term) (x : ℕ → ℤ) → All (λ t. t.column < n) terms → dot n (value_of terms) x ≡ total_by (λ t. t.value *ℤ x t.column) terms
dot-value_of n [] x h = sum_to-zero n _ (λ j b. zero-*ℤ (x j))
dot-value_of n (t ∷ terms) x h =
    let split : dot n (value_of (t ∷ terms)) x ≡ dot n (share t) x +ℤ dot n (value_of terms) x = +ℤ-dot n (share t) (value_of terms) x in
    let first : dot n (share t) x ≡ t.value *ℤ x t.column = dot-share n t x (All-head (λ t. t.column < n) t terms h) in
    let rest : dot n (value_of terms) x ≡ total_by (λ t. t.value *ℤ x t.column) terms = dot-value_of n terms x (All-tail (λ t. t.column < n) t terms h) in
    omega (arith, linear)

-- a column at which no term stands
pub value_of-absent : (terms : List Term) (j : ℕ) → ((k : ℕ) → k < length terms → column_in terms k ≢ j) → value_of terms j ≡ pos 0
value_of-absent [] j h = refl
value_of-absent (t ∷ terms) j h =
    let first : share t j ≡ pos 0 = share-elsewhere t j (h 0 (omega arith)) in
    let rest : value_of terms j ≡ pos 0 = value_of-absent terms j (λ k b. h (suc k) (omega arith)) in
    omega (arith, linear)

pub IsAscending-tail : (t : Term) (terms : List Term) → IsAscending (t ∷ terms) → IsAscending terms
IsAscending-tail t terms h = record { ascending = λ i k l b. h.ascending (suc i) (suc k) (omega arith) (omega arith) }

-- the coefficient is what the one term at the column has
pub value_of-present : (terms : List Term) (k : ℕ) → IsAscending terms → k < length terms → value_of terms (column_in terms k) ≡ (get_or terms k no_term).value
value_of-present [] k h b = absurd (omega arith)
value_of-present (t ∷ terms) zero h b =
    let first : share t t.column ≡ t.value = share-here t t.column refl in
    let rest : value_of terms t.column ≡ pos 0 = value_of-absent terms t.column (λ k c e. (let above : t.column < column_in terms k = h.ascending 0 (suc k) (omega arith) (omega arith) in omega arith)) in
    omega (arith, linear)
value_of-present (t ∷ terms) (suc k) h b =
    let inside : k < length terms = omega arith in
    let above : t.column < column_in terms k = h.ascending 0 (suc k) (omega arith) (omega arith) in
    let first : share t (column_in terms k) ≡ pos 0 = share-elsewhere t (column_in terms k) (λ e. omega arith) in
    let rest : value_of terms (column_in terms k) ≡ (get_or terms k no_term).value = value_of-present terms k (IsAscending-tail t terms h) inside in
    omega (arith, linear)

-- a coefficient is no greater in size than the terms
pub value_of-within : (limit : ℕ) (terms : List Term) (j : ℕ) → IsAscending terms → All (λ t. IsWithin limit t.value) terms → IsWithin limit (value_of terms j)
value_of-within limit [] j h s = IsWithin-zero limit
value_of-within limit (t ∷ terms) j h s =
    elim (cases_eq t.column j) [
      | inl e ↦
          let first : share t j ≡ t.value = share-here t j e in
          let rest : value_of terms j ≡ pos 0 = value_of-absent terms j (λ k c f. (let above : t.column < column_in terms k = h.ascending 0 (suc k) (omega arith) (omega arith) in omega arith)) in
          let all : value_of (t ∷ terms) j ≡ t.value = omega (arith, linear) in
          subst (IsWithin limit) (sym all) (All-head (λ t. IsWithin limit t.value) t terms s)
      | inr d ↦
          let first : share t j ≡ pos 0 = share-elsewhere t j d in
          let all : value_of (t ∷ terms) j ≡ value_of terms j = omega (arith, linear) in
          subst (IsWithin limit) (sym all) (value_of-within limit terms j (IsAscending-tail t terms h) (All-tail (λ t. IsWithin limit t.value) t terms s))
    ]

-- the terms of two lists, one after the other
pub value_of-append : (us ts : List Term) (j : ℕ) → value_of (us ++ ts) j ≡ value_of us j +ℤ value_of ts j
value_of-append [] ts j = omega (arith, linear)
value_of-append (u ∷ us) ts j = omega (arith, linear, value_of-append us ts j)

-- ---- places

pub All-below : (n : ℕ) (terms : List Term) → HasPlaces n terms → All (λ t. t.column < n) terms
All-below n terms h = All-from_get_or (λ t. t.column < n) terms no_term h.below

-- the columns ascend at least as fast as the places
column_in-at_least : (n : ℕ) (terms : List Term) → HasPlaces n terms → (k : ℕ) → k < length terms → k ≤ column_in terms k
column_in-at_least n terms h zero b = omega arith
column_in-at_least n terms h (suc k) b =
    let before : k ≤ column_in terms k = column_in-at_least n terms h k (omega arith) in
    let step : column_in terms k < column_in terms (suc k) = h.order.ascending k (suc k) (omega arith) b in
    omega arith

-- so a row has no more terms than columns
pub length-HasPlaces : (n : ℕ) (terms : List Term) → HasPlaces n terms → length terms ≤ n
length-HasPlaces n terms h = at (length terms) (λ k b. column_in-at_least n terms h k b) h.below
  where
    at : (m : ℕ) → ((k : ℕ) → k < m → k ≤ column_in terms k) → ((k : ℕ) → k < m → column_in terms k < n) → m ≤ n
    at zero p q = omega arith
    at (suc m) p q = (let a : m ≤ column_in terms m = p m (omega arith) in let b : column_in terms m < n = q m (omega arith) in omega arith)
