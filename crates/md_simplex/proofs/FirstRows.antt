-- The rows of the first table are lexicographically positive.
use Rattle.std.proofs.Common.{◌≡◌, ◌⊎◌, ℕ, zero, suc, ◌+◌, ◌<◌, Bool, true, false, int_lt, if◌then◌else◌, ℤ, pos, negsuc, neg_ℤ, ◌*ℤ◌, ◌≤ℤ◌, ◌<ℤ◌, inl, inr, refl, ap, ◌∙◌, arith, eq-eqb, ne_eqb}
use Rattle.std.proofs.lemmas.Int.{ints}
use Rattle.std.proofs.lemmas.Bool.Decides.{nat_tests}
use Rattle.md_math.specs.LexOrder.{IsLexPositive}
use Rattle.md_math.proofs.Ring.{linear, neg_ℤ-*ℤ, one-*ℤ}
use Rattle.md_math.proofs.Order.{lt_or_same_or_gt}
use Rattle.md_lp.specs.Program.{Program, row_count, right_at}
use Rattle.md_dict.specs.FirstTable.{column_count, first_entry, first_basis, sign_at}
use Rattle.md_dict.proofs.FirstLaws.{IsFirstTable, IsFirstTable-first_entry, first_dictionary}
use Rattle.md_simplex.specs.declared.order.Order.{Order}
use Rattle.md_simplex.specs.Rules.{key}
use Rattle.md_simplex.proofs.PositiveRows.{HasPositiveRows}
use Rattle.md_simplex.proofs.PathLaws.{IsPositiveBasis, IsPositiveBasis-from}

-- a row of unit start columns, with a right side of at least 0
pub HasPositiveRows-first : (m n : ℕ) (t : ℕ → ℕ → ℤ) → IsFirstTable m n t → ((i : ℕ) → i < m → pos 0 ≤ℤ t i (n + m)) → HasPositiveRows m n t
HasPositiveRows-first m n t h rights = record { rows = λ i a. at i a (lt_or_same_or_gt (t i (n + m)) (pos 0)) }
  where
    own : (i : ℕ) → i < m → t i (n + i) ≡ pos 1
    own i a = h.units i i a a ∙ ap (λ (b : Bool). if b then pos 1 else pos 0) (eq-eqb i i refl)

    off : (i j : ℕ) → i < m → j < m → (i ≡ j → ⊥) → t i (n + j) ≡ pos 0
    off i j a b o = h.units i j a b ∙ ap (λ (b : Bool). if b then pos 1 else pos 0) (ne_eqb i j o)

    before : (i : ℕ) → i < m → t i (n + m) ≡ pos 0 → (k : ℕ) → k < suc i → t i (key m n k) ≡ pos 0
    before i a e zero b = e
    before i a e (suc j) b = off i j a (omega arith) (λ f. omega arith)

    at : (i : ℕ) → i < m → (t i (n + m) <ℤ pos 0) ⊎ (t i (n + m) ≡ pos 0) ⊎ (pos 0 <ℤ t i (n + m)) → IsLexPositive (m + 1) (λ k. t i (key m n k))
    at i a (inl l) = (let r : pos 0 ≤ℤ t i (n + m) = rights i a in absurd (omega (arith, linear)))
    at i a (inr (inl e)) = record { place = suc i; inside = omega arith; before = before i a e; positive = (let o : t i (n + i) ≡ pos 1 = own i a in omega (arith, ints)) }
    at i a (inr (inr l)) = record { place = 0; inside = omega arith; before = λ k b. absurd (omega arith); positive = l }

-- a number times its sign
sign_times : (z : ℤ) (b : Bool) → int_lt z (pos 0) ≡ b → pos 0 ≤ℤ ((if b then negsuc 0 else pos 1) *ℤ z)
sign_times z true e = (let n : negsuc 0 *ℤ z ≡ neg_ℤ (pos 1 *ℤ z) = neg_ℤ-*ℤ (pos 1) z in let o : pos 1 *ℤ z ≡ z = one-*ℤ z in omega (arith, ints))
sign_times z false e = (let o : pos 1 *ℤ z ≡ z = one-*ℤ z in omega (arith, ints))

right_is : (p : Program) (k : ℕ) → k < row_count p → first_entry p k (column_count p + row_count p) ≡ sign_at p k *ℤ right_at p k
right_is p k b = grind (arith, nat_tests)

pub right_nonneg : (p : Program) (k : ℕ) → k < row_count p → pos 0 ≤ℤ first_entry p k (column_count p + row_count p)
right_nonneg p k b = (let s : pos 0 ≤ℤ (sign_at p k *ℤ right_at p k) = sign_times (right_at p k) (int_lt (right_at p k) (pos 0)) refl in let e = right_is p k b in omega (arith, linear))

-- each dictionary of the first basis of a program has positive rows
pub IsPositiveBasis-first : (order : Order) (p : Program) → IsPositiveBasis order (row_count p) (column_count p) (first_entry p) (first_basis p)
IsPositiveBasis-first order p =
    IsPositiveBasis-from order (row_count p) (column_count p) (first_entry p) (first_basis p) (pos 1) (first_entry p)
    (first_dictionary (row_count p) (column_count p) (first_entry p) (IsFirstTable-first_entry p))
    (HasPositiveRows-first (row_count p) (column_count p) (first_entry p) (IsFirstTable-first_entry p) (right_nonneg p))
