-- Multipliers of all rows from the records of some.
use Rattle.std.proofs.Common.{◌≡◌, ◌≢◌, ℕ, zero, suc, ◌+◌, ◌-◌, ◌<◌, ◌≤◌, ℤ, pos, Bool, true, false, List, [], ◌∷◌, ◌++◌, length, replicate, Option, None, Some, if◌then◌else◌, refl, sym, ap, ◌∙◌, arith, length-append, inl, inr}
use Rattle.std.proofs.lemmas.List.{length-replicate, get_or_append_left, get_or-append_right}
use Rattle.std.proofs.lemmas.Bool.{cases_lt}
use Rattle.std.specs.Ordering.{int_eq}
use Rattle.std.proofs.lemmas.Bool.Decides.{Decides-int_eq}
use Rattle.md_math.specs.Lists.{number_at}
use Rattle.md_math.proofs.Builders.{same_list_to}
use Rattle.md_parts.specs.Multipliers.{record_of, number_in, number_for, numbers_for}

-- ---- one record more

record_of-if : (b : Bool) (numbers : List ℤ) (o : Option (List ℤ)) → b ≡ false → if◌then◌else◌ {A = Option (List ℤ)} b (Some numbers) o ≡ o
record_of-if true numbers o h = cc
record_of-if false numbers o h = refl

-- the record of another row does not matter
record_of-other : (records : List (List ℤ)) (numbers : List ℤ) (row : ℕ) → int_eq (number_at numbers 0) (pos row) ≡ false → record_of (records ++ numbers ∷ []) row ≡ record_of records row
record_of-other [] numbers row h = rw h refl
record_of-other (first ∷ others) numbers row h =
    ap (λ (o : Option (List ℤ)). if◌then◌else◌ {A = Option (List ℤ)} (int_eq (number_at first 0) (pos row)) (Some first) o) (record_of-other others numbers row h)

own-after : (b : Bool) (first : List ℤ) (before after : Option (List ℤ)) (numbers : List ℤ) → if◌then◌else◌ {A = Option (List ℤ)} b (Some first) before ≡ None → (before ≡ None → after ≡ Some numbers)
    → if◌then◌else◌ {A = Option (List ℤ)} b (Some first) after ≡ Some numbers
own-after true first before after numbers e next = absurd (let w : Some first ≡ None = e in cc)
own-after false first before after numbers e next = next e

-- the first record of a row
record_of-own : (records : List (List ℤ)) (numbers : List ℤ) (row : ℕ) → record_of records row ≡ None → int_eq (number_at numbers 0) (pos row) ≡ true → record_of (records ++ numbers ∷ []) row ≡ Some numbers
record_of-own [] numbers row absent h = rw h refl
record_of-own (first ∷ others) numbers row absent h =
    own-after (int_eq (number_at first 0) (pos row)) first (record_of others row) (record_of (others ++ numbers ∷ []) row) numbers absent (λ e. record_of-own others numbers row e h)

-- ---- the list so far

-- the numbers are those that the records have at a place, and no record is of a row past them
pub record IsSpread (place : ℕ) (records : List (List ℤ)) (numbers : List ℤ) : Type 0 where
  pub each : (row : ℕ) → row < length numbers → number_at numbers row ≡ number_for place records row
  pub absent : (row : ℕ) → length numbers ≤ row → record_of records row ≡ None

pub spread-none : (place : ℕ) → IsSpread place [] []
spread-none place = record { each = λ row l. absurd (omega arith); absent = λ row l. refl }

pub int_eq-own : (row : ℕ) → int_eq (pos row) (pos row) ≡ true
int_eq-own row = (Decides-int_eq (pos row) (pos row)).1 refl

pub int_eq-other : (a b : ℕ) → a ≢ b → int_eq (pos a) (pos b) ≡ false
int_eq-other a b ne = by_test (int_eq (pos a) (pos b)) refl
  where
    by_test : (t : Bool) → int_eq (pos a) (pos b) ≡ t → t ≡ false
    by_test true e = absurd (ne (let same : pos a ≡ pos b = (Decides-int_eq (pos a) (pos b)).0 e in cc))
    by_test false e = refl

zeros-at : (n k : ℕ) → number_at (replicate n (pos 0)) k ≡ pos 0
zeros-at zero k = refl
zeros-at (suc n) zero = refl
zeros-at (suc n) (suc k) = zeros-at n k

-- zeros after the numbers
pub number-filled : (numbers : List ℤ) (n k : ℕ) → length numbers ≤ k → number_at (numbers ++ replicate n (pos 0)) k ≡ pos 0
number-filled numbers n k l =
    get_or-append_right numbers (replicate n (pos 0)) (length numbers) k (pos 0) refl l ∙ zeros-at n (k - length numbers)

length-filled : (numbers : List ℤ) (n : ℕ) → length (numbers ++ replicate n (pos 0)) ≡ length numbers + n
length-filled numbers n = length-append numbers (replicate n (pos 0)) ∙ ap (λ (k : ℕ). length numbers + k) (length-replicate n (pos 0))

-- a number at a row, with zeros before it
abbrev pub put : List ℤ → ℕ → ℤ → List ℤ
put numbers row number = (numbers ++ replicate (row - length numbers) (pos 0)) ++ number ∷ []

pub length-put : (numbers : List ℤ) (row : ℕ) (number : ℤ) → length numbers ≤ row → length (put numbers row number) ≡ row + 1
length-put numbers row number l =
    let filled = length-filled numbers (row - length numbers) in
    length-append (numbers ++ replicate (row - length numbers) (pos 0)) (number ∷ []) ∙ omega (arith, filled)

-- the numbers with zeros after them are still those of the records
filled-each : (place : ℕ) (records : List (List ℤ)) (numbers : List ℤ) (n row : ℕ) → IsSpread place records numbers → number_at (numbers ++ replicate n (pos 0)) row ≡ number_for place records row
filled-each place records numbers n row h =
    elim (cases_lt row (length numbers)) [
      | inl l ↦ get_or_append_left numbers (replicate n (pos 0)) (pos 0) row l ∙ h.each row l
      | inr l ↦ number-filled numbers n row l ∙ ap (λ o. number_in place o) (sym (h.absent row l))
    ]

pub spread-put : (place : ℕ) (records : List (List ℤ)) (numbers : List ℤ) (row : ℕ) (found : List ℤ) (number : ℤ) → IsSpread place records numbers → length numbers ≤ row
    → number ≡ number_at (pos row ∷ found) place → IsSpread place (records ++ (pos row ∷ found) ∷ []) (put numbers row number)
spread-put place records numbers row found number h l is =
    let front = numbers ++ replicate (row - length numbers) (pos 0) in
    let long : length front ≡ row = length-filled numbers (row - length numbers) ∙ omega arith in
    let whole = length-put numbers row number l in
    record {
      each = λ k b.
          elim (cases_lt k row) [
            | inl m ↦
                get_or_append_left front (number ∷ []) (pos 0) k (omega arith) ∙ filled-each place records numbers (row - length numbers) k h
                ∙ ap (λ o. number_in place o) (sym (record_of-other records (pos row ∷ found) k (int_eq-other row k (omega arith))))
            | inr m ↦
                let same : k ≡ row = omega (arith, b, whole, m) in
                let first : k - row ≡ 0 = omega arith in
                get_or-append_right front (number ∷ []) row k (pos 0) long m ∙ ap (λ (i : ℕ). number_at (number ∷ []) i) first ∙ is
                ∙ ap (λ o. number_in place o) (sym (record_of-own records (pos row ∷ found) k (h.absent k (omega (arith, l, m))) (rw same (int_eq-own row))))
          ];
      absent = λ k b. record_of-other records (pos row ∷ found) k (int_eq-other row k (omega (arith, b, whole))) ∙ h.absent k (omega (arith, b, whole, l));
    }

-- the numbers of all rows
pub spread-all : (place rows : ℕ) (records : List (List ℤ)) (numbers : List ℤ) → IsSpread place records numbers → length numbers ≤ rows
    → numbers ++ replicate (rows - length numbers) (pos 0) ≡ numbers_for place rows records
spread-all place rows records numbers h l =
    same_list_to (numbers ++ replicate (rows - length numbers) (pos 0)) rows (number_for place records) (pos 0)
    (length-filled numbers (rows - length numbers) ∙ omega arith) (λ k b. filled-each place records numbers (rows - length numbers) k h)
