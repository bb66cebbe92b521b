-- The first dictionary, built number by number.
use Rattle.std.proofs.Common.{◌≡◌, ℕ, ◌+◌, ◌*◌, ◌^◌, ◌<◌, ◌≤◌, List, [], ◌∷◌, ◌++◌, length, refl, sym, ap, ap₂, ◌∙◌, subst, inl, inr, arith, ℤ, pos, neg_ℤ, lt-ltb, le-ltb, eq-eqb, ne_eqb, mul-le-mul_right}
use Rattle.std.proofs.lemmas.Bool.{cases_lt}
use Rattle.std.proofs.lemmas.List.{get_or_append_left, get_or_push, length_push}
use Rattle.md_math.specs.Lists.{number_at}
use Rattle.md_math.specs.Sizes.{IsWithin}
use Rattle.md_math.specs.Sums.{sum_to}
use Rattle.md_math.proofs.SumLaws.{sum_to-same}
use Rattle.md_lp.specs.Program.{Program, row_count}
use Rattle.md_dict.specs.FirstTable.{column_count, first_column, first_number, row_entry, main_entry}
use Rattle.md_dict.specs.Start.{IsBuilt}
use Rattle.md_dict.proofs.Writing.{same_row, place_inside}

pub IsBuilt-nil : (p : Program) → IsBuilt p []
IsBuilt-nil p = record { numbers = λ r s _ b. absurd (omega arith); small = λ k b _. absurd (omega arith) }

pub IsBuilt-push : (p : Program) (kept : List ℤ) (r s : ℕ) (x : ℤ) → IsBuilt p kept → length kept ≡ r * (column_count p + 1) + s → s < column_count p + 1 → x ≡ first_number p r s → (r < row_count p → IsWithin (2 ^ 44) x) → IsBuilt p (kept ++ x ∷ [])
IsBuilt-push p kept r s x h e a v w = record {
  numbers = λ i t b c.
      elim (cases_lt (i * (column_count p + 1) + t) (length kept)) [
        | inl l ↦ get_or_append_left kept (x ∷ []) (pos 0) (i * (column_count p + 1) + t) l ∙ h.numbers i t b l
        | inr l ↦
            let end : i * (column_count p + 1) + t ≡ r * (column_count p + 1) + s = omega (arith, length_push kept x) in
            let row : i ≡ r = same_row (column_count p + 1) i t r s b a end in
            let place : t ≡ s = place_same i t row end in
            get_or_push kept x (pos 0) (i * (column_count p + 1) + t) (e ∙ sym end) ∙ v ∙ ap₂ (λ m n. first_number p m n) (sym row) (sym place)
      ];
  small = λ k b c.
      elim (cases_lt k (length kept)) [
        | inl l ↦ subst (IsWithin (2 ^ 44)) (sym (get_or_append_left kept (x ∷ []) (pos 0) k l)) (h.small k l c)
        | inr l ↦
            let end : length kept ≡ k = omega (arith, length_push kept x) in
            subst (IsWithin (2 ^ 44)) (sym (get_or_push kept x (pos 0) k end)) (w (row_below k c (sym end ∙ e)))
      ];
}
  where
    place_same : (i t : ℕ) → i ≡ r → i * (column_count p + 1) + t ≡ r * (column_count p + 1) + s → t ≡ s
    place_same i t same q = omega (arith, ap (λ m. m * (column_count p + 1)) same)

    row_below : (k : ℕ) → k < row_count p * (column_count p + 1) → k ≡ r * (column_count p + 1) + s → r < row_count p
    row_below k c q =
        elim (cases_lt r (row_count p)) [
          | inl l ↦ l
          | inr l ↦ absurd (let m : row_count p * (column_count p + 1) ≤ r * (column_count p + 1) = mul-le-mul_right (column_count p + 1) l in omega arith)
        ]

-- the face row is minus the sum of the rows that are built
pub face_is : (p : Program) (kept : List ℤ) (s : ℕ) → IsBuilt p kept → s < column_count p + 1 → row_count p * (column_count p + 1) ≤ length kept → neg_ℤ (sum_to (row_count p) (λ r. number_at kept (r * (column_count p + 1) + s))) ≡ first_number p (row_count p) s
face_is p kept s h a l =
    ap neg_ℤ (sum_to-same (row_count p) _ (λ k. row_entry p k (first_column p s)) (λ k b. h.numbers k s a (omega (arith, place_inside (column_count p + 1) k s (row_count p) a b)) ∙ row_is k b))
    ∙ sym face
  where
    row_is : (k : ℕ) → k < row_count p → first_number p k s ≡ row_entry p k (first_column p s)
    row_is k b = rw (lt-ltb k (row_count p) b) refl

    face : first_number p (row_count p) s ≡ neg_ℤ (sum_to (row_count p) (λ k. row_entry p k (first_column p s)))
    face = rw (le-ltb (row_count p) (row_count p) (omega arith), eq-eqb (row_count p) (row_count p) refl) refl

-- the main row
pub main_is : (p : Program) (r s : ℕ) → row_count p < r → s < column_count p + 1 → main_entry p s ≡ first_number p r s
main_is p r s a b =
    elim (cases_lt s (column_count p)) [
      | inl l ↦ sym (whole ∙ ap (main_entry p) (let e : first_column p s ≡ s = rw (lt-ltb s (column_count p) l) refl in e))
      | inr l ↦
          let none : main_entry p s ≡ pos 0 = rw (le-ltb s p.columns (omega arith)) refl in
          let right : first_column p s ≡ column_count p + row_count p = rw (le-ltb s (column_count p) l) refl in
          none ∙ sym (whole ∙ (rw (right, le-ltb (column_count p + row_count p) p.columns (omega arith)) refl))
    ]
  where
    whole : first_number p r s ≡ main_entry p (first_column p s)
    whole = rw (le-ltb r (row_count p) (omega arith), ne_eqb r (row_count p) (λ e. omega arith)) refl
