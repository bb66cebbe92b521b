-- A loop over the records of rows: the multipliers of the rows up to the last that was found.
use Rattle.std.proofs.Common.{◌≡◌, ℕ, ◌<◌, ◌≤◌, ℤ, pos, true, false, List, [], ◌∷◌, ◌++◌, length, codes, Ok, Err, refl, sym, subst, ◌∙◌, arith}
use Rattle.md_math.specs.Lists.{number_at}
use Rattle.md_parts.specs.declared.refusal.AnswerRefusal.{AnswerRefusal}
use Rattle.md_parts.specs.Reading.{Rest, read_record}
use Rattle.md_parts.specs.Repeated.{comes_next}
use Rattle.md_parts.specs.Multipliers.{row_fields, after_row, row_records}
use Rattle.md_parts.proofs.Repeats.{IsSoFar, so_far-none, so_far-more, so_far-fails, so_far-all}
use Rattle.md_parts.proofs.Spread.{IsSpread, spread-none, spread-put, put, length-put}

pub record IsFound (rows count : ℕ) (start now : Rest) (face main : List ℤ) : Type 0 where
  pub records : List (List ℤ)
  pub so_far : IsSoFar (codes "row") (row_fields rows count) after_row 0 (length face) start now records
  pub face_is : IsSpread 1 records face
  pub main_is : IsSpread 2 records main
  pub same : length main ≡ length face
  pub few : length face ≤ rows

pub found-none : (rows count : ℕ) (start : Rest) → IsFound rows count start start [] []
found-none rows count start = record {
  records = [];
  so_far = so_far-none (codes "row") (row_fields rows count) after_row 0 start;
  face_is = spread-none 1;
  main_is = spread-none 2;
  same = refl;
  few = omega arith;
}

pub found-more : (rows count : ℕ) (start now next : Rest) (face main : List ℤ) (row : ℕ) (found : List ℤ) → IsFound rows count start now face main → comes_next (codes "row") now.left ≡ true
    → read_record (codes "row") (row_fields rows count (length face)) now ≡ Ok (pos row ∷ found, next) → length face ≤ row → row < rows
    → IsFound rows count start next (put face row (number_at found 0)) (put main row (number_at found 1))
found-more rows count start now next face main row found h comes one l m =
    let faces = length-put face row (number_at found 0) l in
    let same = h.same in
    let mains = length-put main row (number_at found 1) (omega arith) in
    record {
      records = h.records ++ (pos row ∷ found) ∷ [];
      so_far = subst (λ (n : ℕ). IsSoFar (codes "row") (row_fields rows count) after_row 0 n start next (h.records ++ (pos row ∷ found) ∷ [])) (sym faces)
          (so_far-more (codes "row") (row_fields rows count) after_row 0 (length face) start now next h.records (pos row ∷ found) h.so_far comes one);
      face_is = spread-put 1 h.records face row found (number_at found 0) h.face_is l refl;
      main_is = spread-put 2 h.records main row found (number_at found 1) h.main_is (omega arith) refl;
      same = mains ∙ sym faces;
      few = omega (arith, faces, m);
    }

pub found-fails : (rows count : ℕ) (start now : Rest) (face main : List ℤ) (refusal : AnswerRefusal) → IsFound rows count start now face main → comes_next (codes "row") now.left ≡ true
    → read_record (codes "row") (row_fields rows count (length face)) now ≡ Err refusal → row_records rows count start ≡ Err refusal
found-fails rows count start now face main refusal h comes one =
    so_far-fails (codes "row") (row_fields rows count) after_row 0 (length face) start now h.records refusal h.so_far comes one

pub found-all : (rows count : ℕ) (start now : Rest) (face main : List ℤ) → (h : IsFound rows count start now face main) → comes_next (codes "row") now.left ≡ false → row_records rows count start ≡ Ok (h.records, now)
found-all rows count start now face main h ends = so_far-all (codes "row") (row_fields rows count) after_row 0 (length face) start now h.records h.so_far ends
