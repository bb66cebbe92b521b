-- The records of pivots and of an entry, by the steps over their fields.
use Rattle.std.proofs.Common.{◌≡◌, ℤ, pos, true, false, List, [], ◌∷◌, ◌++◌, map, codes, Ok, Err, refl, sym, ap, ◌∙◌}
use Rattle.std.proofs.lemmas.List.{map-append}
use Rattle.md_lp.specs.declared.pivot.Pivot.{Pivot}
use Rattle.md_lp.specs.declared.entry.Entry.{Entry}
use Rattle.md_parts.specs.declared.refusal.AnswerRefusal.{AnswerRefusal}
use Rattle.md_parts.specs.Fields.{Field, table_place, wide_number, wide_denominator}
use Rattle.md_parts.specs.Left.{Left}
use Rattle.md_parts.specs.Reading.{Rest, read_record}
use Rattle.md_parts.specs.Records.{record_with}
use Rattle.md_parts.specs.FieldsRead.{Reads, FailsIn}
use Rattle.md_parts.specs.Repeated.{comes_next}
use Rattle.md_parts.specs.Path.{pivot_fields, no_change, pivot_of, path_of, entry_of}
use Rattle.md_parts.proofs.FieldSteps.{reads-then, fails-then, fails-before}
use Rattle.md_parts.proofs.RecordSteps.{record-read, record-fails, record-missing}
use Rattle.md_parts.proofs.Repeats.{IsSoFar, so_far-none, so_far-more, so_far-fails, so_far-all}

-- ---- pivots

pub pivot-read : (rest after : Rest) (left end : Left) (numbers : List ℤ) → record_with (codes "pivot") 2 rest ≡ Ok (left, after) → Reads (table_place ∷ table_place ∷ []) left end numbers
    → read_record (codes "pivot") (pivot_fields tt) rest ≡ Ok (numbers, after)
pivot-read rest after left end numbers h reads = record-read (codes "pivot") (pivot_fields tt) 2 rest after left end numbers refl h reads

pub pivot-fails : (rest after : Rest) (left : Left) (refusal : AnswerRefusal) → record_with (codes "pivot") 2 rest ≡ Ok (left, after) → FailsIn (table_place ∷ table_place ∷ []) left refusal
    → read_record (codes "pivot") (pivot_fields tt) rest ≡ Err refusal
pivot-fails rest after left refusal h fails = record-fails (codes "pivot") (pivot_fields tt) 2 rest after left refusal refl h fails

pub pivot-missing : (rest : Rest) (refusal : AnswerRefusal) → record_with (codes "pivot") 2 rest ≡ Err refusal → read_record (codes "pivot") (pivot_fields tt) rest ≡ Err refusal
pivot-missing rest refusal h = record-missing (codes "pivot") (pivot_fields tt) 2 rest refusal refl h

-- ---- a path

pub record IsWalked (start now : Rest) (path : List Pivot) : Type 0 where
  pub records : List (List ℤ)
  pub so_far : IsSoFar (codes "pivot") pivot_fields no_change tt tt start now records
  pub path_is : path ≡ map pivot_of records

pub walked-none : (start : Rest) → IsWalked start start []
walked-none start = record { records = []; so_far = so_far-none (codes "pivot") pivot_fields no_change tt start; path_is = refl }

pub walked-more : (start now next : Rest) (path : List Pivot) (pivot : Pivot) → IsWalked start now path → comes_next (codes "pivot") now.left ≡ true
    → read_record (codes "pivot") (pivot_fields tt) now ≡ Ok (pos pivot.row ∷ pos pivot.column ∷ [], next) → IsWalked start next (path ++ pivot ∷ [])
walked-more start now next path pivot h comes one = record {
  records = h.records ++ (pos pivot.row ∷ pos pivot.column ∷ []) ∷ [];
  so_far = so_far-more (codes "pivot") pivot_fields no_change tt tt start now next h.records (pos pivot.row ∷ pos pivot.column ∷ []) h.so_far comes one;
  path_is = ap (λ (ps : List Pivot). ps ++ pivot ∷ []) h.path_is ∙ sym (map-append pivot_of h.records ((pos pivot.row ∷ pos pivot.column ∷ []) ∷ []));
}

pub walked-fails : (start now : Rest) (path : List Pivot) (refusal : AnswerRefusal) → IsWalked start now path → comes_next (codes "pivot") now.left ≡ true
    → read_record (codes "pivot") (pivot_fields tt) now ≡ Err refusal → path_of start ≡ Err refusal
walked-fails start now path refusal h comes one = rw (so_far-fails (codes "pivot") pivot_fields no_change tt tt start now h.records refusal h.so_far comes one) refl

pub walked-all : (start now : Rest) (path : List Pivot) → IsWalked start now path → comes_next (codes "pivot") now.left ≡ false → path_of start ≡ Ok (path, now)
walked-all start now path h ends =
    rw (so_far-all (codes "pivot") pivot_fields no_change tt tt start now h.records h.so_far ends) (ap (λ (ps : List Pivot). Ok (ps, now)) (sym h.path_is))

-- ---- an entry

abbrev entry_fields : List Field
entry_fields = table_place ∷ table_place ∷ wide_number ∷ wide_denominator ∷ []

pub entry-missing : (rest : Rest) (refusal : AnswerRefusal) → record_with (codes "wide") 4 rest ≡ Err refusal → entry_of rest ≡ Err refusal
entry-missing rest refusal h = rw (record-missing (codes "wide") entry_fields 4 rest refusal refl h) refl

pub entry-place : (rest after : Rest) (left : Left) (refusal : AnswerRefusal) → record_with (codes "wide") 4 rest ≡ Ok (left, after) → FailsIn (table_place ∷ table_place ∷ []) left refusal → entry_of rest ≡ Err refusal
entry-place rest after left refusal h fails =
    rw (record-fails (codes "wide") entry_fields 4 rest after left refusal refl h (fails-before (table_place ∷ table_place ∷ []) (wide_number ∷ wide_denominator ∷ []) left refusal fails)) refl

pub entry-number : (rest after : Rest) (left mid : Left) (places : List ℤ) (refusal : AnswerRefusal) → record_with (codes "wide") 4 rest ≡ Ok (left, after) → Reads (table_place ∷ table_place ∷ []) left mid places
    → FailsIn (wide_number ∷ wide_denominator ∷ []) mid refusal → entry_of rest ≡ Err refusal
entry-number rest after left mid places refusal h first fails =
    rw (record-fails (codes "wide") entry_fields 4 rest after left refusal refl h (fails-then (table_place ∷ table_place ∷ []) (wide_number ∷ wide_denominator ∷ []) left mid places refusal first fails)) refl

pub entry-read : (rest after : Rest) (left mid end : Left) (entry : Entry) → record_with (codes "wide") 4 rest ≡ Ok (left, after) → Reads (table_place ∷ table_place ∷ []) left mid (pos entry.row ∷ pos entry.column ∷ [])
    → Reads (wide_number ∷ wide_denominator ∷ []) mid end (entry.num ∷ entry.den ∷ []) → entry_of rest ≡ Ok (entry, after)
entry-read rest after left mid end entry h first last =
    rw (record-read (codes "wide") entry_fields 4 rest after left end (pos entry.row ∷ pos entry.column ∷ entry.num ∷ entry.den ∷ []) refl h
    (reads-then (table_place ∷ table_place ∷ []) (wide_number ∷ wide_denominator ∷ []) left mid end (pos entry.row ∷ pos entry.column ∷ []) (entry.num ∷ entry.den ∷ []) first last)) refl
