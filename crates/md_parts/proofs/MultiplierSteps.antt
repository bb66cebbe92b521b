-- The records of multipliers, by the steps over their fields.
use Rattle.std.proofs.Common.{◌≡◌, ℕ, ◌+◌, ℤ, pos, List, [], ◌∷◌, length, replicate, codes, Ok, Err, refl, ap}
use Rattle.std.proofs.lemmas.List.{length-replicate}
use Rattle.md_parts.specs.declared.refusal.AnswerRefusal.{AnswerRefusal}
use Rattle.md_parts.specs.Fields.{any_number, denominator_field, place_field}
use Rattle.md_parts.specs.Left.{Left}
use Rattle.md_parts.specs.Reading.{Rest, read_record}
use Rattle.md_parts.specs.Records.{record_with}
use Rattle.md_parts.specs.FieldsRead.{Reads, FailsIn}
use Rattle.md_parts.specs.Multipliers.{bound_denominator, row_fields}
use Rattle.md_parts.proofs.RecordSteps.{record-read, record-fails, record-missing, named-read, names-fail, numbers-fail, named-missing}

-- the denominator
pub bound-read : (rest after : Rest) (left end : Left) (den : ℤ) → record_with (codes "bound") 1 rest ≡ Ok (left, after) → Reads (denominator_field ∷ []) left end (den ∷ []) → bound_denominator rest ≡ Ok (den, after)
bound-read rest after left end den h reads =
    rw (record-read (codes "bound") (denominator_field ∷ []) 1 rest after left end (den ∷ []) refl h reads) refl

pub bound-fails : (rest after : Rest) (left : Left) (refusal : AnswerRefusal) → record_with (codes "bound") 1 rest ≡ Ok (left, after) → FailsIn (denominator_field ∷ []) left refusal → bound_denominator rest ≡ Err refusal
bound-fails rest after left refusal h fails =
    rw (record-fails (codes "bound") (denominator_field ∷ []) 1 rest after left refusal refl h fails) refl

pub bound-missing : (rest : Rest) (refusal : AnswerRefusal) → record_with (codes "bound") 1 rest ≡ Err refusal → bound_denominator rest ≡ Err refusal
bound-missing rest refusal h = rw (record-missing (codes "bound") (denominator_field ∷ []) 1 rest refusal refl h) refl

-- the record of a row
row-count : (least rows count : ℕ) → length (place_field least rows ∷ []) + length (replicate count any_number) ≡ 1 + count
row-count least rows count = ap (λ (n : ℕ). 1 + n) (length-replicate count any_number)

pub row-read : (rows count least : ℕ) (rest after : Rest) (left mid end : Left) (row : ℕ) (numbers : List ℤ) → record_with (codes "row") (1 + count) rest ≡ Ok (left, after)
    → Reads (place_field least rows ∷ []) left mid (pos row ∷ []) → Reads (replicate count any_number) mid end numbers → read_record (codes "row") (row_fields rows count least) rest ≡ Ok (pos row ∷ numbers, after)
row-read rows count least rest after left mid end row numbers h one more =
    named-read (codes "row") (place_field least rows ∷ []) (replicate count any_number) (1 + count) rest after left mid end (pos row ∷ []) numbers (row-count least rows count) h one more

pub row-place : (rows count least : ℕ) (rest after : Rest) (left : Left) (refusal : AnswerRefusal) → record_with (codes "row") (1 + count) rest ≡ Ok (left, after)
    → FailsIn (place_field least rows ∷ []) left refusal → read_record (codes "row") (row_fields rows count least) rest ≡ Err refusal
row-place rows count least rest after left refusal h fails =
    names-fail (codes "row") (place_field least rows ∷ []) (replicate count any_number) (1 + count) rest after left refusal (row-count least rows count) h fails

pub row-numbers : (rows count least : ℕ) (rest after : Rest) (left mid : Left) (row : ℕ) (refusal : AnswerRefusal) → record_with (codes "row") (1 + count) rest ≡ Ok (left, after)
    → Reads (place_field least rows ∷ []) left mid (pos row ∷ []) → FailsIn (replicate count any_number) mid refusal → read_record (codes "row") (row_fields rows count least) rest ≡ Err refusal
row-numbers rows count least rest after left mid row refusal h one fails =
    numbers-fail (codes "row") (place_field least rows ∷ []) (replicate count any_number) (1 + count) rest after left mid (pos row ∷ []) refusal (row-count least rows count) h one fails

pub row-missing : (rows count least : ℕ) (rest : Rest) (refusal : AnswerRefusal) → record_with (codes "row") (1 + count) rest ≡ Err refusal → read_record (codes "row") (row_fields rows count least) rest ≡ Err refusal
row-missing rows count least rest refusal h =
    named-missing (codes "row") (place_field least rows ∷ []) (replicate count any_number) (1 + count) rest refusal (row-count least rows count) h
