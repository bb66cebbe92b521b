-- The records of interim odds and payments, by the steps over their fields.
use Rattle.std.proofs.Common.{◌≡◌, ℕ, ◌+◌, ℤ, pos, true, List, [], ◌∷◌, replicate, codes, Ok, Err, refl, arith}
use Rattle.std.proofs.lemmas.List.{length-replicate}
use Rattle.std.proofs.lemmas.Int.{ints}
use Rattle.std.specs.Prelude.{int_le, unsigned_abs}
use Rattle.md_setting.specs.Auction.{SymmetricAuction, value_count}
use Rattle.md_parts.specs.declared.refusal.AnswerRefusal.{AnswerRefusal}
use Rattle.md_parts.specs.declared.range.Range.TheVariants.{Any, Place}
use Rattle.md_parts.specs.Fields.{Field, any_number, denominator_field}
use Rattle.md_parts.specs.Ranges.{ranged_field}
use Rattle.md_parts.specs.Left.{Left}
use Rattle.md_parts.specs.Reading.{Rest}
use Rattle.md_parts.specs.Records.{record_with}
use Rattle.md_parts.specs.FieldsRead.{Reads, FailsIn}
use Rattle.md_parts.proofs.RecordSteps.{record-read, record-fails}
use Rattle.md_answer.specs.Odds.{interim_den, odds_field, odds_in}
use Rattle.md_answer.specs.InterimRecords.{pays_in}

pub den-read : (rest after : Rest) (left end : Left) (den : ℤ) → record_with (codes "interim") 1 rest ≡ Ok (left, after) → Reads (denominator_field ∷ []) left end (den ∷ []) → interim_den rest ≡ Ok (den, after)
den-read rest after left end den h reads = rw (record-read (codes "interim") (denominator_field ∷ []) 1 rest after left end (den ∷ []) refl h reads) refl

pub den-fails : (rest after : Rest) (left : Left) (refusal : AnswerRefusal) → record_with (codes "interim") 1 rest ≡ Ok (left, after) → FailsIn (denominator_field ∷ []) left refusal → interim_den rest ≡ Err refusal
den-fails rest after left refusal h fails = rw (record-fails (codes "interim") (denominator_field ∷ []) 1 rest after left refusal refl h fails) refl

pub den-size : (den : ℤ) → int_le (pos 1) den ≡ true → pos (unsigned_abs den) ≡ den
den-size den h = grind (arith, ints)

-- so many numbers, none of which is over the denominator
abbrev list_fields : ℕ → ℕ → List Field
list_fields count den = replicate count (ranged_field 62 (Place 0 (den + 1)))

pub odds-read : (a : SymmetricAuction) (count den : ℕ) (rest after : Rest) (left end : Left) (odds : List ℤ) → count ≡ value_count a
    → record_with (codes "odds") count rest ≡ Ok (left, after) → Reads (list_fields count den) left end odds → odds_in a (pos den) rest ≡ Ok (odds, after)
odds-read a count den rest after left end odds same h reads =
    rw (← same) (record-read (codes "odds") (list_fields count den) count rest after left end odds (length-replicate count (odds_field (pos den))) h reads)

pub odds-fail : (a : SymmetricAuction) (count den : ℕ) (rest after : Rest) (left : Left) (refusal : AnswerRefusal) → count ≡ value_count a
    → record_with (codes "odds") count rest ≡ Ok (left, after) → FailsIn (list_fields count den) left refusal → odds_in a (pos den) rest ≡ Err refusal
odds-fail a count den rest after left refusal same h fails =
    rw (← same) (record-fails (codes "odds") (list_fields count den) count rest after left refusal (length-replicate count (odds_field (pos den))) h fails)

-- so many numbers of any size
abbrev free_fields : ℕ → List Field
free_fields count = replicate count (ranged_field 62 Any)

pub pays-read : (a : SymmetricAuction) (count : ℕ) (rest after : Rest) (left end : Left) (pays : List ℤ) → count ≡ value_count a
    → record_with (codes "pays") count rest ≡ Ok (left, after) → Reads (free_fields count) left end pays → pays_in a rest ≡ Ok (pays, after)
pays-read a count rest after left end pays same h reads =
    rw (← same) (record-read (codes "pays") (free_fields count) count rest after left end pays (length-replicate count any_number) h reads)

pub pays-fail : (a : SymmetricAuction) (count : ℕ) (rest after : Rest) (left : Left) (refusal : AnswerRefusal) → count ≡ value_count a
    → record_with (codes "pays") count rest ≡ Ok (left, after) → FailsIn (free_fields count) left refusal → pays_in a rest ≡ Err refusal
pays-fail a count rest after left refusal same h fails =
    rw (← same) (record-fails (codes "pays") (free_fields count) count rest after left refusal (length-replicate count any_number) h fails)
