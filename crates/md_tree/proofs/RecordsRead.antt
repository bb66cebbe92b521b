-- The records of an answer about deterministic mechanisms, by the steps over their fields.
use Rattle.std.proofs.Common.{◌≡◌, ℕ, pos, List, [], ◌∷◌, codes, Ok, Err, refl, subst}
use Rattle.md_parts.specs.declared.refusal.AnswerRefusal.{AnswerRefusal}
use Rattle.md_parts.specs.Fields.{Field, word_field, place_field}
use Rattle.md_parts.specs.FirstRecord.{word_among}
use Rattle.md_parts.specs.Left.{Left}
use Rattle.md_parts.specs.Reading.{Rest, read_record}
use Rattle.md_parts.specs.Records.{record_with}
use Rattle.md_parts.specs.FieldsRead.{Reads, FailsIn}
use Rattle.md_parts.proofs.FieldSteps.{reads-then, fails-then, fails-before}
use Rattle.md_parts.proofs.RecordSteps.{record-read, record-fails, record-missing}
use Rattle.md_tree.specs.AnswerText.{kind_read}
use Rattle.md_tree.specs.Kinds.{answer_words, kind_of}

-- ---- the first record

abbrev one : Field
one = word_field (codes "1")

abbrev determ : Field
determ = word_field (codes "determ")

abbrev answer : Field
answer = word_among answer_words

abbrev first_fields : List Field
first_fields = one ∷ determ ∷ answer ∷ []

pub first-missing : (rest : Rest) (refusal : AnswerRefusal) → record_with (codes "answer") 3 rest ≡ Err refusal → kind_read rest ≡ Err refusal
first-missing rest refusal h = rw (record-missing (codes "answer") first_fields 3 rest refusal refl h) refl

pub first-version : (rest after : Rest) (left : Left) (refusal : AnswerRefusal) → record_with (codes "answer") 3 rest ≡ Ok (left, after) → FailsIn (one ∷ []) left refusal → kind_read rest ≡ Err refusal
first-version rest after left refusal h fails =
    rw (record-fails (codes "answer") first_fields 3 rest after left refusal refl h (fails-before (one ∷ []) (determ ∷ answer ∷ []) left refusal fails)) refl

pub first-about : (rest after : Rest) (left second : Left) (refusal : AnswerRefusal) → record_with (codes "answer") 3 rest ≡ Ok (left, after) → Reads (one ∷ []) left second (pos 0 ∷ []) → FailsIn (determ ∷ []) second refusal → kind_read rest ≡ Err refusal
first-about rest after left second refusal h first fails =
    rw (record-fails (codes "answer") first_fields 3 rest after left refusal refl h
    (fails-before (one ∷ determ ∷ []) (answer ∷ []) left refusal (fails-then (one ∷ []) (determ ∷ []) left second (pos 0 ∷ []) refusal first fails))) refl

both : (left second third : Left) → Reads (one ∷ []) left second (pos 0 ∷ []) → Reads (determ ∷ []) second third (pos 0 ∷ []) → Reads (one ∷ determ ∷ []) left third (pos 0 ∷ pos 0 ∷ [])
both left second third first next = reads-then (one ∷ []) (determ ∷ []) left second third (pos 0 ∷ []) (pos 0 ∷ []) first next

pub first-word : (rest after : Rest) (left second third : Left) (refusal : AnswerRefusal) → record_with (codes "answer") 3 rest ≡ Ok (left, after) → Reads (one ∷ []) left second (pos 0 ∷ []) → Reads (determ ∷ []) second third (pos 0 ∷ [])
    → FailsIn (answer ∷ []) third refusal → kind_read rest ≡ Err refusal
first-word rest after left second third refusal h first next fails =
    rw (record-fails (codes "answer") first_fields 3 rest after left refusal refl h
    (fails-then (one ∷ determ ∷ []) (answer ∷ []) left third (pos 0 ∷ pos 0 ∷ []) refusal (both left second third first next) fails)) refl

pub first-read : (rest after : Rest) (left second third end : Left) (place : ℕ) → record_with (codes "answer") 3 rest ≡ Ok (left, after) → Reads (one ∷ []) left second (pos 0 ∷ []) → Reads (determ ∷ []) second third (pos 0 ∷ [])
    → Reads (answer ∷ []) third end (pos place ∷ []) → kind_read rest ≡ Ok (kind_of place, after)
first-read rest after left second third end place h first next last =
    rw (record-read (codes "answer") first_fields 3 rest after left end (pos 0 ∷ pos 0 ∷ pos place ∷ []) refl h
    (reads-then (one ∷ determ ∷ []) (answer ∷ []) left third end (pos 0 ∷ pos 0 ∷ []) (pos place ∷ []) (both left second third first next) last)) refl

-- ---- a record of one field

pub field-read : (word : List ℕ) (field : Field) (rest after : Rest) (left end : Left) (number : ℕ) → record_with word 1 rest ≡ Ok (left, after) → Reads (field ∷ []) left end (pos number ∷ []) → read_record word (field ∷ []) rest ≡ Ok (pos number ∷ [], after)
field-read word field rest after left end number h reads = record-read word (field ∷ []) 1 rest after left end (pos number ∷ []) refl h reads

pub field-fails : (word : List ℕ) (field : Field) (rest after : Rest) (left : Left) (refusal : AnswerRefusal) → record_with word 1 rest ≡ Ok (left, after) → FailsIn (field ∷ []) left refusal → read_record word (field ∷ []) rest ≡ Err refusal
field-fails word field rest after left refusal h fails = record-fails word (field ∷ []) 1 rest after left refusal refl h fails

-- the rank of a branch
pub rank-read : (profiles below : ℕ) (rest after : Rest) (left end : Left) (rank : ℕ) → below ≡ profiles → record_with (codes "branch") 1 rest ≡ Ok (left, after) → Reads (place_field 0 below ∷ []) left end (pos rank ∷ [])
    → read_record (codes "branch") (place_field 0 profiles ∷ []) rest ≡ Ok (pos rank ∷ [], after)
rank-read profiles below rest after left end rank e h reads =
    subst (λ (n : ℕ). read_record (codes "branch") (place_field 0 n ∷ []) rest ≡ Ok (pos rank ∷ [], after)) e (field-read (codes "branch") (place_field 0 below) rest after left end rank h reads)

pub rank-fails : (profiles below : ℕ) (rest after : Rest) (left : Left) (refusal : AnswerRefusal) → below ≡ profiles → record_with (codes "branch") 1 rest ≡ Ok (left, after) → FailsIn (place_field 0 below ∷ []) left refusal
    → read_record (codes "branch") (place_field 0 profiles ∷ []) rest ≡ Err refusal
rank-fails profiles below rest after left refusal e h fails =
    subst (λ (n : ℕ). read_record (codes "branch") (place_field 0 n ∷ []) rest ≡ Err refusal) e (field-fails (codes "branch") (place_field 0 below) rest after left refusal h fails)

-- ---- a fixed pair

pub pair-rank : (rank outcome : Field) (rest after : Rest) (left : Left) (refusal : AnswerRefusal) → record_with (codes "fix") 2 rest ≡ Ok (left, after) → FailsIn (rank ∷ []) left refusal → read_record (codes "fix") (rank ∷ outcome ∷ []) rest ≡ Err refusal
pair-rank rank outcome rest after left refusal h fails = record-fails (codes "fix") (rank ∷ outcome ∷ []) 2 rest after left refusal refl h (fails-before (rank ∷ []) (outcome ∷ []) left refusal fails)

pub pair-outcome : (rank outcome : Field) (rest after : Rest) (left mid : Left) (row : ℕ) (refusal : AnswerRefusal) → record_with (codes "fix") 2 rest ≡ Ok (left, after) → Reads (rank ∷ []) left mid (pos row ∷ []) → FailsIn (outcome ∷ []) mid refusal
    → read_record (codes "fix") (rank ∷ outcome ∷ []) rest ≡ Err refusal
pair-outcome rank outcome rest after left mid row refusal h first fails =
    record-fails (codes "fix") (rank ∷ outcome ∷ []) 2 rest after left refusal refl h (fails-then (rank ∷ []) (outcome ∷ []) left mid (pos row ∷ []) refusal first fails)

pub pair-read : (rank outcome : Field) (rest after : Rest) (left mid end : Left) (row column : ℕ) → record_with (codes "fix") 2 rest ≡ Ok (left, after) → Reads (rank ∷ []) left mid (pos row ∷ []) → Reads (outcome ∷ []) mid end (pos column ∷ [])
    → read_record (codes "fix") (rank ∷ outcome ∷ []) rest ≡ Ok (pos row ∷ pos column ∷ [], after)
pair-read rank outcome rest after left mid end row column h first next =
    record-read (codes "fix") (rank ∷ outcome ∷ []) 2 rest after left end (pos row ∷ pos column ∷ []) refl h (reads-then (rank ∷ []) (outcome ∷ []) left mid end (pos row ∷ []) (pos column ∷ []) first next)
