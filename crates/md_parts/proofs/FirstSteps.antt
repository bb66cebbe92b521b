-- The first record of an answer, by the steps over its fields.
use Rattle.std.proofs.Common.{◌≡◌, ℕ, ◌+◌, ◌<◌, ◌≤◌, pos, Bool, List, [], ◌∷◌, map, drop, get_or, length, codes, Some, None, Result, Ok, Err, if◌then◌else◌, refl, ap, ◌∙◌, add-one, drop-cons}
use Rattle.std.proofs.lemmas.List.{drop_all}
use Rattle.std.specs.Str.{bytes_eq}
use Rattle.md_parts.specs.declared.refusal.AnswerRefusal.{AnswerRefusal}
use Rattle.md_parts.specs.declared.version.Version.{Version}
use Rattle.md_parts.specs.declared.version.Version.TheVariants.{One, Two}
use Rattle.md_parts.specs.declared.first_record.Head.{Head}
use Rattle.md_parts.specs.Versions.{version_field, version_number, version_of}
use Rattle.md_parts.specs.FirstRecord.{word_among_from, word_among, in_version, first_of}
use Rattle.md_parts.specs.Fields.{Field, word_field}
use Rattle.md_parts.specs.Left.{Left}
use Rattle.md_parts.specs.Reading.{Rest}
use Rattle.md_parts.specs.Records.{record_with}
use Rattle.md_parts.specs.FieldsRead.{Reads, FailsIn}
use Rattle.md_parts.proofs.FieldSteps.{reads-then, fails-then, fails-before}
use Rattle.md_parts.proofs.RecordSteps.{record-read, record-fails, record-missing}

abbrev version : Field
version = version_field

abbrev first_fields : List ℕ → List (List ℕ) → List Field
first_fields kind words = version ∷ word_field kind ∷ word_among words ∷ []

pub first-missing : (kind : List ℕ) (words : List (List ℕ)) (rest : Rest) (refusal : AnswerRefusal) → record_with (codes "answer") 3 rest ≡ Err refusal → first_of kind words rest ≡ Err refusal
first-missing kind words rest refusal h = rw (record-missing (codes "answer") (first_fields kind words) 3 rest refusal refl h) refl

pub first-version : (kind : List ℕ) (words : List (List ℕ)) (rest after : Rest) (left : Left) (refusal : AnswerRefusal) → record_with (codes "answer") 3 rest ≡ Ok (left, after) → FailsIn (version ∷ []) left refusal → first_of kind words rest ≡ Err refusal
first-version kind words rest after left refusal h fails =
    rw (record-fails (codes "answer") (first_fields kind words) 3 rest after left refusal refl h (fails-before (version ∷ []) (word_field kind ∷ word_among words ∷ []) left refusal fails)) refl

pub first-kind : (kind : List ℕ) (words : List (List ℕ)) (rest after : Rest) (left second : Left) (v : Version) (refusal : AnswerRefusal) → record_with (codes "answer") 3 rest ≡ Ok (left, after)
    → Reads (version ∷ []) left second (version_number v ∷ []) → FailsIn (word_field kind ∷ []) second refusal → first_of kind words rest ≡ Err refusal
first-kind kind words rest after left second v refusal h first fails =
    rw (record-fails (codes "answer") (first_fields kind words) 3 rest after left refusal refl h
    (fails-before (version ∷ word_field kind ∷ []) (word_among words ∷ []) left refusal (fails-then (version ∷ []) (word_field kind ∷ []) left second (version_number v ∷ []) refusal first fails))) refl

pub first-word : (kind : List ℕ) (words : List (List ℕ)) (rest after : Rest) (left second third : Left) (v : Version) (refusal : AnswerRefusal) → record_with (codes "answer") 3 rest ≡ Ok (left, after)
    → Reads (version ∷ []) left second (version_number v ∷ []) → Reads (word_field kind ∷ []) second third (pos 0 ∷ []) → FailsIn (word_among words ∷ []) third refusal → first_of kind words rest ≡ Err refusal
first-word kind words rest after left second third v refusal h first next fails =
    rw (record-fails (codes "answer") (first_fields kind words) 3 rest after left refusal refl h
    (fails-then (version ∷ word_field kind ∷ []) (word_among words ∷ []) left third (version_number v ∷ pos 0 ∷ []) refusal (reads-then (version ∷ []) (word_field kind ∷ []) left second third (version_number v ∷ []) (pos 0 ∷ []) first next) fails)) refl

version_of-number : (v : Version) → version_of (version_number v) ≡ v
version_of-number One = refl
version_of-number Two = refl

-- what is left of the first record, once its fields are read, is that the word stands in the version
pub first-read : (kind : List ℕ) (words : List (List ℕ)) (rest after : Rest) (left second third end : Left) (v : Version) (place : ℕ) (result : Result (Head × Rest) AnswerRefusal) → record_with (codes "answer") 3 rest ≡ Ok (left, after)
    → Reads (version ∷ []) left second (version_number v ∷ []) → Reads (word_field kind ∷ []) second third (pos 0 ∷ []) → Reads (word_among words ∷ []) third end (pos place ∷ []) → in_version words v place after ≡ result
    → first_of kind words rest ≡ result
first-read kind words rest after left second third end v place result h first next last stands =
    rw (record-read (codes "answer") (first_fields kind words) 3 rest after left end (version_number v ∷ pos 0 ∷ pos place ∷ []) refl h
    (reads-then (version ∷ word_field kind ∷ []) (word_among words ∷ []) left third end (version_number v ∷ pos 0 ∷ []) (pos place ∷ []) (reads-then (version ∷ []) (word_field kind ∷ []) left second third (version_number v ∷ []) (pos 0 ∷ []) first next) last))
    (ap (λ (found : Version). in_version words found place after) (version_of-number v) ∙ stands)

-- ---- a word among words

-- one place more of a list of words
pub among-at : {X : Type 0} (f : X → List ℕ) (words : List X) (place : ℕ) (d : X) (text : List ℕ) (b : Bool) → place < length words → bytes_eq text (f (get_or words place d)) ≡ b
    → word_among_from place (map f (drop place words)) text ≡ (if b then Some (pos place) else word_among_from (place + 1) (map f (drop (place + 1) words)) text)
among-at {X} f words place d text b l e =
    rw (drop-cons words place d l, e, add-one) refl

-- none is left
pub among-none : {X : Type 0} (f : X → List ℕ) (words : List X) (place : ℕ) (text : List ℕ) → length words ≤ place → word_among_from place (map f (drop place words)) text ≡ None
among-none {X} f words place text l = rw (drop_all place words l) refl
