-- Whole records, by the steps over their fields.
use Rattle.std.proofs.Common.{◌≡◌, ℕ, ◌+◌, ℤ, Bool, true, false, List, [], ◌∷◌, ◌++◌, length, Result, Ok, Err, if◌then◌else◌, refl, sym, ap, ◌∙◌, append-nil, length-append}
use Rattle.md_parts.specs.declared.refusal.AnswerRefusal.{AnswerRefusal}
use Rattle.md_parts.specs.declared.refusal.AnswerRefusal.TheVariants.{Line, Cell, End}
use Rattle.md_parts.specs.Fields.{Field, numbers_of}
use Rattle.md_parts.specs.Left.{Left}
use Rattle.md_parts.specs.Reading.{Rest, is_record, read_record, fields_after_word}
use Rattle.md_parts.specs.Records.{record_with}
use Rattle.md_parts.specs.FieldsRead.{Reads, FailsIn}
use Rattle.md_parts.proofs.FieldSteps.{reads-then, fails-then, fails-before}
use Rattle.md_parts.proofs.NumbersRead.{is_record-length}

-- the record that was taken
pub record Taken (word : List ℕ) (count : ℕ) (rest : Rest) (fields : Left) (after : Rest) : Type 0 where
  pub next : List (List ℕ)
  pub others : List (List (List ℕ))
  pub left : rest.left ≡ next ∷ others
  pub is_it : is_record word count next ≡ true
  pub fields_are : fields ≡ record { number = rest.read + 1; place = 2; texts = fields_after_word next }
  pub after_is : after ≡ record { read = rest.read + 1; left = others }

not_both : (refusal : AnswerRefusal) (value : Left × Rest) → Err refusal ≡ Ok value → ⊥
not_both refusal value e = cc

taken-if : (b : Bool) (word : List ℕ) (count read : ℕ) (next : List (List ℕ)) (others : List (List (List ℕ))) (fields : Left) (after : Rest) → is_record word count next ≡ b
    → if◌then◌else◌ {A = Result (Left × Rest) AnswerRefusal} b (Ok (record { number = read + 1; place = 2; texts = fields_after_word next }, record { read = read + 1; left = others })) (Err (Line (read + 1))) ≡ Ok (fields, after)
    → Taken word count record { read = read; left = next ∷ others } fields after
taken-if true word count read next others fields after e h =
    let same : (record { number = read + 1; place = 2; texts = fields_after_word next }, record { read = read + 1; left = others }) ≡ (fields, after) = cc in
    record { next = next; others = others; left = refl; is_it = e; fields_are = sym (ap (λ (p : Left × Rest). p.0) same); after_is = sym (ap (λ (p : Left × Rest). p.1) same) }
taken-if false word count read next others fields after e h = absurd (not_both (Line (read + 1)) (fields, after) h)

taken-left : (word : List ℕ) (count read : ℕ) (left : List (List (List ℕ))) (fields : Left) (after : Rest) → record_with word count record { read = read; left = left } ≡ Ok (fields, after)
    → Taken word count record { read = read; left = left } fields after
taken-left word count read [] fields after h = absurd (not_both (End read) (fields, after) h)
taken-left word count read (next ∷ others) fields after h = taken-if (is_record word count next) word count read next others fields after refl h

pub taken : (word : List ℕ) (count : ℕ) (rest : Rest) (fields : Left) (after : Rest) → record_with word count rest ≡ Ok (fields, after) → Taken word count rest fields after
taken word count rest fields after h = taken-left word count rest.read rest.left fields after h

-- its numbers are read
read_record-ok : (word : List ℕ) (fields : List Field) (read : ℕ) (next : List (List ℕ)) (others : List (List (List ℕ))) (numbers : List ℤ)
    → is_record word (length fields) next ≡ true → numbers_of 2 fields (fields_after_word next) ≡ Ok numbers
    → read_record word fields record { read = read; left = next ∷ others } ≡ Ok (numbers, record { read = read + 1; left = others })
read_record-ok word fields read next others numbers is_it all = rw (is_it, all) refl

read_record-err : (word : List ℕ) (fields : List Field) (read : ℕ) (next : List (List ℕ)) (others : List (List (List ℕ))) (place : ℕ)
    → is_record word (length fields) next ≡ true → numbers_of 2 fields (fields_after_word next) ≡ Err place
    → read_record word fields record { read = read; left = next ∷ others } ≡ Err (Cell (read + 1) place)
read_record-err word fields read next others place is_it wrong = rw (is_it, wrong) refl

read_record-left : (word : List ℕ) (fields : List Field) (rest : Rest) (next : List (List ℕ)) (others : List (List (List ℕ))) (r : Result (List ℤ × Rest) AnswerRefusal) → rest.left ≡ next ∷ others
    → read_record word fields record { read = rest.read; left = next ∷ others } ≡ r → read_record word fields rest ≡ r
read_record-left word fields rest next others r left h = ap (λ l. read_record word fields record { read = rest.read; left = l }) left ∙ h

-- a record whose fields are all read
pub record-read : (word : List ℕ) (fields : List Field) (count : ℕ) (rest after : Rest) (left end : Left) (numbers : List ℤ) → length fields ≡ count
    → record_with word count rest ≡ Ok (left, after) → Reads fields left end numbers → read_record word fields rest ≡ Ok (numbers, after)
record-read word fields count rest after left end numbers long h reads =
    let t = taken word count rest left after h in
    let whole = rw (append-nil fields, t.fields_are, append-nil numbers) at (reads.step []) in
    let is_it : is_record word (length fields) t.next ≡ true = rw long t.is_it in
    rw t.after_is (read_record-left word fields rest t.next t.others (Ok (numbers, record { read = rest.read + 1; left = t.others })) t.left (read_record-ok word fields rest.read t.next t.others numbers is_it whole))

-- a record of which a field is wrong
pub record-fails : (word : List ℕ) (fields : List Field) (count : ℕ) (rest after : Rest) (left : Left) (refusal : AnswerRefusal) → length fields ≡ count
    → record_with word count rest ≡ Ok (left, after) → FailsIn fields left refusal → read_record word fields rest ≡ Err refusal
record-fails word fields count rest after left refusal long h fails =
    let t = taken word count rest left after h in
    let whole = rw (append-nil fields, t.fields_are) at (fails.wrong []) in
    let is_it : is_record word (length fields) t.next ≡ true = rw long t.is_it in
    rw (fails.refusal_is, t.fields_are) (read_record-left word fields rest t.next t.others (Err (Cell (rest.read + 1) fails.place)) t.left (read_record-err word fields rest.read t.next t.others fails.place is_it whole))

-- no such record comes next
pub record-missing : (word : List ℕ) (fields : List Field) (count : ℕ) (rest : Rest) (refusal : AnswerRefusal) → length fields ≡ count
    → record_with word count rest ≡ Err refusal → read_record word fields rest ≡ Err refusal
record-missing word fields count rest refusal long h = missing-left word fields rest.read rest.left refusal (ap (λ (n : ℕ). record_with word n rest) long ∙ h)
  where
    missing-if : (word : List ℕ) (fields : List Field) (b : Bool) (read : ℕ) (next : List (List ℕ)) (others : List (List (List ℕ))) (refusal : AnswerRefusal) → is_record word (length fields) next ≡ b
        → if◌then◌else◌ {A = Result (Left × Rest) AnswerRefusal} b (Ok (record { number = read + 1; place = 2; texts = fields_after_word next }, record { read = read + 1; left = others })) (Err (Line (read + 1))) ≡ Err refusal
        → read_record word fields record { read = read; left = next ∷ others } ≡ Err refusal
    missing-if word fields true read next others refusal e h = absurd (not_both refusal _ (sym h))
    missing-if word fields false read next others refusal e h = let same : Line (read + 1) ≡ refusal = cc in rw (e, ← same) refl

    missing-left : (word : List ℕ) (fields : List Field) (read : ℕ) (left : List (List (List ℕ))) (refusal : AnswerRefusal) → record_with word (length fields) record { read = read; left = left } ≡ Err refusal
        → read_record word fields record { read = read; left = left } ≡ Err refusal
    missing-left word fields read [] refusal h = let same : End read ≡ refusal = cc in rw (← same) refl
    missing-left word fields read (next ∷ others) refusal h = missing-if word fields (is_record word (length fields) next) read next others refusal refl h

-- a record of names and then numbers
pub named-read : (word : List ℕ) (names fields : List Field) (count : ℕ) (rest after : Rest) (left mid end : Left) (zeros numbers : List ℤ) → length names + length fields ≡ count
    → record_with word count rest ≡ Ok (left, after) → Reads names left mid zeros → Reads fields mid end numbers → read_record word (names ++ fields) rest ≡ Ok (zeros ++ numbers, after)
named-read word names fields count rest after left mid end zeros numbers long h first second =
    record-read word (names ++ fields) count rest after left end (zeros ++ numbers) (length-append names fields ∙ long) h (reads-then names fields left mid end zeros numbers first second)

pub names-fail : (word : List ℕ) (names fields : List Field) (count : ℕ) (rest after : Rest) (left : Left) (refusal : AnswerRefusal) → length names + length fields ≡ count
    → record_with word count rest ≡ Ok (left, after) → FailsIn names left refusal → read_record word (names ++ fields) rest ≡ Err refusal
names-fail word names fields count rest after left refusal long h fails =
    record-fails word (names ++ fields) count rest after left refusal (length-append names fields ∙ long) h (fails-before names fields left refusal fails)

pub numbers-fail : (word : List ℕ) (names fields : List Field) (count : ℕ) (rest after : Rest) (left mid : Left) (zeros : List ℤ) (refusal : AnswerRefusal) → length names + length fields ≡ count
    → record_with word count rest ≡ Ok (left, after) → Reads names left mid zeros → FailsIn fields mid refusal → read_record word (names ++ fields) rest ≡ Err refusal
numbers-fail word names fields count rest after left mid zeros refusal long h first fails =
    record-fails word (names ++ fields) count rest after left refusal (length-append names fields ∙ long) h (fails-then names fields left mid zeros refusal first fails)

pub named-missing : (word : List ℕ) (names fields : List Field) (count : ℕ) (rest : Rest) (refusal : AnswerRefusal) → length names + length fields ≡ count
    → record_with word count rest ≡ Err refusal → read_record word (names ++ fields) rest ≡ Err refusal
named-missing word names fields count rest refusal long h = record-missing word (names ++ fields) count rest refusal (length-append names fields ∙ long) h

-- a record that was taken has so many fields
pub taken-length : (word : List ℕ) (count : ℕ) (rest after : Rest) (left : Left) → record_with word count rest ≡ Ok (left, after) → length left.texts ≡ count
taken-length word count rest after left h =
    let t = taken word count rest left after h in
    ap (λ (l : Left). length l.texts) t.fields_are ∙ is_record-length word count t.next t.is_it
