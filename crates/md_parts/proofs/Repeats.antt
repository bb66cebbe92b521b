-- Records of one word that are read one after another.
use Rattle.std.proofs.Common.{◌≡◌, ℕ, ◌+◌, ◌<◌, ℤ, Bool, true, false, List, [], ◌∷◌, ◌++◌, length, Result, Ok, Err, if◌then◌else◌, refl, sym, ap, ◌∙◌, arith, append-nil}
use Rattle.md_parts.specs.declared.refusal.AnswerRefusal.{AnswerRefusal}
use Rattle.md_parts.specs.declared.refusal.AnswerRefusal.TheVariants.{Line, Cell, End}
use Rattle.md_parts.specs.Fields.{Field, numbers_of}
use Rattle.md_parts.specs.Reading.{Rest, then_read, is_record, read_record, fields_after_word}
use Rattle.md_parts.specs.Repeated.{comes_next, repeated_in, repeated}

-- records that were read before those that come
abbrev pub before_others : List (List ℤ) → Result (List (List ℤ) × Rest) AnswerRefusal → Result (List (List ℤ) × Rest) AnswerRefusal
before_others records (Ok read) = Ok (records ++ read.0, read.1)
before_others records (Err refusal) = Err refusal

pub before_none : (r : Result (List (List ℤ) × Rest) AnswerRefusal) → r ≡ before_others [] r
before_none (Ok read) = refl
before_none (Err refusal) = refl

append-one : (xs : List (List ℤ)) (y : List ℤ) (zs : List (List ℤ)) → (xs ++ y ∷ []) ++ zs ≡ xs ++ y ∷ zs
append-one [] y zs = refl
append-one (x ∷ xs) y zs = ap (λ (l : List (List ℤ)). x ∷ l) (append-one xs y zs)

before_more : (xs : List (List ℤ)) (y : List ℤ) (r : Result (List (List ℤ) × Rest) AnswerRefusal) → before_others xs (then_read r (λ more rest. Ok (y ∷ more, rest))) ≡ before_others (xs ++ y ∷ []) r
before_more xs y (Ok read) = ap (λ (l : List (List ℤ)). Ok (l, read.1)) (sym (append-one xs y read.0))
before_more xs y (Err refusal) = refl

-- a record that was read was the first of those that are left
pub record WasFirst (rest : Rest) (after : Rest) : Type 0 where
  pub next : List (List ℕ)
  pub left : rest.left ≡ next ∷ after.left
  pub read : after.read ≡ rest.read + 1

pub not_both : (refusal : AnswerRefusal) (value : List ℤ × Rest) → Err refusal ≡ Ok value → ⊥
not_both refusal value e = cc

first-in : (read : ℕ) (next : List (List ℕ)) (others : List (List (List ℕ))) (numbers : List ℤ) (after : Rest) (b : Bool) (r : Result (List ℤ) ℕ)
    → if◌then◌else◌ {A = Result (List ℤ × Rest) AnswerRefusal} b
    (elim (elim r as (λ _. Result (List ℤ) AnswerRefusal) [ Ok more ↦ Ok more | Err place ↦ Err (Cell (read + 1) place) ]) as (λ _. Result (List ℤ × Rest) AnswerRefusal) [
      | Ok more ↦ Ok (more, record { read = read + 1; left = others })
      | Err refusal ↦ Err refusal
    ])
    (Err (Line (read + 1))) ≡ Ok (numbers, after)
    → record { read = read + 1; left = others } ≡ after
first-in read next others numbers after true (Ok more) h =
    let same : (more, record { read = read + 1; left = others }) ≡ (numbers, after) = cc in ap (λ (p : List ℤ × Rest). p.1) same
first-in read next others numbers after true (Err place) h = absurd (not_both (Cell (read + 1) place) (numbers, after) h)
first-in read next others numbers after false r h = absurd (not_both (Line (read + 1)) (numbers, after) h)

after-first : (word : List ℕ) (fields : List Field) (read : ℕ) (next : List (List ℕ)) (others : List (List (List ℕ))) (numbers : List ℤ) (after : Rest)
    → read_record word fields record { read = read; left = next ∷ others } ≡ Ok (numbers, after) → record { read = read + 1; left = others } ≡ after
after-first word fields read next others numbers after h =
    first-in read next others numbers after (is_record word (length fields) next) (numbers_of 2 fields (fields_after_word next)) h

was_first-left : (word : List ℕ) (fields : List Field) (read : ℕ) (left : List (List (List ℕ))) (numbers : List ℤ) (after : Rest) → read_record word fields record { read = read; left = left } ≡ Ok (numbers, after)
    → WasFirst record { read = read; left = left } after
was_first-left word fields read [] numbers after h = absurd (not_both (End read) (numbers, after) h)
was_first-left word fields read (next ∷ others) numbers after h =
    let e = after-first word fields read next others numbers after h in
    record { next = next; left = ap (λ (r : Rest). next ∷ r.left) e; read = sym (ap (λ (r : Rest). r.read) e) }

pub was_first : (word : List ℕ) (fields : List Field) (rest after : Rest) (numbers : List ℤ) → read_record word fields rest ≡ Ok (numbers, after) → WasFirst rest after
was_first word fields rest after numbers h = was_first-left word fields rest.read rest.left numbers after h

-- fewer records are left then
pub fewer_left : (word : List ℕ) (fields : List Field) (rest after : Rest) (numbers : List ℤ) → read_record word fields rest ≡ Ok (numbers, after) → length after.left < length rest.left
fewer_left word fields rest after numbers h = let f = was_first word fields rest after numbers h in rw f.left (omega arith)

-- no such record comes
pub repeated-ends : {S : Type 0} (word : List ℕ) (fields : S → List Field) (later : S → List ℤ → S) (state : S) (now : Rest) → comes_next word now.left ≡ false → repeated word fields later state now ≡ Ok ([], now)
repeated-ends {S} word fields later state now h = ends now.read now.left h
  where
    ends : (read : ℕ) (left : List (List (List ℕ))) → comes_next word left ≡ false → repeated_in word fields later state read left ≡ Ok ([], record { read = read; left = left })
    ends read [] h = refl
    ends read (next ∷ others) h = rw h refl

-- one comes and is refused
pub repeated-fails : {S : Type 0} (word : List ℕ) (fields : S → List Field) (later : S → List ℤ → S) (state : S) (now : Rest) (refusal : AnswerRefusal) → comes_next word now.left ≡ true → read_record word (fields state) now ≡ Err refusal
    → repeated word fields later state now ≡ Err refusal
repeated-fails {S} word fields later state now refusal h one = fails now.read now.left h one
  where
    fails : (read : ℕ) (left : List (List (List ℕ))) → comes_next word left ≡ true → read_record word (fields state) record { read = read; left = left } ≡ Err refusal → repeated_in word fields later state read left ≡ Err refusal
    fails read [] h one = cc
    fails read (next ∷ others) h one = rw (h, one) refl

-- one comes and is read
pub repeated-more : {S : Type 0} (word : List ℕ) (fields : S → List Field) (later : S → List ℤ → S) (state : S) (now next : Rest) (numbers : List ℤ) → comes_next word now.left ≡ true → read_record word (fields state) now ≡ Ok (numbers, next)
    → repeated word fields later state now ≡ then_read (repeated word fields later (later state numbers) next) (λ more rest. Ok (numbers ∷ more, rest))
repeated-more {S} word fields later state now next numbers h one = more now.read now.left h one
  where
    more : (read : ℕ) (left : List (List (List ℕ))) → comes_next word left ≡ true → read_record word (fields state) record { read = read; left = left } ≡ Ok (numbers, next)
        → repeated_in word fields later state read left ≡ then_read (repeated word fields later (later state numbers) next) (λ more rest. Ok (numbers ∷ more, rest))
    more read [] h one = cc
    more read (first ∷ others) h one =
        let e = after-first word (fields state) read first others numbers next one in
        rw (h, one) (ap (λ (r : Rest). then_read (repeated word fields later (later state numbers) r) (λ more rest. Ok (numbers ∷ more, rest))) e)

-- a loop over the records: what was read before, and what comes
pub record IsSoFar {S : Type 0} (word : List ℕ) (fields : S → List Field) (later : S → List ℤ → S) (first state : S) (start now : Rest) (records : List (List ℤ)) : Type 0 where
  pub so_far : repeated word fields later first start ≡ before_others records (repeated word fields later state now)

pub so_far-none : {S : Type 0} (word : List ℕ) (fields : S → List Field) (later : S → List ℤ → S) (first : S) (start : Rest) → IsSoFar word fields later first first start start []
so_far-none {S} word fields later first start = record { so_far = before_none (repeated word fields later first start) }

pub so_far-more : {S : Type 0} (word : List ℕ) (fields : S → List Field) (later : S → List ℤ → S) (first state : S) (start now next : Rest) (records : List (List ℤ)) (numbers : List ℤ) → IsSoFar word fields later first state start now records
    → comes_next word now.left ≡ true → read_record word (fields state) now ≡ Ok (numbers, next) → IsSoFar word fields later first (later state numbers) start next (records ++ numbers ∷ [])
so_far-more {S} word fields later first state start now next records numbers h comes one = record {
  so_far = h.so_far ∙ ap (λ r. before_others records r) (repeated-more word fields later state now next numbers comes one) ∙ before_more records numbers (repeated word fields later (later state numbers) next);
}

pub so_far-fails : {S : Type 0} (word : List ℕ) (fields : S → List Field) (later : S → List ℤ → S) (first state : S) (start now : Rest) (records : List (List ℤ)) (refusal : AnswerRefusal) → IsSoFar word fields later first state start now records
    → comes_next word now.left ≡ true → read_record word (fields state) now ≡ Err refusal → repeated word fields later first start ≡ Err refusal
so_far-fails {S} word fields later first state start now records refusal h comes one = h.so_far ∙ ap (λ r. before_others records r) (repeated-fails word fields later state now refusal comes one)

pub so_far-all : {S : Type 0} (word : List ℕ) (fields : S → List Field) (later : S → List ℤ → S) (first state : S) (start now : Rest) (records : List (List ℤ)) → IsSoFar word fields later first state start now records
    → comes_next word now.left ≡ false → repeated word fields later first start ≡ Ok (records, now)
so_far-all {S} word fields later first state start now records h ends =
    h.so_far ∙ ap (λ r. before_others records r) (repeated-ends word fields later state now ends) ∙ ap (λ (l : List (List ℤ)). Ok (l, now)) (append-nil records)
