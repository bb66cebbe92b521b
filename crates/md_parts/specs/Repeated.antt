-- Records of one word that come one after another, as many as there are.
use Rattle.std.specs.Prelude.{ℕ, ◌+◌, ℤ, Bool, false, List, [], ◌∷◌, Result, Ok, if◌then◌else◌}
use Rattle.std.specs.Str.{bytes_eq}
use Rattle.md_parts.specs.declared.refusal.AnswerRefusal.{AnswerRefusal}
use Rattle.md_parts.specs.Fields.{Field}
use Rattle.md_parts.specs.Reading.{Rest, Reading, then_read, read_record}

-- a record begins with the word
abbrev pub has_word : List ℕ → List (List ℕ) → Bool
has_word word [] = false
has_word word (first ∷ fields) = bytes_eq first word

-- the first of the records that are left begins with the word
abbrev pub comes_next : List ℕ → List (List (List ℕ)) → Bool
comes_next word [] = false
comes_next word (next ∷ others) = has_word word next

-- The numbers of the records that come next and begin with the word, record by record. What the fields of a record
-- may hold depends on a state, which the numbers of each record change.
abbrev pub repeated_in : {S : Type 0} → List ℕ → (S → List Field) → (S → List ℤ → S) → S → ℕ → List (List (List ℕ)) → Result (List (List ℤ) × Rest) AnswerRefusal
repeated_in word fields later state read [] = Ok ([], record { read = read; left = [] })
repeated_in word fields later state read (next ∷ others) =
    if has_word word next
    then then_read (read_record word (fields state) record { read = read; left = next ∷ others })
    (λ numbers _. then_read (repeated_in word fields later (later state numbers) (read + 1) others)
    (λ more rest. Ok (numbers ∷ more, rest)))
    else Ok ([], record { read = read; left = next ∷ others })

abbrev pub repeated : {S : Type 0} → List ℕ → (S → List Field) → (S → List ℤ → S) → S → Reading (List (List ℤ))
repeated word fields later state rest = repeated_in word fields later state rest.read rest.left
