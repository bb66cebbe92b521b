-- A record that is written is read as its numbers.
use Rattle.std.proofs.Common.{◌≡◌, ℕ, ◌+◌, ◌≤◌, ℤ, pos, Bool, true, List, [], ◌∷◌, ◌++◌, map, length, replicate, Option, Some, None, Result, Ok, Err, if◌then◌else◌, refl, arith, All, eq-eqb}
use Rattle.std.proofs.lemmas.List.Elements.{All-head, All-tail}
use Rattle.std.proofs.lemmas.Slice.Eq.{bytes_eq-Decides}
use Rattle.std.specs.Str.{bytes_eq}
use Rattle.md_num.specs.declared.whole.NumRefusal.{NumRefusal}
use Rattle.md_num.specs.WholeText.{text_of, whole_of}
use Rattle.md_num.proofs.Texts.{whole_of-text_of}
use Rattle.md_parts.specs.Fields.{Field, word_field, number_field}
use Rattle.md_parts.specs.Reading.{read_record}
use Rattle.md_parts.specs.Written.{Holds}
use Rattle.md_parts.proofs.NumbersRead.{IsInField}

pub holds-none : Holds [] [] []
holds-none = record { long = refl; read = λ place. refl }

pub holds-cons : (field : Field) (fields : List Field) (text : List ℕ) (texts : List (List ℕ)) (number : ℤ) (numbers : List ℤ) → field text ≡ Some number → Holds fields texts numbers
    → Holds (field ∷ fields) (text ∷ texts) (number ∷ numbers)
holds-cons field fields text texts number numbers one more = record {
  long = let l = more.long in omega (arith, l);
  read = λ place. rw (one, more.read (place + 1)) refl;
}

-- a text is itself
pub same_bytes : (text : List ℕ) → bytes_eq text text ≡ true
same_bytes text = (bytes_eq-Decides text text).1 refl

pub holds-names : (names : List (List ℕ)) (fields : List Field) (texts : List (List ℕ)) (numbers : List ℤ) → Holds fields texts numbers
    → Holds (map word_field names ++ fields) (names ++ texts) (replicate (length names) (pos 0) ++ numbers)
holds-names [] fields texts numbers h = h
holds-names (name ∷ names) fields texts numbers h =
    holds-cons (word_field name) (map word_field names ++ fields) name (names ++ texts) (pos 0) (replicate (length names) (pos 0) ++ numbers)
    (rw (same_bytes name) refl) (holds-names names fields texts numbers h)

number-from : (test : ℤ → Bool) (r : Result ℤ NumRefusal) (z : ℤ) → r ≡ Ok z → test z ≡ true → elim r as (λ _. Option ℤ) [ Ok number ↦ if test number then Some number else None | Err _ ↦ None ] ≡ Some z
number-from test r z e t = rw (e, t) refl

-- a number in its field
pub number_field-holds : (bits : ℕ) (test : ℤ → Bool) (z : ℤ) → bits ≤ 126 → IsInField bits test z → number_field bits test (text_of z) ≡ Some z
number_field-holds bits test z l h = number-from test (whole_of bits (text_of z)) z (whole_of-text_of bits z l h.small.within) h.passes

pub holds-numbers : (bits : ℕ) (test : ℤ → Bool) (numbers : List ℤ) → bits ≤ 126 → All (IsInField bits test) numbers
    → Holds (replicate (length numbers) (number_field bits test)) (map text_of numbers) numbers
holds-numbers bits test [] l all = holds-none
holds-numbers bits test (z ∷ numbers) l all =
    holds-cons (number_field bits test) (replicate (length numbers) (number_field bits test)) (text_of z) (map text_of numbers) z numbers
    (number_field-holds bits test z l (All-head (IsInField bits test) z numbers all)) (holds-numbers bits test numbers l (All-tail (IsInField bits test) z numbers all))

-- the record is read
pub record-written : (word : List ℕ) (fields : List Field) (texts : List (List ℕ)) (numbers : List ℤ) (read : ℕ) (others : List (List (List ℕ))) → Holds fields texts numbers
    → read_record word fields record { read = read; left = (word ∷ texts) ∷ others } ≡ Ok (numbers, record { read = read + 1; left = others })
record-written word fields texts numbers read others h = rw (same_bytes word, eq-eqb (length texts) (length fields) h.long, h.read 2) refl
