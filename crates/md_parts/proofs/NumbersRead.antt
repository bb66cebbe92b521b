-- What is known of numbers that were read.
use Rattle.std.proofs.Common.{◌≡◌, ℕ, zero, suc, ◌+◌, ◌≤◌, ℤ, Bool, true, false, ◌&&◌, ◌==◌, List, [], ◌∷◌, ◌++◌, drop, length, replicate, Option, Some, None, Result, Ok, Err, if◌then◌else◌, refl, sym, ap, ◌∙◌, arith, All}
use Rattle.std.proofs.lemmas.List.Elements.{All-nil, All-cons}
use Rattle.std.specs.Ordering.{int_eq}
use Rattle.std.proofs.lemmas.Bool.Decides.{Decides-int_eq, nat_tests}
use Rattle.std.specs.Str.{bytes_eq}
use Rattle.md_math.specs.Sizes.{IsWithin}
use Rattle.md_math.specs.Sums.{total}
use Rattle.md_num.specs.Limits.{limit_of}
use Rattle.md_num.specs.WholeText.{whole_of}
use Rattle.md_num.specs.declared.whole.NumRefusal.{NumRefusal}
use Rattle.md_num.proofs.Texts.{size_from_whole_of}
use Rattle.md_parts.specs.declared.refusal.AnswerRefusal.{AnswerRefusal}
use Rattle.md_parts.specs.declared.refusal.AnswerRefusal.TheVariants.{Line, Cell, Sum, End}
use Rattle.md_parts.specs.Fields.{Field, numbers_of, number_field}
use Rattle.md_parts.specs.Reading.{Rest, is_record, read_record, fields_after_word, adding_to}
use Rattle.md_parts.proofs.Repeats.{not_both}

-- a number in a field passes the field's test, and is small
pub record IsInField (bits : ℕ) (test : ℤ → Bool) (number : ℤ) : Type 0 where
  pub passes : test number ≡ true
  pub small : IsWithin (limit_of bits) number

number_field-if : (b : Bool) (number z : ℤ) → if◌then◌else◌ {A = Option ℤ} b (Some number) None ≡ Some z → (b ≡ true) × (number ≡ z)
number_field-if true number z h = (refl, cc)
number_field-if false number z h = absurd (let e : None ≡ Some z = h in cc)

number_field-in : (bits : ℕ) (test : ℤ → Bool) (text : List ℕ) (r : Result ℤ NumRefusal) (z : ℤ) → bits ≤ 126 → whole_of bits text ≡ r
    → elim r as (λ _. Option ℤ) [ Ok number ↦ if test number then Some number else None | Err _ ↦ None ] ≡ Some z → IsInField bits test z
number_field-in bits test text (Ok number) z l e h =
    let p = number_field-if (test number) number z h in
    rw (← p.1) (record { passes = p.0; small = record { within = size_from_whole_of bits text l number e } })
number_field-in bits test text (Err refusal) z l e h = absurd (let e : None ≡ Some z = h in cc)

pub number_field-is : (bits : ℕ) (test : ℤ → Bool) (text : List ℕ) (z : ℤ) → bits ≤ 126 → number_field bits test text ≡ Some z → IsInField bits test z
number_field-is bits test text z l h = number_field-in bits test text (whole_of bits text) z l refl h

-- the first of the numbers of some fields
pub record First (place : ℕ) (field : Field) (fields : List Field) (text : List ℕ) (texts : List (List ℕ)) (numbers : List ℤ) : Type 0 where
  pub number : ℤ
  pub others : List ℤ
  pub holds : field text ≡ Some number
  pub rest : numbers_of (place + 1) fields texts ≡ Ok others
  pub all : numbers ≡ number ∷ others

first-in : (place : ℕ) (field : Field) (fields : List Field) (text : List ℕ) (texts : List (List ℕ)) (numbers : List ℤ) (o : Option ℤ) (r : Result (List ℤ) ℕ)
    → field text ≡ o → numbers_of (place + 1) fields texts ≡ r
    → elim o as (λ _. Result (List ℤ) ℕ) [ None ↦ Err place | Some number ↦ elim r as (λ _. Result (List ℤ) ℕ) [ Err wrong ↦ Err wrong | Ok more ↦ Ok (number ∷ more) ] ] ≡ Ok numbers
    → First place field fields text texts numbers
first-in place field fields text texts numbers None r eo er h = absurd (let e : Err place ≡ Ok numbers = h in cc)
first-in place field fields text texts numbers (Some number) (Err wrong) eo er h = absurd (let e : Err wrong ≡ Ok numbers = h in cc)
first-in place field fields text texts numbers (Some number) (Ok more) eo er h =
    record { number = number; others = more; holds = eo; rest = er; all = let e : number ∷ more ≡ numbers = cc in sym e }

pub numbers-first : (place : ℕ) (field : Field) (fields : List Field) (text : List ℕ) (texts : List (List ℕ)) (numbers : List ℤ) → numbers_of place (field ∷ fields) (text ∷ texts) ≡ Ok numbers
    → First place field fields text texts numbers
numbers-first place field fields text texts numbers h = first-in place field fields text texts numbers (field text) (numbers_of (place + 1) fields texts) refl refl h

-- so many numbers, each with a property, after so many others
pub record EachAfter (P : ℤ → Type 0) (front count : ℕ) (numbers : List ℤ) : Type 0 where
  pub long : length numbers ≡ front + count
  pub each : All P (drop front numbers)

numbers-each : (P : ℤ → Type 0) (field : Field) → ((text : List ℕ) (n : ℤ) → field text ≡ Some n → P n) → (count place : ℕ) (texts : List (List ℕ)) (numbers : List ℤ)
    → length texts ≡ count → numbers_of place (replicate count field) texts ≡ Ok numbers → EachAfter P 0 count numbers
numbers-each P field known zero place texts numbers long h =
    let e : [] ≡ numbers = cc in rw (← e) (record { long = refl; each = All-nil P })
numbers-each P field known (suc count) place [] numbers long h = absurd (omega arith)
numbers-each P field known (suc count) place (text ∷ texts) numbers long h =
    let f = numbers-first place field (replicate count field) text texts numbers h in
    let r = numbers-each P field known count (place + 1) texts f.others (omega arith) f.rest in
    let l = r.long in
    rw f.all (record { long = omega arith; each = All-cons P f.number f.others (known text f.number f.holds) r.each })

pub numbers-after : (P : ℤ → Type 0) (field : Field) → ((text : List ℕ) (n : ℤ) → field text ≡ Some n → P n) → (names : List Field) (count place : ℕ) (texts : List (List ℕ)) (numbers : List ℤ)
    → length texts ≡ length names + count → numbers_of place (names ++ replicate count field) texts ≡ Ok numbers → EachAfter P (length names) count numbers
numbers-after P field known [] count place texts numbers long h = numbers-each P field known count place texts numbers (omega arith) h
numbers-after P field known (name ∷ names) count place [] numbers long h = absurd (omega arith)
numbers-after P field known (name ∷ names) count place (text ∷ texts) numbers long h =
    let f = numbers-first place name (names ++ replicate count field) text texts numbers h in
    let r = numbers-after P field known names count (place + 1) texts f.others (omega arith) f.rest in
    let l = r.long in
    rw f.all (record { long = omega arith; each = r.each })

-- the numbers of a record that was read
pub record RecordRead (fields : List Field) (numbers : List ℤ) : Type 0 where
  pub texts : List (List ℕ)
  pub long : length texts ≡ length fields
  pub read : numbers_of 2 fields texts ≡ Ok numbers

pub is_record-length : (word : List ℕ) (count : ℕ) (next : List (List ℕ)) → is_record word count next ≡ true → length (fields_after_word next) ≡ count
is_record-length word count [] h = cc
is_record-length word count (first ∷ fields) h = let e = both (bytes_eq first word) (length fields == count) h in grind (arith, nat_tests)
  where
    both : (a b : Bool) → (a && b) ≡ true → b ≡ true
    both true b h = h
    both false b h = cc

record-in : (word : List ℕ) (fields : List Field) (read : ℕ) (next : List (List ℕ)) (others : List (List (List ℕ))) (numbers : List ℤ) (after : Rest) (b : Bool) (r : Result (List ℤ) ℕ)
    → is_record word (length fields) next ≡ b → numbers_of 2 fields (fields_after_word next) ≡ r
    → if◌then◌else◌ {A = Result (List ℤ × Rest) AnswerRefusal} b
    (elim (elim r as (λ _. Result (List ℤ) AnswerRefusal) [ Ok more ↦ Ok more | Err place ↦ Err (Cell (read + 1) place) ]) as (λ _. Result (List ℤ × Rest) AnswerRefusal) [
      | Ok more ↦ Ok (more, record { read = read + 1; left = others })
      | Err refusal ↦ Err refusal
    ])
    (Err (Line (read + 1))) ≡ Ok (numbers, after)
    → RecordRead fields numbers
record-in word fields read next others numbers after true (Ok more) eb er h =
    let same : (more, record { read = read + 1; left = others }) ≡ (numbers, after) = cc in
    record { texts = fields_after_word next; long = is_record-length word (length fields) next eb; read = er ∙ ap (λ (p : List ℤ × Rest). Ok p.0) same }
record-in word fields read next others numbers after true (Err place) eb er h = absurd (not_both (Cell (read + 1) place) (numbers, after) h)
record-in word fields read next others numbers after false r eb er h = absurd (not_both (Line (read + 1)) (numbers, after) h)

record-left : (word : List ℕ) (fields : List Field) (read : ℕ) (left : List (List (List ℕ))) (numbers : List ℤ) (after : Rest) → read_record word fields record { read = read; left = left } ≡ Ok (numbers, after) → RecordRead fields numbers
record-left word fields read [] numbers after h = absurd (not_both (End read) (numbers, after) h)
record-left word fields read (next ∷ others) numbers after h =
    record-in word fields read next others numbers after (is_record word (length fields) next) (numbers_of 2 fields (fields_after_word next)) refl refl h

pub record-was_read : (word : List ℕ) (fields : List Field) (rest : Rest) (numbers : List ℤ) (after : Rest) → read_record word fields rest ≡ Ok (numbers, after) → RecordRead fields numbers
record-was_read word fields rest numbers after h = record-left word fields rest.read rest.left numbers after h

-- numbers that add to what they should
adding-if : (b : Bool) (numbers more : List ℤ) (rest after : Rest) (wanted : ℤ) → int_eq (total numbers) wanted ≡ b → if◌then◌else◌ {A = Result (List ℤ × Rest) AnswerRefusal} b (Ok (numbers, rest)) (Err (Sum rest.read)) ≡ Ok (more, after)
    → (more ≡ numbers) × (total numbers ≡ wanted)
adding-if true numbers more rest after wanted e h =
    let same : (numbers, rest) ≡ (more, after) = cc in
    (sym (ap (λ (p : List ℤ × Rest). p.0) same), (Decides-int_eq (total numbers) wanted).0 e)
adding-if false numbers more rest after wanted e h = absurd (not_both (Sum rest.read) (more, after) h)

pub adding-read : (wanted : ℤ) (numbers more : List ℤ) (rest after : Rest) → adding_to wanted numbers rest ≡ Ok (more, after) → (more ≡ numbers) × (total numbers ≡ wanted)
adding-read wanted numbers more rest after h = adding-if (int_eq (total numbers) wanted) numbers more rest after wanted refl h
