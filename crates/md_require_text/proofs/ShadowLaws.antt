-- The records of shadows, read one after another.
use Rattle.std.proofs.Common.{◌≡◌, ◌≢◌, ℕ, zero, suc, ◌+◌, ◌-◌, ◌<◌, ◌≤◌, ℤ, pos, Bool, true, false, List, [], ◌∷◌, ◌++◌, length, replicate, codes, get_or, Option, None, Some, Ok, Err, if◌then◌else◌, refl, sym, ap, subst, ◌∙◌, arith, All, append_assoc, length-append, inl, inr}
use Rattle.std.specs.Ordering.{int_eq}
use Rattle.std.proofs.lemmas.Bool.{cases_lt}
use Rattle.std.proofs.lemmas.List.{get_or_append_left, get_or-append_right, length-replicate}
use Rattle.std.proofs.lemmas.List.Elements.{All-nil, All-cons, All-append}
use Rattle.md_math.specs.Lists.{number_at}
use Rattle.md_math.proofs.Builders.{same_list_to}
use Rattle.md_num.specs.declared.frac.Frac.{Frac}
use Rattle.md_parts.specs.declared.refusal.AnswerRefusal.{AnswerRefusal}
use Rattle.md_parts.specs.Fields.{any_number, denominator_field, place_field}
use Rattle.md_parts.specs.FieldsRead.{FailsIn, Reads}
use Rattle.md_parts.specs.Left.{Left}
use Rattle.md_parts.specs.Multipliers.{after_row, record_of}
use Rattle.md_parts.specs.Reading.{Rest, read_record}
use Rattle.md_parts.specs.Records.{record_with}
use Rattle.md_parts.specs.Repeated.{comes_next}
use Rattle.md_parts.proofs.RecordSteps.{record-fails, record-missing, record-read}
use Rattle.md_parts.proofs.Repeats.{IsSoFar, so_far-all, so_far-fails, so_far-more, so_far-none}
use Rattle.md_parts.proofs.Spread.{int_eq-other, int_eq-own}
use Rattle.md_require_text.specs.RequiredText.{shadow_fields, shadow_in, shadow_records, shadows_for, shadows_of}
use Rattle.md_require_text.specs.Told.{AreShadowsFor, IsFractionIfTold, IsShadowFraction}
use Rattle.md_conditions_text.proofs.FieldLaws.{one-fails, three-fails, three-read, two-fails}

-- ---- one record

pub shadow-missing : (count least : ℕ) (rest : Rest) (refusal : AnswerRefusal) → record_with (codes "shadow") 3 rest ≡ Err refusal → read_record (codes "shadow") (shadow_fields count least) rest ≡ Err refusal
shadow-missing count least rest refusal h = record-missing (codes "shadow") (shadow_fields count least) 3 rest refusal refl h

shadow-fails : (count least : ℕ) (rest after : Rest) (left : Left) (refusal : AnswerRefusal) → record_with (codes "shadow") 3 rest ≡ Ok (left, after) → FailsIn (shadow_fields count least) left refusal
    → read_record (codes "shadow") (shadow_fields count least) rest ≡ Err refusal
shadow-fails count least rest after left refusal h fails = record-fails (codes "shadow") (shadow_fields count least) 3 rest after left refusal refl h fails

pub shadow-index : (count least : ℕ) (rest after : Rest) (left : Left) (refusal : AnswerRefusal) → record_with (codes "shadow") 3 rest ≡ Ok (left, after) → FailsIn (place_field least count ∷ []) left refusal
    → read_record (codes "shadow") (shadow_fields count least) rest ≡ Err refusal
shadow-index count least rest after left refusal h fails =
    shadow-fails count least rest after left refusal h (one-fails (place_field least count) any_number denominator_field left refusal fails)

pub shadow-num : (count least : ℕ) (rest after : Rest) (left mid : Left) (index : ℤ) (refusal : AnswerRefusal) → record_with (codes "shadow") 3 rest ≡ Ok (left, after) → Reads (place_field least count ∷ []) left mid (index ∷ [])
    → FailsIn (any_number ∷ []) mid refusal → read_record (codes "shadow") (shadow_fields count least) rest ≡ Err refusal
shadow-num count least rest after left mid index refusal h one fails =
    shadow-fails count least rest after left refusal h (two-fails (place_field least count) any_number denominator_field left mid index refusal one fails)

pub shadow-den : (count least : ℕ) (rest after : Rest) (left mid late : Left) (index num : ℤ) (refusal : AnswerRefusal) → record_with (codes "shadow") 3 rest ≡ Ok (left, after) → Reads (place_field least count ∷ []) left mid (index ∷ [])
    → Reads (any_number ∷ []) mid late (num ∷ []) → FailsIn (denominator_field ∷ []) late refusal → read_record (codes "shadow") (shadow_fields count least) rest ≡ Err refusal
shadow-den count least rest after left mid late index num refusal h one two fails =
    shadow-fails count least rest after left refusal h (three-fails (place_field least count) any_number denominator_field left mid late index num refusal one two fails)

pub shadow-read : (count least : ℕ) (rest after : Rest) (left mid late end : Left) (index num den : ℤ) → record_with (codes "shadow") 3 rest ≡ Ok (left, after) → Reads (place_field least count ∷ []) left mid (index ∷ [])
    → Reads (any_number ∷ []) mid late (num ∷ []) → Reads (denominator_field ∷ []) late end (den ∷ []) → read_record (codes "shadow") (shadow_fields count least) rest ≡ Ok (index ∷ num ∷ den ∷ [], after)
shadow-read count least rest after left mid late end index num den h one two three =
    record-read (codes "shadow") (shadow_fields count least) 3 rest after left end (index ∷ num ∷ den ∷ []) refl h (three-read (place_field least count) any_number denominator_field left mid late end index num den one two three)

-- ---- one record more

abbrev Shadows : Type 0
Shadows = List (Option Frac)

abbrev nones : ℕ → Shadows
nones n = replicate n None

-- a shadow at a place, with shadows before it that are not told
abbrev pub put : Shadows → ℕ → Frac → Shadows
put shadows index shadow = (shadows ++ nones (index - length shadows)) ++ Some shadow ∷ []

none-at : (n k : ℕ) → get_or (nones n) k None ≡ None
none-at zero k = refl
none-at (suc n) zero = refl
none-at (suc n) (suc k) = none-at n k

filled-at : (shadows : Shadows) (n k : ℕ) → get_or (shadows ++ nones n) k None ≡ get_or shadows k None
filled-at [] n k = none-at n k
filled-at (shadow ∷ shadows) n zero = refl
filled-at (shadow ∷ shadows) n (suc k) = filled-at shadows n k

past : (shadows : Shadows) (k : ℕ) → length shadows ≤ k → get_or shadows k None ≡ None
past [] k l = refl
past (shadow ∷ shadows) zero l = absurd (omega arith)
past (shadow ∷ shadows) (suc k) l = past shadows k (omega arith)

length-filled : (shadows : Shadows) (n : ℕ) → length (shadows ++ nones n) ≡ length shadows + n
length-filled shadows n = length-append shadows (nones n) ∙ ap (λ (k : ℕ). length shadows + k) (length-replicate n None)

length-front : (shadows : Shadows) (index : ℕ) → length shadows ≤ index → length (shadows ++ nones (index - length shadows)) ≡ index
length-front shadows index l = length-filled shadows (index - length shadows) ∙ omega arith

length-put : (shadows : Shadows) (index : ℕ) (shadow : Frac) → length shadows ≤ index → length (put shadows index shadow) ≡ index + 1
length-put shadows index shadow l =
    length-append (shadows ++ nones (index - length shadows)) (Some shadow ∷ []) ∙ ap (λ (k : ℕ). k + 1) (length-front shadows index l)

put-own : (shadows : Shadows) (index : ℕ) (shadow : Frac) → length shadows ≤ index → get_or (put shadows index shadow) index None ≡ Some shadow
put-own shadows index shadow l =
    let front = shadows ++ nones (index - length shadows) in
    let first : index - index ≡ 0 = omega arith in
    get_or-append_right front (Some shadow ∷ []) index index None (length-front shadows index l) (omega arith) ∙ ap (λ (i : ℕ). get_or (Some shadow ∷ []) i None) first

put-other : (shadows : Shadows) (index k : ℕ) (shadow : Frac) → length shadows ≤ index → k ≢ index → get_or (put shadows index shadow) k None ≡ get_or shadows k None
put-other shadows index k shadow l ne =
    let front = shadows ++ nones (index - length shadows) in
    let long = length-front shadows index l in
    elim (cases_lt k index) [
      | inl m ↦ get_or_append_left front (Some shadow ∷ []) None k (omega (arith, long, m)) ∙ filled-at shadows (index - length shadows) k
      | inr m ↦ past (put shadows index shadow) k (omega (arith, length-put shadows index shadow l, m, ne)) ∙ sym (past shadows k (omega (arith, l, m)))
    ]

all-nones : (n : ℕ) → All IsFractionIfTold (nones n)
all-nones zero = All-nil IsFractionIfTold
all-nones (suc n) = All-cons IsFractionIfTold None (nones n) tt (all-nones n)

none-behind : (n : ℕ) → nones n ++ None ∷ [] ≡ nones (suc n)
none-behind zero = refl
none-behind (suc n) = ap (λ (l : Shadows). None ∷ l) (none-behind n)

pub filled-more : (old now new : Shadows) (k : ℕ) → length old ≤ k → now ≡ old ++ nones (k - length old) → new ≡ now ++ None ∷ [] → new ≡ old ++ nones (k + 1 - length old)
filled-more old now new k l before pushed =
    let next : suc (k - length old) ≡ k + 1 - length old = omega arith in
    pushed ∙ ap (λ (x : Shadows). x ++ None ∷ []) before ∙ append_assoc old (nones (k - length old)) (None ∷ [])
    ∙ ap (λ (x : Shadows). old ++ x) (none-behind (k - length old) ∙ ap (λ (n : ℕ). nones n) next)

-- the record of another condition does not matter
record_of-other : (records : List (List ℤ)) (numbers : List ℤ) (index : ℕ) → int_eq (number_at numbers 0) (pos index) ≡ false → record_of (records ++ numbers ∷ []) index ≡ record_of records index
record_of-other [] numbers index h = rw h refl
record_of-other (first ∷ others) numbers index h =
    ap (λ (o : Option (List ℤ)). if◌then◌else◌ {A = Option (List ℤ)} (int_eq (number_at first 0) (pos index)) (Some first) o) (record_of-other others numbers index h)

own-after : (b : Bool) (first : List ℤ) (before after : Option (List ℤ)) (numbers : List ℤ) → if◌then◌else◌ {A = Option (List ℤ)} b (Some first) before ≡ None → (before ≡ None → after ≡ Some numbers)
    → if◌then◌else◌ {A = Option (List ℤ)} b (Some first) after ≡ Some numbers
own-after true first before after numbers e next = absurd (let w : Some first ≡ None = e in cc)
own-after false first before after numbers e next = next e

-- the first record of a condition
record_of-own : (records : List (List ℤ)) (numbers : List ℤ) (index : ℕ) → record_of records index ≡ None → int_eq (number_at numbers 0) (pos index) ≡ true → record_of (records ++ numbers ∷ []) index ≡ Some numbers
record_of-own [] numbers index absent h = rw h refl
record_of-own (first ∷ others) numbers index absent h =
    own-after (int_eq (number_at first 0) (pos index)) first (record_of others index) (record_of (others ++ numbers ∷ []) index) numbers absent (λ e. record_of-own others numbers index e h)

no-record : (o : Option (List ℤ)) → shadow_in o ≡ None → o ≡ None
no-record None e = refl
no-record (Some numbers) e = absurd (let w : Some (record { num = number_at numbers 1; den = number_at numbers 2 }) ≡ None = e in cc)

-- ---- the list so far

pub record AreReadSoFar (count : ℕ) (start now : Rest) (shadows : Shadows) : Type 0 where
  pub records : List (List ℤ)
  pub so_far : IsSoFar (codes "shadow") (shadow_fields count) after_row 0 (length shadows) start now records
  pub are : (k : ℕ) → get_or shadows k None ≡ shadow_in (record_of records k)
  pub told : All IsFractionIfTold shadows
  pub few : length shadows ≤ count

pub so_far-first : (count : ℕ) (start : Rest) → AreReadSoFar count start start []
so_far-first count start = record {
  records = [];
  so_far = so_far-none (codes "shadow") (shadow_fields count) after_row 0 start;
  are = λ k. refl;
  told = All-nil IsFractionIfTold;
  few = omega arith;
}

abbrev numbers_of : ℕ → Frac → List ℤ
numbers_of index shadow = pos index ∷ shadow.num ∷ shadow.den ∷ []

are-more : (records : List (List ℤ)) (shadows : Shadows) (index : ℕ) (shadow : Frac) → length shadows ≤ index → ((k : ℕ) → get_or shadows k None ≡ shadow_in (record_of records k))
    → (k : ℕ) → get_or (put shadows index shadow) k None ≡ shadow_in (record_of (records ++ numbers_of index shadow ∷ []) k)
are-more records shadows index shadow l are k =
    elim (cases_lt k index) [
      | inl m ↦ other k (omega (arith, m))
      | inr m ↦
          elim (cases_lt index k) [
            | inl n ↦ other k (omega (arith, n))
            | inr n ↦
                let same : index ≡ k = omega (arith, m, n) in
                subst (λ (i : ℕ). get_or (put shadows index shadow) i None ≡ shadow_in (record_of (records ++ numbers_of index shadow ∷ []) i)) same
                (put-own shadows index shadow l ∙ sym (ap shadow_in (record_of-own records (numbers_of index shadow) index (no-record (record_of records index) (sym (are index) ∙ past shadows index l)) (int_eq-own index))))
          ]
    ]
  where
    other : (k : ℕ) → k ≢ index → get_or (put shadows index shadow) k None ≡ shadow_in (record_of (records ++ numbers_of index shadow ∷ []) k)
    other k ne =
        put-other shadows index k shadow l ne ∙ are k
        ∙ sym (ap shadow_in (record_of-other records (numbers_of index shadow) k (int_eq-other index k (λ e. ne (sym e)))))

pub so_far-next : (count least : ℕ) (start now next : Rest) (shadows all : Shadows) (index : ℕ) (shadow : Frac) → AreReadSoFar count start now shadows → comes_next (codes "shadow") now.left ≡ true → least ≡ length shadows
    → read_record (codes "shadow") (shadow_fields count least) now ≡ Ok (pos index ∷ shadow.num ∷ shadow.den ∷ [], next) → least ≤ index → index < count → IsShadowFraction shadow → all ≡ put shadows index shadow
    → AreReadSoFar count start next all
so_far-next count least start now next shadows all index shadow h comes same_least read below m fraction is =
    let l : length shadows ≤ index = omega (arith, same_least, below) in
    let one : read_record (codes "shadow") (shadow_fields count (length shadows)) now ≡ Ok (numbers_of index shadow, next) =
    subst (λ (n : ℕ). read_record (codes "shadow") (shadow_fields count n) now ≡ Ok (numbers_of index shadow, next)) same_least read in
    let long = length-put shadows index shadow l in
    subst (λ (x : Shadows). AreReadSoFar count start next x) (sym is) (record {
      records = h.records ++ numbers_of index shadow ∷ [];
      so_far = subst (λ (n : ℕ). IsSoFar (codes "shadow") (shadow_fields count) after_row 0 n start next (h.records ++ numbers_of index shadow ∷ [])) (sym long)
          (so_far-more (codes "shadow") (shadow_fields count) after_row 0 (length shadows) start now next h.records (numbers_of index shadow) h.so_far comes one);
      are = are-more h.records shadows index shadow l h.are;
      told = All-append IsFractionIfTold (shadows ++ nones (index - length shadows)) (Some shadow ∷ [])
          (All-append IsFractionIfTold shadows (nones (index - length shadows)) h.told (all-nones (index - length shadows)))
          (All-cons IsFractionIfTold (Some shadow) [] fraction (All-nil IsFractionIfTold));
      few = omega (arith, long, m);
    })

pub shadows-fail : (count least : ℕ) (start now : Rest) (shadows : Shadows) (refusal : AnswerRefusal) → AreReadSoFar count start now shadows → comes_next (codes "shadow") now.left ≡ true → least ≡ length shadows
    → read_record (codes "shadow") (shadow_fields count least) now ≡ Err refusal → shadows_of count start ≡ Err refusal
shadows-fail count least start now shadows refusal h comes same_least fails =
    let one : read_record (codes "shadow") (shadow_fields count (length shadows)) now ≡ Err refusal = subst (λ (n : ℕ). read_record (codes "shadow") (shadow_fields count n) now ≡ Err refusal) same_least fails in
    let all : shadow_records count start ≡ Err refusal = so_far-fails (codes "shadow") (shadow_fields count) after_row 0 (length shadows) start now h.records refusal h.so_far comes one in
    rw all refl

-- ---- all

filled : (count : ℕ) (start now : Rest) (shadows : Shadows) → (h : AreReadSoFar count start now shadows) → shadows ++ nones (count - length shadows) ≡ shadows_for count h.records
filled count start now shadows h =
    let few = h.few in
    same_list_to (shadows ++ nones (count - length shadows)) count (λ k. shadow_in (record_of h.records k)) None (length-filled shadows (count - length shadows) ∙ omega (arith, few))
    (λ k l. filled-at shadows (count - length shadows) k ∙ h.are k)

pub shadows-read : (count : ℕ) (start now : Rest) (shadows all : Shadows) → AreReadSoFar count start now shadows → comes_next (codes "shadow") now.left ≡ false → all ≡ shadows ++ replicate (count - length shadows) None
    → shadows_of count start ≡ Ok (all, now)
shadows-read count start now shadows all h ends is =
    let found : shadow_records count start ≡ Ok (h.records, now) = so_far-all (codes "shadow") (shadow_fields count) after_row 0 (length shadows) start now h.records h.so_far ends in
    rw found (ap (λ (x : Shadows). Ok (x, now)) (sym (is ∙ filled count start now shadows h)))

pub shadows-known : (count : ℕ) (start now : Rest) (shadows all : Shadows) → AreReadSoFar count start now shadows → all ≡ shadows ++ replicate (count - length shadows) None → AreShadowsFor count all
shadows-known count start now shadows all h is =
    let few = h.few in
    subst (λ (x : Shadows). AreShadowsFor count x) (sym is) (record {
      one_each = length-filled shadows (count - length shadows) ∙ omega (arith, few);
      each = All-append IsFractionIfTold shadows (nones (count - length shadows)) h.told (all-nones (count - length shadows));
    })
