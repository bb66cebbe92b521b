-- A loop over the records of cuts.
use Rattle.std.proofs.Common.{◌≡◌, ◌≢◌, ℕ, zero, suc, ◌<◌, ◌≤◌, ◌^◌, ℤ, pos, Bool, true, false, not, ◌&&◌, ◌||◌, nat_eq, List, [], ◌∷◌, ◌++◌, map, length, codes, Ok, Err, refl, sym, ap, subst, ◌∙◌, arith, length-append, inl, inr}
use Rattle.std.specs.Prelude.{slice_index}
use Rattle.std.specs.List.{list_any}
use Rattle.std.proofs.lemmas.Bool.{cases_lt}
use Rattle.std.proofs.lemmas.Bool.Decides.{nat_tests}
use Rattle.std.proofs.lemmas.Int.{ints}
use Rattle.std.proofs.lemmas.List.{map-append, get_or_append_left}
use Rattle.md_parts.specs.declared.refusal.AnswerRefusal.{AnswerRefusal}
use Rattle.md_parts.specs.Fields.{is_place, is_free_place, free_place_field}
use Rattle.md_parts.specs.Left.{Left}
use Rattle.md_parts.specs.Reading.{Rest, read_record}
use Rattle.md_parts.specs.Records.{record_with}
use Rattle.md_parts.specs.FieldsRead.{Reads, FailsIn}
use Rattle.md_parts.specs.Repeated.{comes_next}
use Rattle.md_lp.specs.Cuts.{AreCuts}
use Rattle.md_parts.specs.Cuts.{cut_fields, set_of, with_cut, cuts_of}
use Rattle.md_parts.proofs.RecordSteps.{record-read, record-fails, record-missing}
use Rattle.md_parts.proofs.Repeats.{IsSoFar, so_far-none, so_far-more, so_far-fails, so_far-all}

-- ---- the record of a cut

pub cut-read : (kinds below : ℕ) (before : List ℕ) (rest after : Rest) (left end : Left) (numbers : List ℤ) → below ≡ 2 ^ kinds → record_with (codes "cut") 1 rest ≡ Ok (left, after) → Reads (free_place_field 1 below before ∷ []) left end numbers
    → read_record (codes "cut") (cut_fields kinds before) rest ≡ Ok (numbers, after)
cut-read kinds below before rest after left end numbers e h reads = record-read (codes "cut") (cut_fields kinds before) 1 rest after left end numbers refl h (rw (← e) reads)

pub cut-fails : (kinds below : ℕ) (before : List ℕ) (rest after : Rest) (left : Left) (refusal : AnswerRefusal) → below ≡ 2 ^ kinds → record_with (codes "cut") 1 rest ≡ Ok (left, after) → FailsIn (free_place_field 1 below before ∷ []) left refusal
    → read_record (codes "cut") (cut_fields kinds before) rest ≡ Err refusal
cut-fails kinds below before rest after left refusal e h fails = record-fails (codes "cut") (cut_fields kinds before) 1 rest after left refusal refl h (rw (← e) fails)

pub cut-missing : (kinds : ℕ) (before : List ℕ) (rest : Rest) (refusal : AnswerRefusal) → record_with (codes "cut") 1 rest ≡ Err refusal → read_record (codes "cut") (cut_fields kinds before) rest ≡ Err refusal
cut-missing kinds before rest refusal h = record-missing (codes "cut") (cut_fields kinds before) 1 rest refusal refl h

-- ---- sets that are not among others

both : (a b : Bool) → (a && b) ≡ true → (a ≡ true) × (b ≡ true)
both true true h = (refl, refl)
both true false h = (refl, h)
both false b h = absurd (let e : false ≡ true = h in cc)

neither : (a b : Bool) → not (a || b) ≡ true → (a ≡ false) × (not b ≡ true)
neither true b h = absurd (let e : false ≡ true = h in cc)
neither false b h = (refl, h)

differs : (a b : ℕ) → nat_eq a b ≡ false → b ≢ a
differs a b h = grind (arith, nat_tests)

absent-known : (set : ℕ) (before : List ℕ) → not (list_any (nat_eq set) before) ≡ true → (j : ℕ) → j < length before → slice_index before j ≢ set
absent-known set [] h j l = absurd (omega arith)
absent-known set (first ∷ before) h zero l = differs set first (neither (nat_eq set first) (list_any (nat_eq set) before) h).0
absent-known set (first ∷ before) h (suc j) l = absent-known set before (neither (nat_eq set first) (list_any (nat_eq set) before) h).1 j (omega arith)

-- a set that is free among others
pub record IsFreeSet (kinds set : ℕ) (before : List ℕ) : Type 0 where
  pub some : 1 ≤ set
  pub inside : set < 2 ^ kinds
  pub absent : (j : ℕ) → j < length before → slice_index before j ≢ set

place-inside : (from below place : ℕ) → is_place from below (pos place) ≡ true → (from ≤ place) × (place < below)
place-inside from below place h = grind (arith, ints)

free-known : (kinds set : ℕ) (before : List ℕ) → is_free_place 1 (2 ^ kinds) before (pos set) ≡ true → IsFreeSet kinds set before
free-known kinds set before h =
    let (place, free) = both (is_place 1 (2 ^ kinds) (pos set)) (not (list_any (nat_eq set) before)) h in
    let (some, inside) = place-inside 1 (2 ^ kinds) set place in
    record { some = some; inside = inside; absent = absent-known set before free }

-- cuts and one more
at-last : (sets : List ℕ) (set k : ℕ) → length sets ≡ k → slice_index (sets ++ set ∷ []) k ≡ set
at-last [] set zero e = refl
at-last [] set (suc k) e = absurd (omega arith)
at-last (first ∷ sets) set zero e = absurd (omega arith)
at-last (first ∷ sets) set (suc k) e = at-last sets set k (omega arith)

at-first : (sets : List ℕ) (set k : ℕ) → k < length sets → slice_index (sets ++ set ∷ []) k ≡ slice_index sets k
at-first sets set k l = get_or_append_left sets (set ∷ []) 0 k l

pub cuts-none : (kinds : ℕ) → AreCuts kinds []
cuts-none kinds = record { some = λ k l. absurd (omega arith); inside = λ k l. absurd (omega arith); distinct = λ j k l m. absurd (omega arith) }

pub cuts-more : (kinds set : ℕ) (sets : List ℕ) → AreCuts kinds sets → IsFreeSet kinds set sets → AreCuts kinds (sets ++ set ∷ [])
cuts-more kinds set sets h free =
    let long = length-append sets (set ∷ []) in
    record {
      some = λ k l. elim (cases_lt k (length sets)) [
        | inl m ↦ rw (at-first sets set k m) (h.some k m)
        | inr m ↦ rw (at-last sets set k (omega (arith, l, long, m))) free.some
      ];
      inside = λ k l. elim (cases_lt k (length sets)) [
        | inl m ↦ rw (at-first sets set k m) (h.inside k m)
        | inr m ↦ rw (at-last sets set k (omega (arith, l, long, m))) free.inside
      ];
      distinct = λ j k l m. elim (cases_lt k (length sets)) [
        | inl b ↦ rw (at-first sets set k b, at-first sets set j (omega (arith, l, b))) (h.distinct j k l b)
        | inr b ↦
            let last : length sets ≡ k = omega (arith, m, long, b) in
            rw (at-last sets set k last, at-first sets set j (omega (arith, l, last))) (free.absent j (omega (arith, l, last)))
      ];
    }

-- ---- the loop

pub record AreCutSoFar (kinds : ℕ) (start now : Rest) (sets : List ℕ) : Type 0 where
  pub records : List (List ℤ)
  pub so_far : IsSoFar (codes "cut") (cut_fields kinds) with_cut [] sets start now records
  pub sets_are : sets ≡ map set_of records
  pub cuts : AreCuts kinds sets

pub so_far_cut-none : (kinds : ℕ) (start : Rest) → AreCutSoFar kinds start start []
so_far_cut-none kinds start = record { records = []; so_far = so_far-none (codes "cut") (cut_fields kinds) with_cut [] start; sets_are = refl; cuts = cuts-none kinds }

pub so_far_cut-more : (kinds : ℕ) (start now next : Rest) (sets taken : List ℕ) (set : ℕ) → taken ≡ sets → AreCutSoFar kinds start now sets → comes_next (codes "cut") now.left ≡ true
    → read_record (codes "cut") (cut_fields kinds taken) now ≡ Ok (pos set ∷ [], next) → is_free_place 1 (2 ^ kinds) taken (pos set) ≡ true → AreCutSoFar kinds start next (sets ++ set ∷ [])
so_far_cut-more kinds start now next sets taken set e h comes one free =
    let same : read_record (codes "cut") (cut_fields kinds sets) now ≡ Ok (pos set ∷ [], next) = subst (λ (xs : List ℕ). read_record (codes "cut") (cut_fields kinds xs) now ≡ Ok (pos set ∷ [], next)) e one in
    let known = subst (λ (xs : List ℕ). is_free_place 1 (2 ^ kinds) xs (pos set) ≡ true) e free in
    record {
      records = h.records ++ (pos set ∷ []) ∷ [];
      so_far = so_far-more (codes "cut") (cut_fields kinds) with_cut [] sets start now next h.records (pos set ∷ []) h.so_far comes same;
      sets_are = ap (λ (xs : List ℕ). xs ++ set ∷ []) h.sets_are ∙ sym (map-append set_of h.records ((pos set ∷ []) ∷ []));
      cuts = cuts-more kinds set sets h.cuts (free-known kinds set sets known);
    }

pub so_far_cut-fails : (kinds : ℕ) (start now : Rest) (sets taken : List ℕ) (refusal : AnswerRefusal) → taken ≡ sets → AreCutSoFar kinds start now sets → comes_next (codes "cut") now.left ≡ true
    → read_record (codes "cut") (cut_fields kinds taken) now ≡ Err refusal → cuts_of kinds start ≡ Err refusal
so_far_cut-fails kinds start now sets taken refusal e h comes one =
    let same : read_record (codes "cut") (cut_fields kinds sets) now ≡ Err refusal = subst (λ (xs : List ℕ). read_record (codes "cut") (cut_fields kinds xs) now ≡ Err refusal) e one in
    rw (so_far-fails (codes "cut") (cut_fields kinds) with_cut [] sets start now h.records refusal h.so_far comes same) refl

pub so_far_cut-all : (kinds : ℕ) (start now : Rest) (sets : List ℕ) → AreCutSoFar kinds start now sets → comes_next (codes "cut") now.left ≡ false → cuts_of kinds start ≡ Ok (sets, now)
so_far_cut-all kinds start now sets h ends =
    rw (so_far-all (codes "cut") (cut_fields kinds) with_cut [] sets start now h.records h.so_far ends) (ap (λ (xs : List ℕ). Ok (xs, now)) (sym h.sets_are))
