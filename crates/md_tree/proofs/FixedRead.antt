-- A loop over the records of what is fixed at a node.
use Rattle.std.proofs.Common.{◌≡◌, ℕ, ◌+◌, ◌<◌, ◌≤◌, ℤ, pos, true, false, List, [], ◌∷◌, ◌++◌, map, codes, Ok, Err, refl, sym, ap, ap₂, subst, ◌∙◌, add-one, append-nil, append_assoc}
use Rattle.std.proofs.lemmas.List.{map-append}
use Rattle.md_space.specs.Profiles.{profile_count}
use Rattle.md_setting.specs.Setting.{GeneralSetting}
use Rattle.md_setting.specs.Meaning.{outcome_count, sizes_of}
use Rattle.md_lp.specs.declared.pivot.Pivot.{Pivot}
use Rattle.md_parts.specs.declared.refusal.AnswerRefusal.{AnswerRefusal}
use Rattle.md_parts.specs.Fields.{Field, place_field}
use Rattle.md_parts.specs.Path.{pivot_of}
use Rattle.md_parts.specs.Reading.{Rest, read_record}
use Rattle.md_parts.specs.Repeated.{comes_next}
use Rattle.md_parts.proofs.Repeats.{IsSoFar, so_far-none, so_far-more, so_far-fails, so_far-all}
use Rattle.md_tree.specs.AnswerTo.{AreFixedFrom}
use Rattle.md_tree.specs.AnswerText.{fixed_fields, after_fixed, fixed_of}

-- the pairs that were read, of which the next rank is the least that may come
pub record AreFixed (s : GeneralSetting) (start now : Rest) (least : ℕ) (pairs : List Pivot) : Type 0 where
  pub records : List (List ℤ)
  pub so_far : IsSoFar (codes "fix") (fixed_fields s) after_fixed 0 least start now records
  pub pairs_are : pairs ≡ map pivot_of records
  pub fits : (others : List Pivot) → AreFixedFrom s least others → AreFixedFrom s 0 (pairs ++ others)

pub fixed-none : (s : GeneralSetting) (start : Rest) → AreFixed s start start 0 []
fixed-none s start = record { records = []; so_far = so_far-none (codes "fix") (fixed_fields s) after_fixed 0 start; pairs_are = refl; fits = λ others h. h }

-- the fields of a pair, where these are the numbers of profiles and outcomes
fields-are : (s : GeneralSetting) (least profiles outcomes : ℕ) → profiles ≡ profile_count (sizes_of s) → outcomes ≡ outcome_count s → place_field least profiles ∷ place_field 0 outcomes ∷ [] ≡ fixed_fields s least
fields-are s least profiles outcomes p o = ap₂ (λ (n m : ℕ). place_field least n ∷ place_field 0 m ∷ []) p o

pub fixed-more : (s : GeneralSetting) (profiles outcomes : ℕ) (start now next : Rest) (least : ℕ) (pairs : List Pivot) (pair : Pivot) → profiles ≡ profile_count (sizes_of s) → outcomes ≡ outcome_count s → AreFixed s start now least pairs
    → comes_next (codes "fix") now.left ≡ true → read_record (codes "fix") (place_field least profiles ∷ place_field 0 outcomes ∷ []) now ≡ Ok (pos pair.row ∷ pos pair.column ∷ [], next)
    → (least ≤ pair.row) × (pair.row < profiles) → pair.column < outcomes → AreFixed s start next (pair.row + 1) (pairs ++ pair ∷ [])
fixed-more s profiles outcomes start now next least pairs pair p o h comes one rank outcome =
    let same : read_record (codes "fix") (fixed_fields s least) now ≡ Ok (pos pair.row ∷ pos pair.column ∷ [], next) =
    subst (λ (fields : List Field). read_record (codes "fix") fields now ≡ Ok (pos pair.row ∷ pos pair.column ∷ [], next)) (fields-are s least profiles outcomes p o) one in
    record {
      records = h.records ++ (pos pair.row ∷ pos pair.column ∷ []) ∷ [];
      so_far = so_far-more (codes "fix") (fixed_fields s) after_fixed 0 least start now next h.records (pos pair.row ∷ pos pair.column ∷ []) h.so_far comes same;
      pairs_are = ap (λ (ps : List Pivot). ps ++ pair ∷ []) h.pairs_are ∙ sym (map-append pivot_of h.records ((pos pair.row ∷ pos pair.column ∷ []) ∷ []));
      fits = λ others more.
          let behind = subst (λ (n : ℕ). AreFixedFrom s n others) (add-one pair.row) more in
          rw (append_assoc pairs (pair ∷ []) others) (h.fits (pair ∷ others) (rank.0, subst (λ (n : ℕ). pair.row < n) p rank.1, subst (λ (n : ℕ). pair.column < n) o outcome, behind));
    }

pub fixed-fails : (s : GeneralSetting) (profiles outcomes : ℕ) (start now : Rest) (least : ℕ) (pairs : List Pivot) (refusal : AnswerRefusal) → profiles ≡ profile_count (sizes_of s) → outcomes ≡ outcome_count s → AreFixed s start now least pairs
    → comes_next (codes "fix") now.left ≡ true → read_record (codes "fix") (place_field least profiles ∷ place_field 0 outcomes ∷ []) now ≡ Err refusal → fixed_of s start ≡ Err refusal
fixed-fails s profiles outcomes start now least pairs refusal p o h comes one =
    let same : read_record (codes "fix") (fixed_fields s least) now ≡ Err refusal = subst (λ (fields : List Field). read_record (codes "fix") fields now ≡ Err refusal) (fields-are s least profiles outcomes p o) one in
    rw (so_far-fails (codes "fix") (fixed_fields s) after_fixed 0 least start now h.records refusal h.so_far comes same) refl

pub fixed-all : (s : GeneralSetting) (start now : Rest) (least : ℕ) (pairs : List Pivot) → AreFixed s start now least pairs → comes_next (codes "fix") now.left ≡ false → fixed_of s start ≡ Ok (pairs, now)
fixed-all s start now least pairs h ends =
    rw (so_far-all (codes "fix") (fixed_fields s) after_fixed 0 least start now h.records h.so_far ends) (ap (λ (ps : List Pivot). Ok (ps, now)) (sym h.pairs_are))

pub fixed-fits : (s : GeneralSetting) (start now : Rest) (least : ℕ) (pairs : List Pivot) → AreFixed s start now least pairs → AreFixedFrom s 0 pairs
fixed-fits s start now least pairs h = rw append-nil at (h.fits [] tt)
