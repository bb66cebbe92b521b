-- Reading a record for each profile, in the order of the ranks.
use Rattle.std.proofs.Common.{◌≡◌, ℕ, ◌+◌, ◌<◌, ◌≤◌, ℤ, List, [], ◌∷◌, ◌++◌, drop, get_or, length, Result, Ok, Err, add-one, refl, sym, ap, ◌∙◌, arith, append-nil, append_assoc, drop-cons}
use Rattle.std.proofs.lemmas.List.{drop_all}
use Rattle.md_math.proofs.Builders.{length-list_to, get_or-list_to}
use Rattle.md_space.specs.Profiles.{profile_count, profile_at}
use Rattle.md_space.specs.AllProfiles.{profiles_of}
use Rattle.md_space.proofs.InOrder.{profiles_of-by_rank}
use Rattle.md_parts.specs.declared.refusal.AnswerRefusal.{AnswerRefusal}
use Rattle.md_parts.specs.Reading.{Rest, Reading, then_read}
use Rattle.md_parts.specs.Table.{each_profile}

-- numbers that were read before those that come
abbrev pub after_front : List ℤ → Result (List ℤ × Rest) AnswerRefusal → Result (List ℤ × Rest) AnswerRefusal
after_front front (Ok read) = Ok (front ++ read.0, read.1)
after_front front (Err refusal) = Err refusal

front-front : (ns ms : List ℤ) (r : Result (List ℤ × Rest) AnswerRefusal) → after_front ns (then_read r (λ rest other. Ok (ms ++ rest, other))) ≡ after_front (ns ++ ms) r
front-front ns ms (Ok read) = ap (λ (l : List ℤ). Ok (l, read.1)) (sym (append_assoc ns ms read.0))
front-front ns ms (Err refusal) = refl

-- the profiles from a rank on
pub length-profiles_of : (sizes : List ℕ) → length (profiles_of sizes) ≡ profile_count sizes
length-profiles_of sizes = rw (profiles_of-by_rank sizes) (length-list_to (profile_count sizes) (profile_at sizes))

drop-profiles : (sizes : List ℕ) (r : ℕ) → r < profile_count sizes → drop r (profiles_of sizes) ≡ profile_at sizes r ∷ drop (r + 1) (profiles_of sizes)
drop-profiles sizes r l =
    let long = length-profiles_of sizes in
    let at : get_or (profiles_of sizes) r [] ≡ profile_at sizes r = ap (λ ts. get_or ts r []) (profiles_of-by_rank sizes) ∙ get_or-list_to (profile_count sizes) (profile_at sizes) r [] l in
    drop-cons (profiles_of sizes) r [] (omega arith) ∙ rw (at, add-one) refl

-- what is read of the profiles from a rank on, after those before it
pub record IsRead (sizes : List ℕ) (read : List ℕ → Reading (List ℤ)) (rank : ℕ) (start now : Rest) (numbers : List ℤ) : Type 0 where
  pub so_far : each_profile read (profiles_of sizes) start ≡ after_front numbers (each_profile read (drop rank (profiles_of sizes)) now)

no-front : (r : Result (List ℤ × Rest) AnswerRefusal) → r ≡ after_front [] r
no-front (Ok read) = refl
no-front (Err refusal) = refl

pub read-none : (sizes : List ℕ) (read : List ℕ → Reading (List ℤ)) (start : Rest) → IsRead sizes read 0 start start []
read-none sizes read start = record { so_far = no-front (each_profile read (profiles_of sizes) start) }

pub read-more : (sizes : List ℕ) (read : List ℕ → Reading (List ℤ)) (rank : ℕ) (start now next : Rest) (numbers more : List ℤ) → rank < profile_count sizes
    → IsRead sizes read rank start now numbers → read (profile_at sizes rank) now ≡ Ok (more, next) → IsRead sizes read (rank + 1) start next (numbers ++ more)
read-more sizes read rank start now next numbers more l h one = record {
  so_far = h.so_far ∙ rw (drop-profiles sizes rank l, one) (front-front numbers more (each_profile read (drop (rank + 1) (profiles_of sizes)) next));
}

pub read-fails : (sizes : List ℕ) (read : List ℕ → Reading (List ℤ)) (rank : ℕ) (start now : Rest) (numbers : List ℤ) (refusal : AnswerRefusal) → rank < profile_count sizes
    → IsRead sizes read rank start now numbers → read (profile_at sizes rank) now ≡ Err refusal → each_profile read (profiles_of sizes) start ≡ Err refusal
read-fails sizes read rank start now numbers refusal l h one = h.so_far ∙ rw (drop-profiles sizes rank l, one) refl

pub read-all : (sizes : List ℕ) (read : List ℕ → Reading (List ℤ)) (rank : ℕ) (start now : Rest) (numbers : List ℤ) → profile_count sizes ≤ rank
    → IsRead sizes read rank start now numbers → each_profile read (profiles_of sizes) start ≡ Ok (numbers, now)
read-all sizes read rank start now numbers l h =
    let long = length-profiles_of sizes in
    h.so_far ∙ rw (drop_all rank (profiles_of sizes) (omega arith), append-nil numbers) refl
