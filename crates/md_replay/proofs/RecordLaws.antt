-- The records of bases: of one more, and of all.
use Rattle.std.proofs.Common.{◌≡◌, ℕ, zero, suc, ◌+◌, ◌<◌, ◌≤◌, ℤ, List, [], ◌∷◌, ◌++◌, ◌⊎◌, inl, inr, length, take, refl, sym, ap, append_assoc, ◌∙◌, arith, add-one}
use Rattle.md_math.specs.Lists.{number_at}
use Rattle.md_records.specs.Written.{record_text, text_of_records}
use Rattle.md_replay.specs.Records.{basis_record, basis_records}

more_from : (k : ℕ) (dens greatest : List ℤ) (place : ℕ) → place < length dens → place < length greatest → basis_records k (take (suc place) dens) (take (suc place) greatest) ≡ basis_records k (take place dens) (take place greatest) ++ basis_record (k + place) (number_at dens place) (number_at greatest place) ∷ []
more_from k [] greatest place a b = absurd (omega arith)
more_from k (den ∷ dens) [] place a b = absurd (omega arith)
more_from k (den ∷ dens) (size ∷ greatest) zero a b = ap (λ i. basis_record i den size ∷ []) (let e : k ≡ k + 0 = omega arith in e)
more_from k (den ∷ dens) (size ∷ greatest) (suc place) a b =
    ap (λ xs. basis_record k den size ∷ xs)
    (more_from (k + 1) dens greatest place (omega arith) (omega arith)
    ∙ ap (λ i. basis_records (k + 1) (take place dens) (take place greatest) ++ basis_record i (number_at dens place) (number_at greatest place) ∷ [])
    (let e : k + 1 + place ≡ k + suc place = omega arith in e))

pub basis_records-more : (dens greatest : List ℤ) (place : ℕ) → place < length dens → place < length greatest → basis_records 0 (take (place + 1) dens) (take (place + 1) greatest) ≡ basis_records 0 (take place dens) (take place greatest) ++ basis_record place (number_at dens place) (number_at greatest place) ∷ []
basis_records-more dens greatest place a b =
    rw add-one (more_from 0 dens greatest place a b
    ∙ ap (λ i. basis_records 0 (take place dens) (take place greatest) ++ basis_record i (number_at dens place) (number_at greatest place) ∷ []) (let e : 0 + place ≡ place = omega arith in e))

pub basis_records-all : (k : ℕ) (dens greatest : List ℤ) (count : ℕ) → (length dens ≤ count) ⊎ (length greatest ≤ count) → basis_records k (take count dens) (take count greatest) ≡ basis_records k dens greatest
basis_records-all k [] [] zero h = refl
basis_records-all k [] [] (suc count) h = refl
basis_records-all k [] (size ∷ greatest) zero h = refl
basis_records-all k [] (size ∷ greatest) (suc count) h = refl
basis_records-all k (den ∷ dens) [] zero h = refl
basis_records-all k (den ∷ dens) [] (suc count) h = refl
basis_records-all k (den ∷ dens) (size ∷ greatest) zero h = absurd (elim h [ inl a ↦ omega arith | inr a ↦ omega arith ])
basis_records-all k (den ∷ dens) (size ∷ greatest) (suc count) h =
    ap (λ xs. basis_record k den size ∷ xs) (basis_records-all (k + 1) dens greatest count (elim h [ inl a ↦ inl (omega arith) | inr a ↦ inr (omega arith) ]))

pub text_of_records-more : (rows more : List (List (List ℕ))) → text_of_records (rows ++ more) ≡ text_of_records rows ++ text_of_records more
text_of_records-more [] more = refl
text_of_records-more (row ∷ rows) more =
    ap (λ text. record_text row ++ text) (text_of_records-more rows more)
    ∙ sym (append_assoc (record_text row) (text_of_records rows) (text_of_records more))
