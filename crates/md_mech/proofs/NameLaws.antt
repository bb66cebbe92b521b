-- Names that are written one after the other.
use Rattle.std.proofs.Common.{◌≡◌, ℕ, zero, suc, ◌+◌, ◌<◌, ◌≤◌, List, [], ◌∷◌, ◌++◌, length, get_or, take, refl, sym, ap, ◌∙◌, arith, append_assoc}
use Rattle.std.specs.List.{join_with_byte}
use Rattle.std.specs.Prelude.{slice_index_or}
use Rattle.std.proofs.lemmas.List.{take_more, take_all, length-take}
use Rattle.md_setting.specs.Setting.{Agent}
use Rattle.md_setting.specs.Meaning.{nobody}
use Rattle.md_mech.specs.RowName.{type_names}

pub length-type_names : (agents : List Agent) (t : List ℕ) → length t ≡ length agents → length (type_names agents t) ≡ length agents
length-type_names [] t h = refl
length-type_names (agent ∷ agents) [] h = absurd (omega arith)
length-type_names (agent ∷ agents) (a ∷ t) h = ap suc (length-type_names agents t (omega arith))

pub type_names-at : (agents : List Agent) (t : List ℕ) (i : ℕ) → length t ≡ length agents → i < length agents →
    get_or (type_names agents t) i [] ≡ slice_index_or (get_or agents i nobody).types (get_or t i 0) []
type_names-at [] t i h l = absurd (omega arith)
type_names-at (agent ∷ agents) [] i h l = absurd (omega arith)
type_names-at (agent ∷ agents) (a ∷ t) zero h l = refl
type_names-at (agent ∷ agents) (a ∷ t) (suc i) h l = type_names-at agents t i (omega arith) (omega arith)

join-more : (c : ℕ) (xs : List (List ℕ)) (y : List ℕ) → 0 < length xs → join_with_byte c (xs ++ y ∷ []) ≡ join_with_byte c xs ++ c ∷ y
join-more c [] y h = absurd (omega arith)
join-more c (x ∷ []) y h = refl
join-more c (x ∷ z ∷ xs) y h =
    rw (join-more c (z ∷ xs) y (omega arith)) (sym (append_assoc x (c ∷ join_with_byte c (z ∷ xs)) (c ∷ y)))

pub first_name : (names : List (List ℕ)) (old now w : List ℕ) → 0 < length names → w ≡ get_or names 0 [] → now ≡ (old ++ 47 ∷ []) ++ w →
    now ≡ old ++ 47 ∷ join_with_byte 43 (take 1 names)
first_name names old now w h e f =
    let one : take 1 names ≡ w ∷ [] = take_more names 0 [] h ∙ ap (λ x. x ∷ []) (sym e) in
    rw one (f ∙ append_assoc old (47 ∷ []) w)

pub next_name : (names : List (List ℕ)) (old cur now w : List ℕ) (k : ℕ) → 0 < k → k < length names → w ≡ get_or names k [] →
    cur ≡ old ++ 47 ∷ join_with_byte 43 (take k names) → now ≡ (cur ++ 43 ∷ []) ++ w → now ≡ old ++ 47 ∷ join_with_byte 43 (take (k + 1) names)
next_name names old cur now w k some h e f g =
    let long : 0 < length (take k names) = rw length-take-small (omega arith) in
    let more : join_with_byte 43 (take (k + 1) names) ≡ join_with_byte 43 (take k names) ++ 43 ∷ w =
    ap (join_with_byte 43) (take_more names k [] h ∙ ap (λ x. take k names ++ x ∷ []) (sym e)) ∙ join-more 43 (take k names) w long in
    rw (more, g, f) (append_assoc (old ++ 47 ∷ join_with_byte 43 (take k names)) (43 ∷ []) w ∙ append_assoc old (47 ∷ join_with_byte 43 (take k names)) (43 ∷ w))
  where
    length-take-small : length (take k names) ≡ k
    length-take-small = length-take k names ∙ omega arith

pub all_names : (names : List (List ℕ)) (old cur : List ℕ) (k : ℕ) → length names ≤ k → cur ≡ old ++ 47 ∷ join_with_byte 43 (take k names) →
    cur ≡ old ++ 47 ∷ join_with_byte 43 names
all_names names old cur k h e = e ∙ ap (λ xs. old ++ 47 ∷ join_with_byte 43 xs) (take_all k names h)
