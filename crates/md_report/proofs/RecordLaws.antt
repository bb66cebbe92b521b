-- The records of lists, one after another, and names.
use Rattle.std.proofs.Common.{◌≡◌, ℕ, ◌+◌, ◌<◌, ◌≤◌, List, [], ◌∷◌, ◌++◌, length, get_or, take, refl, sym, ap, ◌∙◌, arith, append_assoc, append-nil}
use Rattle.std.specs.List.{join_with_byte}
use Rattle.std.specs.Prelude.{Option, Some, slice_get}
use Rattle.std.specs.Option.{ForSome}
use Rattle.std.proofs.lemmas.Option.{slice_get-get_or}
use Rattle.std.proofs.lemmas.List.{take_more, take_all, length-take}
use Rattle.md_setting.specs.Setting.{GeneralSetting}
use Rattle.md_mech.specs.Rows.{profile_row, conditions_of}
use Rattle.md_mech.specs.RowName.{name_of}
use Rattle.md_report.specs.declared.worst.Worst.{Worst}
use Rattle.md_report.specs.Records.{name_in, told_records, worst_records}

-- one agent more
pub worst_records-more : (s : GeneralSetting) (told : List (Option Worst)) (worst : Option Worst) → worst_records s (told ++ worst ∷ []) ≡ worst_records s told ++ told_records s worst
worst_records-more s [] worst = append-nil (told_records s worst)
worst_records-more s (first ∷ others) worst =
    ap (λ xs. told_records s first ++ xs) (worst_records-more s others worst) ∙ sym (append_assoc (told_records s first) (worst_records s others) (told_records s worst))

-- the name of a row
pub name-told : (s : GeneralSetting) (row : ℕ) (name : List ℕ) → row < length (conditions_of s) → ForSome (slice_get (conditions_of s) row) (λ r. name ≡ name_of s r)
    → name ≡ name_in s (slice_get (conditions_of s) row)
name-told s row name inside h =
    let e : slice_get (conditions_of s) row ≡ Some (get_or (conditions_of s) row (profile_row [])) = slice_get-get_or (conditions_of s) row (profile_row []) inside in
    rw e (h (get_or (conditions_of s) row (profile_row [])) e)

-- ---- names that are joined

join-more : (c : ℕ) (xs : List (List ℕ)) (y : List ℕ) → 0 < length xs → join_with_byte c (xs ++ y ∷ []) ≡ join_with_byte c xs ++ c ∷ y
join-more c [] y h = absurd (omega arith)
join-more c (x ∷ []) y h = refl
join-more c (x ∷ z ∷ xs) y h =
    rw (join-more c (z ∷ xs) y (omega arith)) (sym (append_assoc x (c ∷ join_with_byte c (z ∷ xs)) (c ∷ y)))

pub first_name : (names : List (List ℕ)) (word : List ℕ) → 0 < length names → word ≡ get_or names 0 [] → word ≡ join_with_byte 43 (take 1 names)
first_name names word h e =
    let one : take 1 names ≡ word ∷ [] = take_more names 0 [] h ∙ ap (λ x. x ∷ []) (sym e) in
    rw one refl

pub next_name : (names : List (List ℕ)) (cur now word : List ℕ) (k : ℕ) → 0 < k → k < length names → word ≡ get_or names k []
    → cur ≡ join_with_byte 43 (take k names) → now ≡ (cur ++ 43 ∷ []) ++ word → now ≡ join_with_byte 43 (take (k + 1) names)
next_name names cur now word k some h e f g =
    let long : 0 < length (take k names) = rw length-take-small (omega arith) in
    let more : join_with_byte 43 (take (k + 1) names) ≡ join_with_byte 43 (take k names) ++ 43 ∷ word =
    ap (join_with_byte 43) (take_more names k [] h ∙ ap (λ x. take k names ++ x ∷ []) (sym e)) ∙ join-more 43 (take k names) word long in
    rw (more, g, f) (append_assoc (join_with_byte 43 (take k names)) (43 ∷ []) word)
  where
    length-take-small : length (take k names) ≡ k
    length-take-small = length-take k names ∙ omega arith

pub all_names : (names : List (List ℕ)) (cur : List ℕ) (k : ℕ) → length names ≤ k → cur ≡ join_with_byte 43 (take k names) → cur ≡ join_with_byte 43 names
all_names names cur k h e = e ∙ ap (join_with_byte 43) (take_all k names h)
