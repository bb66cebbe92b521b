-- Names that are joined one after another.
use Rattle.std.proofs.Common.{◌≡◌, ℕ, ◌+◌, ◌<◌, ◌≤◌, List, [], ◌∷◌, ◌++◌, length, get_or, take, refl, sym, ap, ◌∙◌, arith, append_assoc}
use Rattle.std.specs.List.{join_with_byte}
use Rattle.std.proofs.lemmas.List.{take_more, take_all, length-take}
use Rattle.md_space.specs.Profiles.{profile_at, profile_count}
use Rattle.md_space.proofs.Ranks.{length-IsProfile, profile_at-IsProfile}
use Rattle.md_setting.specs.Setting.{Agent, GeneralSetting}
use Rattle.md_setting.specs.Meaning.{agent_count, sizes_of}
use Rattle.md_mech.specs.RowName.{type_name, type_names}
use Rattle.md_mech.proofs.NameLaws.{length-type_names, type_names-at}
use Rattle.std.specs.Prelude.{slice_index}
use Rattle.std.proofs.lemmas.List.{length-map}

join-more : (xs : List (List ℕ)) (y : List ℕ) → 0 < length xs → join_with_byte 43 (xs ++ y ∷ []) ≡ join_with_byte 43 xs ++ 43 ∷ y
join-more [] y h = absurd (omega arith)
join-more (x ∷ []) y h = refl
join-more (x ∷ z ∷ xs) y h = rw (join-more (z ∷ xs) y (omega arith)) (sym (append_assoc x (43 ∷ join_with_byte 43 (z ∷ xs)) (43 ∷ y)))

pub joined-first : (names : List (List ℕ)) (now name : List ℕ) → 0 < length names → name ≡ get_or names 0 [] → now ≡ name → now ≡ join_with_byte 43 (take 1 names)
joined-first names now name some is same =
    let one : take 1 names ≡ name ∷ [] = take_more names 0 [] some ∙ ap (λ (x : List ℕ). x ∷ []) (sym is) in
    same ∙ sym (ap (join_with_byte 43) one)

pub joined-more : (names : List (List ℕ)) (now new name : List ℕ) (k : ℕ) → 0 < k → k < length names → name ≡ get_or names k [] → now ≡ join_with_byte 43 (take k names) → new ≡ now ++ 43 ∷ name → new ≡ join_with_byte 43 (take (k + 1) names)
joined-more names now new name k some inside is before pushed =
    let long : 0 < length (take k names) = omega (arith, some, inside, length-take k names) in
    let whole : take (k + 1) names ≡ take k names ++ name ∷ [] = take_more names k [] inside ∙ ap (λ (x : List ℕ). take k names ++ x ∷ []) (sym is) in
    pushed ∙ ap (λ (x : List ℕ). x ++ 43 ∷ name) before ∙ sym (ap (join_with_byte 43) whole ∙ join-more (take k names) name long)

pub joined-all : (names : List (List ℕ)) (now : List ℕ) (k : ℕ) → length names ≤ k → now ≡ join_with_byte 43 (take k names) → now ≡ join_with_byte 43 names
joined-all names now k l before = before ∙ ap (join_with_byte 43) (take_all k names l)

-- the names of the types of a profile
pub agents-sizes : (s : GeneralSetting) → length (sizes_of s) ≡ agent_count s
agents-sizes s = length-map s.agents (λ (a : Agent). length a.types)

profile-long : (s : GeneralSetting) (r : ℕ) → r < profile_count (sizes_of s) → length (profile_at (sizes_of s) r) ≡ agent_count s
profile-long s r l = length-IsProfile (sizes_of s) (profile_at (sizes_of s) r) (profile_at-IsProfile (sizes_of s) r l) ∙ agents-sizes s

pub names-count : (s : GeneralSetting) (r : ℕ) → r < profile_count (sizes_of s) → length (type_names s.agents (profile_at (sizes_of s) r)) ≡ agent_count s
names-count s r l = length-type_names s.agents (profile_at (sizes_of s) r) (profile-long s r l)

pub name-there : (s : GeneralSetting) (r i a : ℕ) → r < profile_count (sizes_of s) → i < agent_count s → a ≡ slice_index (profile_at (sizes_of s) r) i → type_name s i a ≡ get_or (type_names s.agents (profile_at (sizes_of s) r)) i []
name-there s r i a l inside is =
    ap (λ (k : ℕ). type_name s i k) is ∙ sym (type_names-at s.agents (profile_at (sizes_of s) r) i (profile-long s r l) inside)
