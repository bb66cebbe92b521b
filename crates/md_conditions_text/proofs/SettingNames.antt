-- The names of a setting that is not refused are told apart, and so are those of its profiles.
use Rattle.std.proofs.Common.{◌≡◌, ℕ, suc, ◌+◌, ◌<◌, Bool, true, false, not, ◌&&◌, List, [], ◌∷◌, ◌++◌, map, length, get_or, None, Some, refl, sym, ap, ap₂, subst, ◌∙◌, arith}
use Rattle.std.specs.Prelude.{slice_index, slice_index_or, nat_le}
use Rattle.std.specs.List.{join_with_byte, list_all}
use Rattle.std.proofs.lemmas.List.{get_or-map, length-map}
use Rattle.md_space.specs.Profiles.{IsProfile, profile_at, profile_count, rank_of}
use Rattle.md_space.proofs.Ranks.{rank_of-profile_at, profile_at-IsProfile}
use Rattle.md_setting.specs.declared.refusal.BuildRefusal.{BuildRefusal}
use Rattle.md_setting.specs.declared.refusal.BuildRefusal.TheVariants.{BadName, DoubleName}
use Rattle.md_setting.specs.Setting.{Agent, GeneralSetting}
use Rattle.md_setting.specs.Meaning.{agent_at, agent_count, nobody, outcome_count, sizes_of}
use Rattle.md_setting.specs.Refusals.{are_apart, has_good_names, has_named_types, has_own_names, is_name, is_name_byte, refusal_of}
use Rattle.md_setting.proofs.FirstRefusal.{bad_name, double_name}
use Rattle.md_setting.proofs.TestLaws.{and_left, and_right, list_all-at}
use Rattle.md_mech.specs.RowName.{agent_name, profile_name, type_name, type_names}
use Rattle.md_conditions_text.specs.Names.{name_at, outcome_name}
use Rattle.md_conditions_text.proofs.NameLaws.{AreApart, apart-places}

-- ---- what passed

not_refused : (r : BuildRefusal) → None ≡ Some r → ⊥
not_refused r e = cc

good-names : (s : GeneralSetting) → refusal_of s ≡ None → has_good_names s ≡ true
good-names s h = by_test (has_good_names s) refl
  where
    by_test : (b : Bool) → has_good_names s ≡ b → b ≡ true
    by_test true e = refl
    by_test false e = absurd (not_refused BadName (sym h ∙ bad_name s e))

own-names : (s : GeneralSetting) → refusal_of s ≡ None → has_own_names s ≡ true
own-names s h = by_test (has_own_names s) refl
  where
    by_test : (b : Bool) → has_own_names s ≡ b → b ≡ true
    by_test true e = refl
    by_test false e = absurd (not_refused DoubleName (sym h ∙ double_name s (good-names s h) e))

named-agents : (s : GeneralSetting) → has_good_names s ≡ true → list_all has_named_types s.agents ≡ true
unfolding has_good_names
named-agents s h = and_left (list_all has_named_types s.agents) (list_all is_name s.outcomes) h

pub record OwnNames (s : GeneralSetting) : Type 0 where
  pub agents : are_apart (map (λ (a : Agent). a.name) s.agents) ≡ true
  pub outcomes : are_apart s.outcomes ≡ true
  pub types : list_all (λ (a : Agent). are_apart a.types) s.agents ≡ true

own-parts : (s : GeneralSetting) → has_own_names s ≡ true → OwnNames s
unfolding has_own_names
own-parts s h =
    let a : Bool = are_apart (map (λ (a : Agent). a.name) s.agents) in
    let o : Bool = are_apart s.outcomes in
    let t : Bool = list_all (λ (a : Agent). are_apart a.types) s.agents in
    record { agents = first a o t h; outcomes = second a o t h; types = third a o t h }
  where
    first : (a o t : Bool) → (a && o && t) ≡ true → a ≡ true
    first true o t e = refl
    first false o t e = cc

    second : (a o t : Bool) → (a && o && t) ≡ true → o ≡ true
    second true true t e = refl
    second true false t e = cc
    second false o t e = cc

    third : (a o t : Bool) → (a && o && t) ≡ true → t ≡ true
    third true true t e = e
    third true false t e = cc
    third false o t e = cc

-- ---- agents, types and outcomes

pub agents-apart : (s : GeneralSetting) → refusal_of s ≡ None → AreApart (agent_count s) (agent_name s)
agents-apart s h i j l m e =
    let names : List (List ℕ) = map (λ (a : Agent). a.name) s.agents in
    let long : length names ≡ agent_count s = length-map s.agents (λ (a : Agent). a.name) in
    apart-places names (own-parts s (own-names s h)).agents i j (omega (arith, l, long)) (omega (arith, m, long))
    (get_or-map (λ (a : Agent). a.name) s.agents i nobody [] l ∙ e ∙ sym (get_or-map (λ (a : Agent). a.name) s.agents j nobody [] m))

types-own : (s : GeneralSetting) → refusal_of s ≡ None → (i : ℕ) → i < agent_count s → are_apart (agent_at s i).types ≡ true
types-own s h i l = list_all-at (λ (a : Agent). are_apart a.types) s.agents i nobody (own-parts s (own-names s h)).types l

pub type_count : (s : GeneralSetting) (i : ℕ) → i < agent_count s → slice_index (sizes_of s) i ≡ length (agent_at s i).types
type_count s i l = get_or-map (λ (a : Agent). length a.types) s.agents i nobody 0 l

pub types-apart : (s : GeneralSetting) → refusal_of s ≡ None → (i : ℕ) → i < agent_count s → AreApart (slice_index (sizes_of s) i) (type_name s i)
types-apart s h i inside a b l m e =
    let count = type_count s i inside in
    apart-places (agent_at s i).types (types-own s h i inside) a b (omega (arith, l, count)) (omega (arith, m, count)) e

pub outcomes-apart : (s : GeneralSetting) → refusal_of s ≡ None → AreApart (outcome_count s) (outcome_name s)
outcomes-apart s h i j l m e = apart-places s.outcomes (own-parts s (own-names s h)).outcomes i j l m e

-- ---- names that are joined

abbrev IsPlain : List ℕ → Type 0
IsPlain text = list_all is_name_byte text ≡ true

no-plus : (b : ℕ) (text : List ℕ) → IsPlain (b ∷ text) → b ≡ 43 → ⊥
no-plus b text h e =
    let plain : is_name_byte b ≡ true = and_left (is_name_byte b) (list_all is_name_byte text) h in
    let plus : is_name_byte 43 ≡ true = subst (λ (x : ℕ). is_name_byte x ≡ true) e plain in
    cc

plain-rest : (b : ℕ) (text : List ℕ) → IsPlain (b ∷ text) → IsPlain text
plain-rest b text h = and_right (is_name_byte b) (list_all is_name_byte text) h

abbrev head-of : List ℕ → ℕ
head-of [] = 0
head-of (b ∷ bs) = b

abbrev tail-of : List ℕ → List ℕ
tail-of [] = []
tail-of (b ∷ bs) = bs

cut : (x y xs ys : List ℕ) → IsPlain x → IsPlain y → x ++ 43 ∷ xs ≡ y ++ 43 ∷ ys → (x ≡ y) × (xs ≡ ys)
cut [] [] xs ys p q e = (refl, ap tail-of e)
cut [] (b ∷ y) xs ys p q e = absurd (no-plus b y q (sym (ap head-of e)))
cut (a ∷ x) [] xs ys p q e = absurd (no-plus a x p (ap head-of e))
cut (a ∷ x) (b ∷ y) xs ys p q e =
    let rest = cut x y xs ys (plain-rest a x p) (plain-rest b y q) (ap tail-of e) in
    (ap₂ (λ (c : ℕ) (cs : List ℕ). c ∷ cs) (ap head-of e) rest.0, rest.1)

abbrev ArePlain : List (List ℕ) → Type 0
ArePlain texts = list_all (λ (text : List ℕ). list_all is_name_byte text) texts ≡ true

first-plain : (x : List ℕ) (xs : List (List ℕ)) → ArePlain (x ∷ xs) → IsPlain x
first-plain x xs h = and_left (list_all is_name_byte x) (list_all (λ (text : List ℕ). list_all is_name_byte text) xs) h

rest-plain : (x : List ℕ) (xs : List (List ℕ)) → ArePlain (x ∷ xs) → ArePlain xs
rest-plain x xs h = and_right (list_all is_name_byte x) (list_all (λ (text : List ℕ). list_all is_name_byte text) xs) h

joined-same : (xs ys : List (List ℕ)) → length xs ≡ length ys → ArePlain xs → ArePlain ys → join_with_byte 43 xs ≡ join_with_byte 43 ys → xs ≡ ys
joined-same [] [] long p q e = refl
joined-same [] (y ∷ ys) long p q e = absurd (omega arith)
joined-same (x ∷ xs) [] long p q e = absurd (omega arith)
joined-same (x ∷ []) (y ∷ []) long p q e = ap (λ (t : List ℕ). t ∷ []) e
joined-same (x ∷ []) (y ∷ z ∷ ys) long p q e = absurd (omega arith)
joined-same (x ∷ z ∷ xs) (y ∷ []) long p q e = absurd (omega arith)
joined-same (x ∷ a ∷ xs) (y ∷ b ∷ ys) long p q e =
    let both = cut x y (join_with_byte 43 (a ∷ xs)) (join_with_byte 43 (b ∷ ys)) (first-plain x (a ∷ xs) p) (first-plain y (b ∷ ys) q) e in
    ap₂ (λ (t : List ℕ) (ts : List (List ℕ)). t ∷ ts) both.0 (joined-same (a ∷ xs) (b ∷ ys) (omega arith) (rest-plain x (a ∷ xs) p) (rest-plain y (b ∷ ys) q) both.1)

-- ---- profiles

plain-name : (text : List ℕ) → is_name text ≡ true → IsPlain text
plain-name text h = last (nat_le 1 (length text)) (nat_le (length text) 32) (list_all is_name_byte text) h
  where
    last : (a b c : Bool) → (a && b && c) ≡ true → c ≡ true
    last true true c e = e
    last true false c e = cc
    last false b c e = cc

plain-type : (agent : Agent) (a : ℕ) → has_named_types agent ≡ true → a < length agent.types → IsPlain (slice_index_or agent.types a [])
plain-type agent a h l =
    plain-name (get_or agent.types a []) (list_all-at is_name agent.types a [] (and_right (is_name agent.name) (list_all is_name agent.types) h) l)

plain-types : (agents : List Agent) (t : List ℕ) → list_all has_named_types agents ≡ true → IsProfile (map (λ (a : Agent). length a.types) agents) t → ArePlain (type_names agents t)
plain-types [] t h p = refl
plain-types (agent ∷ agents) [] h p = refl
plain-types (agent ∷ agents) (a ∷ t) h p =
    rw (plain-type agent a (and_left (has_named_types agent) (list_all has_named_types agents) h) p.0)
    (plain-types agents t (and_right (has_named_types agent) (list_all has_named_types agents) h) p.1)

abbrev first-text : List (List ℕ) → List ℕ
first-text [] = []
first-text (x ∷ xs) = x

abbrev rest-texts : List (List ℕ) → List (List ℕ)
rest-texts [] = []
rest-texts (x ∷ xs) = xs

types-same : (agents : List Agent) (t u : List ℕ) → list_all (λ (a : Agent). are_apart a.types) agents ≡ true → IsProfile (map (λ (a : Agent). length a.types) agents) t → IsProfile (map (λ (a : Agent). length a.types) agents) u
    → type_names agents t ≡ type_names agents u → t ≡ u
types-same [] [] [] h p q e = refl
types-same [] (a ∷ t) u h p q e = absurd p
types-same [] [] (b ∷ u) h p q e = absurd q
types-same (agent ∷ agents) [] u h p q e = absurd p
types-same (agent ∷ agents) (a ∷ t) [] h p q e = absurd q
types-same (agent ∷ agents) (a ∷ t) (b ∷ u) h p q e =
    let own : are_apart agent.types ≡ true = and_left (are_apart agent.types) (list_all (λ (x : Agent). are_apart x.types) agents) h in
    let same : a ≡ b = apart-places agent.types own a b p.0 q.0 (ap first-text e) in
    ap₂ (λ (c : ℕ) (cs : List ℕ). c ∷ cs) same (types-same agents t u (and_right (are_apart agent.types) (list_all (λ (x : Agent). are_apart x.types) agents) h) p.1 q.1 (ap rest-texts e))

names-long : (agents : List Agent) (t u : List ℕ) → IsProfile (map (λ (a : Agent). length a.types) agents) t → IsProfile (map (λ (a : Agent). length a.types) agents) u → length (type_names agents t) ≡ length (type_names agents u)
names-long [] t u p q = refl
names-long (agent ∷ agents) [] u p q = absurd p
names-long (agent ∷ agents) (a ∷ t) [] p q = absurd q
names-long (agent ∷ agents) (a ∷ t) (b ∷ u) p q = ap suc (names-long agents t u p.1 q.1)

profile-same : (s : GeneralSetting) (t u : List ℕ) → refusal_of s ≡ None → IsProfile (sizes_of s) t → IsProfile (sizes_of s) u → profile_name s t ≡ profile_name s u → t ≡ u
profile-same s t u h p q e =
    let good = named-agents s (good-names s h) in
    types-same s.agents t u (own-parts s (own-names s h)).types p q
    (joined-same (type_names s.agents t) (type_names s.agents u) (names-long s.agents t u p q) (plain-types s.agents t good p) (plain-types s.agents u good q) e)

pub profiles-apart : (s : GeneralSetting) → refusal_of s ≡ None → AreApart (profile_count (sizes_of s)) (name_at s)
profiles-apart s h i j l m e =
    let same = profile-same s (profile_at (sizes_of s) i) (profile_at (sizes_of s) j) h (profile_at-IsProfile (sizes_of s) i l) (profile_at-IsProfile (sizes_of s) j m) e in
    sym (rank_of-profile_at (sizes_of s) i l) ∙ ap (rank_of (sizes_of s)) same ∙ rank_of-profile_at (sizes_of s) j m
