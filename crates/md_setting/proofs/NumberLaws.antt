-- Names that are numbered by the places at which they stand.
use Rattle.std.proofs.Common.{◌≡◌, ℕ, ◌+◌, ◌<◌, ◌≤◌, Bool, true, false, not, ◌&&◌, ◌||◌, cond, List, [], ◌∷◌, ◌++◌, map, length, get_or, take, None, Some, String, string_bytes, Contains, refl, sym, ap, ap₂, ◌∙◌, ltb, if◌then◌else◌}
use Rattle.std.specs.List.{position, position_from, position_or_len, list_any}
use Rattle.std.specs.Str.{bytes_eq}
use Rattle.std.specs.String.{string_eq}
use Rattle.std.specs.declared.alloc.Global.{Global}
use Rattle.std.specs.Cmp.Lexicographic.{nat_list_eq_equiv, bytes_decides}
use Rattle.std.proofs.lemmas.List.{length-map, map-append, map_more, take_all}
use Rattle.std.proofs.lemmas.List.Quantifiers.{position-Some}
use Rattle.std.proofs.lemmas.Map.Views.{list_any-from_Contains}
use Rattle.std.proofs.lemmas.Iterator.Adapters.{position_from-zero}
use Rattle.indexmap.specs.IndexSet.{insert_key}
use Rattle.md_setting.specs.Names.{place_of}
use Rattle.md_setting.specs.Refusals.{are_apart}
use Rattle.md_setting.proofs.Apart.{apart_more, apart_fails, list_any-map}

-- ---- places

position_or_len-map : {X : Type 0} → (p : List ℕ → Bool) (f : X → List ℕ) (xs : List X) → position_or_len p (map f xs) ≡ position_or_len (λ x. p (f x)) xs
position_or_len-map p f [] = refl
position_or_len-map p f (x ∷ xs) = ap (λ n. cond (not (p (f x))) (1 + n) 0) (position_or_len-map p f xs)

position-map : {X : Type 0} → (p : List ℕ → Bool) (f : X → List ℕ) (xs : List X) → position p (map f xs) ≡ position (λ x. p (f x)) xs
position-map p f xs = ap₂ (λ n m. cond (ltb n m) (Some n) None) (position_or_len-map p f xs) (length-map xs f)

-- the place of a name among the bytes of some texts
pub place_of-texts : (texts : List (String Global)) (name : List ℕ) → place_of (map string_bytes texts) name ≡ position (λ text. bytes_eq name (string_bytes text)) texts
place_of-texts texts name = position-map (bytes_eq name) string_bytes texts

pub ruleset places = (place_of-texts)

none_from : {X : Type 0} → (p : X → Bool) (i : ℕ) (xs : List X) → position_from p i xs ≡ None → list_any p xs ≡ false
none_from p i [] h = refl
none_from p i (x ∷ xs) h = here (p x) (none_from p (i + 1) xs) h
  where
    here : (b : Bool) → (position_from p (i + 1) xs ≡ None → list_any p xs ≡ false) → cond b (Some i) (position_from p (i + 1) xs) ≡ None → (b || list_any p xs) ≡ false
    here true rest h = absurd (cc h)
    here false rest h = rest h

-- no name is at no place
pub Contains-no_place : (names : List (List ℕ)) (name : List ℕ) → place_of names name ≡ None → ¬ Contains names name
Contains-no_place names name e there =
    let found : list_any (bytes_eq name) names ≡ true = list_any-from_Contains nat_list_eq_equiv name names there in
    let none : list_any (bytes_eq name) names ≡ false = none_from (bytes_eq name) 0 names (sym (position_from-zero (bytes_eq name) names) ∙ e) in
    cc

-- what is at the place of a name
pub record IsNamed (names : List (List ℕ)) (name : List ℕ) (k : ℕ) : Type 0 where
  pub inside : k < length names
  pub is : name ≡ get_or names k []
  pub there : Contains names name

pub named_at : (names : List (List ℕ)) (name : List ℕ) (k : ℕ) → place_of names name ≡ Some k → IsNamed names name k
named_at names name k e =
    let found = position-Some (bytes_eq name) names k [] e in
    let same : name ≡ get_or names k [] = (bytes_decides name (get_or names k [])).0 found.1 in
    let same' : name ≡ get_or names k name = (bytes_decides name (get_or names k name)).0 (position-Some (bytes_eq name) names k name e).1 in
    record { inside = found.0; is = same; there = (k, found.0, sym same') }

-- ---- one name more

not_true : (b : Bool) → not b ≡ true → b ≡ false
not_true true h = sym h
not_true false h = refl

and_right : (a b : Bool) → (a && b) ≡ true → b ≡ true
and_right true b h = h
and_right false b h = absurd (cc h)

list_any-turned : {X : Type 0} → (f : X → List ℕ) (key : List ℕ) (xs : List X) → list_any (λ x. bytes_eq key (f x)) xs ≡ list_any (λ x. bytes_eq (f x) key) xs
list_any-turned f key [] = refl
list_any-turned f key (x ∷ xs) = ap₂ (λ a b. a || b) (nat_list_eq_equiv.symm key (f x)) (list_any-turned f key xs)

-- the first names of names that are told apart are so too
apart_first : {X : Type 0} → (f : X → List ℕ) (xs : List X) (i : ℕ) → are_apart (map f xs) ≡ true → are_apart (map f (take i xs)) ≡ true
apart_first f xs i h = at (are_apart (map f (take i xs))) (λ e. apart_fails f xs i e)
  where
    at : (b : Bool) → (b ≡ false → are_apart (map f xs) ≡ false) → b ≡ true
    at true g = refl
    at false g = sym (g refl) ∙ h

-- the next one is new
pub is_new : {X : Type 0} → (f : X → List ℕ) (xs : List X) (i : ℕ) (d : X) → i < length xs → are_apart (map f xs) ≡ true
    → list_any (λ x. bytes_eq (f x) (f (get_or xs i d))) (take i xs) ≡ false
is_new f xs i d h apart =
    not_true _ (and_right (are_apart (map f (take i xs))) _ (sym (apart_more f xs i d h) ∙ apart_first f xs (i + 1) apart))

-- and goes behind the others
pub numbered_more : {X : Type 0} → (f : X → List ℕ) (xs : List X) (i : ℕ) (d : X) (keys : List (String Global)) (text : String Global) → i < length xs → are_apart (map f xs) ≡ true
    → map string_bytes keys ≡ map f (take i xs) → string_bytes text ≡ f (get_or xs i d) → map string_bytes (insert_key string_eq keys text) ≡ map f (take (i + 1) xs)
numbered_more f xs i d keys text h apart so_far e =
    let new : list_any (string_eq text) keys ≡ false =
    sym (list_any-map (bytes_eq (string_bytes text)) string_bytes keys)
    ∙ ap₂ (λ key names. list_any (bytes_eq key) names) e so_far
    ∙ list_any-map (bytes_eq (f (get_or xs i d))) f (take i xs)
    ∙ list_any-turned f (f (get_or xs i d)) (take i xs)
    ∙ is_new f xs i d h apart in
    ap (λ b. map string_bytes (if b then keys else keys ++ text ∷ [])) new
    ∙ map-append string_bytes keys (text ∷ [])
    ∙ ap₂ (λ names name. names ++ name ∷ []) so_far e
    ∙ sym (map_more f xs i d h)

pub numbered_all : {X : Type 0} → (f : X → List ℕ) (xs : List X) (i : ℕ) (keys : List (String Global)) → length xs ≤ i → map string_bytes keys ≡ map f (take i xs) → map string_bytes keys ≡ map f xs
numbered_all f xs i keys h e = e ∙ ap (map f) (take_all i xs h)
