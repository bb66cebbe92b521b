-- Names that are told apart, one name more at a time.
use Rattle.std.proofs.Common.{◌≡◌, ℕ, ◌+◌, ◌<◌, Bool, true, false, not, ◌&&◌, ◌||◌, cond, List, [], ◌∷◌, ◌++◌, map, length, get_or, take, drop, refl, sym, ap, ◌∙◌}
use Rattle.std.specs.List.{list_any}
use Rattle.std.specs.Str.{bytes_eq}
use Rattle.std.proofs.lemmas.List.{map_more, map-append, take-append-drop}
use Rattle.std.proofs.lemmas.List.Folds.{list_any-append, list_any_more}
use Rattle.std.proofs.lemmas.Map.Text.{is_eq-slice_cmp}
use Rattle.std.specs.Ordering.{is_eq, nat_cmp}
use Rattle.std.specs.Cmp.Lexicographic.{slice_cmp}
use Rattle.md_setting.specs.Refusals.{are_apart}

regroup : (a e b c : Bool) → (not (a || (e || false)) && (b && not c)) ≡ ((not a && b) && not (e || c))
regroup true e b c = refl
regroup false true true c = refl
regroup false true false c = refl
regroup false false true c = refl
regroup false false false c = refl

pub are_apart-push : (xs : List (List ℕ)) (y : List ℕ) → are_apart (xs ++ y ∷ []) ≡ (are_apart xs && not (list_any (λ x. bytes_eq x y) xs))
are_apart-push [] y = refl
are_apart-push (x ∷ xs) y =
    rw (list_any-append (bytes_eq x) xs (y ∷ []), are_apart-push xs y)
    (regroup (list_any (bytes_eq x) xs) (bytes_eq x y) (are_apart xs) (list_any (λ z. bytes_eq z y) xs))

none_left : (a b : Bool) → b ≡ false → (a && b) ≡ false
none_left true b e = e
none_left false b e = refl

not_false : (a b : Bool) → a ≡ false → (a && b) ≡ false
not_false a b e = rw e refl

pub are_apart-append : (xs ys : List (List ℕ)) → are_apart xs ≡ false → are_apart (xs ++ ys) ≡ false
are_apart-append [] ys h = cc
are_apart-append (x ∷ xs) ys h =
    rw (list_any-append (bytes_eq x) xs ys)
    (here (list_any (bytes_eq x) xs) (list_any (bytes_eq x) ys) (are_apart xs) (are_apart (xs ++ ys)) h (λ e. are_apart-append xs ys e))
  where
    here : (a b c d : Bool) → (not a && c) ≡ false → (c ≡ false → d ≡ false) → (not (a || b) && d) ≡ false
    here true b c d e f = refl
    here false b c d e f = none_left (not b) d (f e)

pub list_any-map : {X : Type 0} → (p : List ℕ → Bool) (f : X → List ℕ) (xs : List X) → list_any p (map f xs) ≡ list_any (λ x. p (f x)) xs
list_any-map p f [] = refl
list_any-map p f (x ∷ xs) = ap (λ b. p (f x) || b) (list_any-map p f xs)

pub seen_more : (b x : Bool) → cond b true x ≡ (x || b)
seen_more true true = refl
seen_more true false = refl
seen_more false true = refl
seen_more false false = refl

pub apart_more : {X : Type 0} → (f : X → List ℕ) (xs : List X) (i : ℕ) (d : X) → i < length xs →
    are_apart (map f (take (i + 1) xs)) ≡ (are_apart (map f (take i xs)) && not (list_any (λ x. bytes_eq (f x) (f (get_or xs i d))) (take i xs)))
apart_more f xs i d h =
    ap are_apart (map_more f xs i d h) ∙ are_apart-push (map f (take i xs)) (f (get_or xs i d))
    ∙ ap (λ b. are_apart (map f (take i xs)) && not b) (list_any-map (λ x. bytes_eq x (f (get_or xs i d))) f (take i xs))

-- names that repeat among the first ones repeat among all
pub apart_fails : {X : Type 0} → (f : X → List ℕ) (xs : List X) (i : ℕ) → are_apart (map f (take i xs)) ≡ false → are_apart (map f xs) ≡ false
apart_fails f xs i h =
    ap are_apart (ap (map f) (sym (take-append-drop i xs)) ∙ map-append f (take i xs) (drop i xs))
    ∙ are_apart-append (map f (take i xs)) (map f (drop i xs)) h

-- what is known of a name that comes next, and of a set of the names before it
pub record Next {X : Type 0} (f : X → List ℕ) (xs : List X) (i : ℕ) (key : List ℕ) : Type 0 where
  pub item : X
  pub inside : i < length xs
  pub key_is : key ≡ f (get_or xs i item)
  pub apart : are_apart (map f (take i xs)) ≡ true

step_to : {X : Type 0} → (f : X → List ℕ) (xs : List X) (i : ℕ) (key : List ℕ) (b : Bool) → Next f xs i key →
    b ≡ list_any (λ x. bytes_eq (f x) key) (take i xs) → are_apart (map f (take (i + 1) xs)) ≡ not b
step_to f xs i key b n e =
    apart_more f xs i n.item n.inside
    ∙ ap (λ k. are_apart (map f (take i xs)) && not (list_any (λ x. bytes_eq (f x) k) (take i xs))) (sym n.key_is)
    ∙ ap (λ a. a && not (list_any (λ x. bytes_eq (f x) key) (take i xs))) n.apart
    ∙ ap not (sym e)

-- it stands among the names before it
pub stands_twice : {X : Type 0} → (f : X → List ℕ) (xs : List X) (i : ℕ) (key : List ℕ) (b fresh : Bool) → Next f xs i key →
    b ≡ list_any (λ x. bytes_eq (f x) key) (take i xs) → fresh ≡ not b → fresh ≡ false → false ≡ are_apart (map f xs)
stands_twice f xs i key b fresh n e g h =
    sym (apart_fails f xs (i + 1) (step_to f xs i key b n e ∙ sym g ∙ h))

-- it does not
pub stands_once : {X : Type 0} → (f : X → List ℕ) (xs : List X) (i : ℕ) (key : List ℕ) (b fresh : Bool) → Next f xs i key →
    b ≡ list_any (λ x. bytes_eq (f x) key) (take i xs) → fresh ≡ not b → fresh ≡ true → are_apart (map f (take (i + 1) xs)) ≡ true
stands_once f xs i key b fresh n e g h = step_to f xs i key b n e ∙ sym g ∙ h

-- the set with it has the names up to it
pub name_added : {X : Type 0} → (f : X → List ℕ) (xs : List X) (i : ℕ) (key q : List ℕ) (b c : Bool) → Next f xs i key →
    b ≡ cond (is_eq (slice_cmp nat_cmp key q)) true c → c ≡ list_any (λ x. bytes_eq (f x) q) (take i xs) →
    b ≡ list_any (λ x. bytes_eq (f x) q) (take (i + 1) xs)
name_added f xs i key q b c n e g =
    e ∙ ap (λ a. cond a true c) (is_eq-slice_cmp key q)
    ∙ seen_more (bytes_eq key q) c
    ∙ ap (λ a. a || bytes_eq key q) g
    ∙ ap (λ k. list_any (λ x. bytes_eq (f x) q) (take i xs) || bytes_eq k q) n.key_is
    ∙ sym (list_any_more (λ x. bytes_eq (f x) q) xs i n.item n.inside)
