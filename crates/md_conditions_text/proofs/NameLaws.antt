-- Lists of names that are built one by one, and the places at which names stand.
use Rattle.std.proofs.Common.{◌≡◌, ◌≢◌, ℕ, zero, suc, ◌+◌, ◌<◌, pos, Bool, true, false, not, ◌||◌, List, [], ◌∷◌, ◌++◌, map, length, get_or, Some, refl, sym, ap, ap₂, ◌∙◌, arith}
use Rattle.std.specs.List.{list_any}
use Rattle.std.specs.Str.{bytes_eq}
use Rattle.std.proofs.lemmas.List.{length-map, map-append}
use Rattle.std.proofs.lemmas.Slice.Eq.{bytes_eq-Decides}
use Rattle.md_math.specs.Lists.{list_to}
use Rattle.md_math.proofs.Builders.{get_or-list_to, length-list_to, list_to-more}
use Rattle.md_setting.specs.Refusals.{are_apart}
use Rattle.md_setting.proofs.TestLaws.{and_left, and_right}
use Rattle.md_parts.specs.FirstRecord.{word_among, word_among_from}

-- ---- one name more

pub names-more : {X : Type 0} → (text : X → List ℕ) (xs new : List X) (x : X) (k : ℕ) (f : ℕ → List ℕ) → map text xs ≡ list_to k f → new ≡ xs ++ x ∷ [] → text x ≡ f k → map text new ≡ list_to (k + 1) f
names-more {X} text xs new x k f before pushed value =
    ap (map text) pushed ∙ map-append text xs (x ∷ []) ∙ ap₂ (λ (ys : List (List ℕ)) (y : List ℕ). ys ++ y ∷ []) before value ∙ sym (list_to-more k f)

pub names-all : {X : Type 0} → (text : X → List ℕ) (xs : List X) (k n : ℕ) (f : ℕ → List ℕ) → k ≡ n → map text xs ≡ list_to k f → map text xs ≡ list_to n f
names-all {X} text xs k n f same before = before ∙ ap (λ (m : ℕ). list_to m f) same

-- a place of such a list
pub named-below : {X : Type 0} → (text : X → List ℕ) (xs ys : List X) (n k : ℕ) (f : ℕ → List ℕ) → map text xs ≡ list_to n f → ys ≡ xs → k < length ys → k < n
named-below {X} text xs ys n k f names same l = omega (arith, l, ap length same, length-map xs text, ap length names, length-list_to n f)

-- ---- places

same-bytes : (a b : List ℕ) → a ≡ b → bytes_eq a b ≡ true
same-bytes a b e = (bytes_eq-Decides a b).1 e

other-bytes : (a b : List ℕ) → a ≢ b → bytes_eq a b ≡ false
other-bytes a b n = by_test (bytes_eq a b) refl
  where
    by_test : (t : Bool) → bytes_eq a b ≡ t → t ≡ false
    by_test true e = absurd (n ((bytes_eq-Decides a b).0 e))
    by_test false e = refl

word-found : (words : List (List ℕ)) (text : List ℕ) (from k : ℕ) → k < length words → get_or words k [] ≡ text → ((j : ℕ) → j < k → get_or words j [] ≢ text) → word_among_from from words text ≡ Some (pos (from + k))
word-found [] text from k l here before = absurd (omega arith)
word-found (word ∷ words) text from zero l here before =
    let none : from ≡ from + 0 = omega arith in
    rw (same-bytes text word (sym here)) (ap (λ (n : ℕ). Some (pos n)) none)
word-found (word ∷ words) text from (suc k) l here before =
    let next : from + 1 + k ≡ from + suc k = omega arith in
    rw (other-bytes text word (λ e. before 0 (omega arith) (sym e)))
    (word-found words text (from + 1) k (omega arith) here (λ j m. before (suc j) (omega arith)) ∙ ap (λ (n : ℕ). Some (pos n)) next)

-- no two of the first n are the same
abbrev pub AreApart : ℕ → (ℕ → List ℕ) → Type 0
AreApart n f = (i j : ℕ) → i < n → j < n → f i ≡ f j → i ≡ j

pub name-found : (n : ℕ) (f : ℕ → List ℕ) (k : ℕ) → k < n → AreApart n f → word_among (list_to n f) (f k) ≡ Some (pos k)
name-found n f k l apart =
    let none : 0 + k ≡ k = omega arith in
    word-found (list_to n f) (f k) 0 k (omega (arith, l, length-list_to n f)) (get_or-list_to n f k [] l) before ∙ ap (λ (m : ℕ). Some (pos m)) none
  where
    before : (j : ℕ) → j < k → get_or (list_to n f) j [] ≢ f k
    before j m e =
        let inside : j < n = omega (arith, l, m) in
        let same : j ≡ k = apart j k inside l (sym (get_or-list_to n f j [] inside) ∙ e) in
        omega (arith, m, same)

-- ---- names that are told apart

first-apart : (x : List ℕ) (xs : List (List ℕ)) → list_any (bytes_eq x) xs ≡ false → (j : ℕ) → j < length xs → x ≢ get_or xs j []
first-apart x [] h j l e = omega arith
first-apart x (y ∷ xs) h zero l e = both (bytes_eq x y) (list_any (bytes_eq x) xs) (same-bytes x y e) h
  where
    both : (a b : Bool) → a ≡ true → (a || b) ≡ false → ⊥
    both a b s t = cc
first-apart x (y ∷ xs) h (suc j) l e = first-apart x xs (right (bytes_eq x y) (list_any (bytes_eq x) xs) h) j (omega arith) e
  where
    right : (a b : Bool) → (a || b) ≡ false → b ≡ false
    right true b t = cc
    right false b t = t

not-true : (a : Bool) → not a ≡ true → a ≡ false
not-true true h = cc
not-true false h = refl

pub apart-places : (xs : List (List ℕ)) → are_apart xs ≡ true → (i j : ℕ) → i < length xs → j < length xs → get_or xs i [] ≡ get_or xs j [] → i ≡ j
apart-places [] h i j l m e = absurd (omega arith)
apart-places (x ∷ xs) h zero zero l m e = refl
apart-places (x ∷ xs) h zero (suc j) l m e =
    absurd (first-apart x xs (not-true (list_any (bytes_eq x) xs) (and_left (not (list_any (bytes_eq x) xs)) (are_apart xs) h)) j (omega arith) e)
apart-places (x ∷ xs) h (suc i) zero l m e =
    absurd (first-apart x xs (not-true (list_any (bytes_eq x) xs) (and_left (not (list_any (bytes_eq x) xs)) (are_apart xs) h)) i (omega arith) (sym e))
apart-places (x ∷ xs) h (suc i) (suc j) l m e =
    ap suc (apart-places xs (and_right (not (list_any (bytes_eq x) xs)) (are_apart xs) h) i j (omega arith) (omega arith) e)
