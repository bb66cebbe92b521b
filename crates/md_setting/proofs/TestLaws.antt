-- Tests that hold at each place of a list, or below a number.
use Rattle.std.proofs.Common.{◌≡◌, ap₂, ℕ, zero, suc, ◌+◌, ◌<◌, Bool, true, false, ◌&&◌, List, [], ◌∷◌, length, get_or, refl, sym, ◌∙◌, arith, add-one, ◌≤◌, ℤ, nat_le}
use Rattle.std.specs.List.{list_all}
use Rattle.std.proofs.lemmas.List.Folds.{list_all-append, list_all_at}
use Rattle.std.proofs.lemmas.Bool.Decides.{nat_tests}
use Rattle.md_math.specs.Lists.{list_to}
use Rattle.md_math.specs.Sizes.{IsWithin}
use Rattle.md_setting.specs.Refusals.{all_below, is_small}

pub and_left : (a b : Bool) → (a && b) ≡ true → a ≡ true
and_left true b h = refl
and_left false b h = h

pub and_right : (a b : Bool) → (a && b) ≡ true → b ≡ true
and_right true b h = h
and_right false b h = cc

pub and_both : (a b : Bool) → a ≡ true → b ≡ true → (a && b) ≡ true
and_both a b e f = rw e f

right_fails : (a b : Bool) → b ≡ false → (a && b) ≡ false
right_fails true b h = h
right_fails false b h = refl

left_fails : (a b : Bool) → a ≡ false → (a && b) ≡ false
left_fails a b h = rw h refl

pub all_below-all : (n : ℕ) (p : ℕ → Bool) → ((k : ℕ) → k < n → p k ≡ true) → all_below n p ≡ true
all_below-all zero p h = refl
all_below-all (suc n) p h = and_both (all_below n p) (p n) (all_below-all n p (λ k b. h k (omega arith))) (h n (omega arith))

pub all_below-same : (n : ℕ) (p q : ℕ → Bool) → ((k : ℕ) → k < n → p k ≡ q k) → all_below n p ≡ all_below n q
all_below-same zero p q h = refl
all_below-same (suc n) p q h = ap₂ (λ a b. a && b) (all_below-same n p q (λ k b. h k (omega arith))) (h n (omega arith))

pub all_below-more : (n : ℕ) (p : ℕ → Bool) → all_below n p ≡ true → p n ≡ true → all_below (n + 1) p ≡ true
all_below-more n p e f = rw add-one (and_both (all_below n p) (p n) e f)

pub all_below-fails : (n k : ℕ) (p : ℕ → Bool) → k < n → p k ≡ false → all_below n p ≡ false
all_below-fails zero k p h e = absurd (omega arith)
all_below-fails (suc n) k p h e = grind (arith, all_below-fails n k p, left_fails (all_below n p) (p n), right_fails (all_below n p) (p n))

pub all_below-at : (n k : ℕ) (p : ℕ → Bool) → all_below n p ≡ true → k < n → p k ≡ true
all_below-at n k p h l = at (p k) (λ e. all_below-fails n k p l e) h
  where
    at : (b : Bool) → (b ≡ false → all_below n p ≡ false) → all_below n p ≡ true → b ≡ true
    at true f h = refl
    at false f h = sym (f refl) ∙ h

pub list_all-list_to : {X : Type 0} → (p : X → Bool) (n : ℕ) (f : ℕ → X) → list_all p (list_to n f) ≡ all_below n (λ k. p (f k))
list_all-list_to p zero f = refl
list_all-list_to p (suc n) f = list_all-append p (list_to n f) (f n ∷ []) ∙ rw (list_all-list_to p n f, last (p (f n))) refl
  where
    last : (b : Bool) → (b && true) ≡ b
    last true = refl
    last false = refl

pub list_all-at : {X : Type 0} → (p : X → Bool) (xs : List X) (k : ℕ) (d : X) → list_all p xs ≡ true → k < length xs → p (get_or xs k d) ≡ true
list_all-at p xs k d h l = at (p (get_or xs k d)) (λ e. list_all_at p xs k d l e) h
  where
    at : (b : Bool) → (b ≡ false → list_all p xs ≡ false) → list_all p xs ≡ true → b ≡ true
    at true f h = refl
    at false f h = sym (f refl) ∙ h

-- a number that passes a test of its size is within the limit
pub le_of_test : (m n : ℕ) → nat_le m n ≡ true → m ≤ n
le_of_test m n h = grind (arith, nat_tests)

pub is_within : (limit : ℕ) (z : ℤ) → is_small limit z ≡ true → IsWithin limit z
is_within limit z h = record { within = le_of_test _ _ h }
