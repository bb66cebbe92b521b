-- The laws of sums over lists.
use Rattle.std.proofs.Common.{◌≡◌, ℕ, zero, suc, ◌+◌, ◌<◌, ℤ, pos, ◌+ℤ◌, ◌-ℤ◌, ◌*ℤ◌, ◌≤ℤ◌, List, [], ◌∷◌, ◌++◌, length, get_or, take, map, All, refl, sym, ap, ◌∙◌, arith}
use Rattle.std.proofs.lemmas.List.{take_more}
use Rattle.std.proofs.lemmas.List.Elements.{All-head, All-tail}
use Rattle.md_math.specs.Sums.{sum_to, total_by}
use Rattle.md_math.specs.Lists.{list_to, up_to}
use Rattle.md_math.proofs.Ring.{linear, *ℤ-+ℤ, *ℤ-zero}
use Rattle.md_math.proofs.Builders.{list_to-get_or}
use Rattle.md_math.proofs.SumLaws.{sum_to-+ℤ, sum_to-zero}

pub total_by-append : {X : Type 0} → (f : X → ℤ) (xs ys : List X) → total_by f (xs ++ ys) ≡ total_by f xs +ℤ total_by f ys
total_by-append f [] ys = omega (arith, linear)
total_by-append f (x ∷ xs) ys = omega (arith, linear, total_by-append f xs ys)

pub total_by-push : {X : Type 0} → (f : X → ℤ) (xs : List X) (x : X) → total_by f (xs ++ x ∷ []) ≡ total_by f xs +ℤ f x
total_by-push f xs x = omega (arith, linear, total_by-append f xs (x ∷ []))

-- one more element of a list
pub total_by-take : {X : Type 0} → (f : X → ℤ) (xs : List X) (i : ℕ) (d : X) → i < length xs → total_by f (take (i + 1) xs) ≡ total_by f (take i xs) +ℤ f (get_or xs i d)
total_by-take f xs i d b = ap (total_by f) (take_more xs i d b) ∙ total_by-push f (take i xs) (get_or xs i d)

pub total_by-same : {X : Type 0} → (f g : X → ℤ) (xs : List X) → All (λ x. f x ≡ g x) xs → total_by f xs ≡ total_by g xs
total_by-same f g [] h = refl
total_by-same f g (x ∷ xs) h =
    let head : f x ≡ g x = All-head (λ y. f y ≡ g y) x xs h in
    omega (arith, linear, total_by-same f g xs (All-tail (λ y. f y ≡ g y) x xs h))

pub total_by-zero : {X : Type 0} → (f : X → ℤ) (xs : List X) → All (λ x. f x ≡ pos 0) xs → total_by f xs ≡ pos 0
total_by-zero f [] h = refl
total_by-zero f (x ∷ xs) h =
    let head : f x ≡ pos 0 = All-head (λ y. f y ≡ pos 0) x xs h in
    omega (arith, linear, total_by-zero f xs (All-tail (λ y. f y ≡ pos 0) x xs h))

pub total_by-+ℤ : {X : Type 0} → (f g : X → ℤ) (xs : List X) → total_by (λ x. f x +ℤ g x) xs ≡ total_by f xs +ℤ total_by g xs
total_by-+ℤ f g [] = refl
total_by-+ℤ f g (x ∷ xs) = omega (arith, linear, total_by-+ℤ f g xs)

pub total_by-sub : {X : Type 0} → (f g : X → ℤ) (xs : List X) → total_by (λ x. f x -ℤ g x) xs ≡ total_by f xs -ℤ total_by g xs
total_by-sub f g [] = refl
total_by-sub f g (x ∷ xs) = omega (arith, linear, total_by-sub f g xs)

pub total_by-*ℤ : {X : Type 0} → (c : ℤ) (f : X → ℤ) (xs : List X) → total_by (λ x. c *ℤ f x) xs ≡ c *ℤ total_by f xs
total_by-*ℤ c f [] = sym (*ℤ-zero c)
total_by-*ℤ c f (x ∷ xs) = omega (arith, linear, total_by-*ℤ c f xs, *ℤ-+ℤ c (f x) (total_by f xs))

pub total_by-le : {X : Type 0} → (f g : X → ℤ) (xs : List X) → All (λ x. f x ≤ℤ g x) xs → total_by f xs ≤ℤ total_by g xs
total_by-le f g [] h = omega (arith, linear)
total_by-le f g (x ∷ xs) h =
    let head : f x ≤ℤ g x = All-head (λ y. f y ≤ℤ g y) x xs h in
    let rest : total_by f xs ≤ℤ total_by g xs = total_by-le f g xs (All-tail (λ y. f y ≤ℤ g y) x xs h) in
    omega (arith, linear)

pub total_by-nonneg : {X : Type 0} → (f : X → ℤ) (xs : List X) → All (λ x. pos 0 ≤ℤ f x) xs → pos 0 ≤ℤ total_by f xs
total_by-nonneg f [] h = omega (arith, linear)
total_by-nonneg f (x ∷ xs) h =
    let head : pos 0 ≤ℤ f x = All-head (λ y. pos 0 ≤ℤ f y) x xs h in
    let rest : pos 0 ≤ℤ total_by f xs = total_by-nonneg f xs (All-tail (λ y. pos 0 ≤ℤ f y) x xs h) in
    omega (arith, linear)

-- a sum over a list and a sum over places may change their order
pub total_by-sum_to : {X : Type 0} → (n : ℕ) (f : X → ℕ → ℤ) (xs : List X) → total_by (λ x. sum_to n (f x)) xs ≡ sum_to n (λ j. total_by (λ x. f x j) xs)
total_by-sum_to n f [] = sym (sum_to-zero n (λ _. pos 0) (λ j b. refl))
total_by-sum_to n f (x ∷ xs) = omega (arith, linear, total_by-sum_to n f xs, sum_to-+ℤ n (f x) (λ j. total_by (λ y. f y j) xs))

-- the sum over a list made place by place is the sum over the places
pub total_by-list_to : {X : Type 0} → (f : X → ℤ) (n : ℕ) (g : ℕ → X) → total_by f (list_to n g) ≡ sum_to n (λ k. f (g k))
total_by-list_to f zero g = refl
total_by-list_to f (suc n) g = omega (arith, linear, total_by-push f (list_to n g) (g n), total_by-list_to f n g)

pub total_by-up_to : {X : Type 0} → (f : X → ℤ) (n : ℕ) (g : ℕ → List X) → total_by f (up_to n g) ≡ sum_to n (λ k. total_by f (g k))
total_by-up_to f zero g = refl
total_by-up_to f (suc n) g = omega (arith, linear, total_by-append f (up_to n g) (g n), total_by-up_to f n g)

-- a list's sum is the sum over its places
pub total_by-places : {X : Type 0} → (f : X → ℤ) (xs : List X) (d : X) → total_by f xs ≡ sum_to (length xs) (λ k. f (get_or xs k d))
total_by-places f xs d = ap (total_by f) (sym (list_to-get_or xs d)) ∙ total_by-list_to f (length xs) (λ k. get_or xs k d)

pub total_by-map : {X Y : Type 0} → (f : Y → ℤ) (g : X → Y) (xs : List X) → total_by f (map g xs) ≡ total_by (λ x. f (g x)) xs
total_by-map f g [] = refl
total_by-map f g (x ∷ xs) = omega (arith, linear, total_by-map f g xs)
