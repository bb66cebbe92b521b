-- The laws of products of natural numbers, and of factorials.
use Rattle.std.proofs.Common.{◌≡◌, ◌≢◌, ℕ, zero, suc, ◌+◌, ◌*◌, ◌^◌, ◌<◌, ◌≤◌, subst, List, [], ◌∷◌, ◌++◌, map, length, get_or, pos, ◌+ℤ◌, ◌*ℤ◌, All, refl, sym, ap, ap₂, ◌∙◌, arith, inl, inr, add-one, mul-pos}
use Rattle.std.specs.Prelude.{slice_index}
use Rattle.std.proofs.lemmas.Nat.{mul-le}
use Rattle.md_math.specs.Sums.{sum_to}
use Rattle.md_math.proofs.TotalLaws.{total_by-places}
use Rattle.std.specs.List.{sum_by}
use Rattle.std.proofs.lemmas.Bool.{cases_lt}
use Rattle.std.proofs.lemmas.Int.{ints}
use Rattle.std.proofs.lemmas.List.Elements.{All-head, All-tail}
use Rattle.std.proofs.lemmas.List.Sums.{sum_by-cons}
use Rattle.std.proofs.lemmas.Nat.{mul-pow}
use Rattle.std.proofs.Math.Nat.{pow-zero, pow-suc}
use Rattle.std.proofs.Math.IntN.{pos-*ℤ-pos}
use Rattle.md_math.specs.Products.{product_to, product_by, factorial}
use Rattle.md_math.specs.Sums.{total_by}

-- ---- over the places below a number

pub product_to-more : (n : ℕ) (f : ℕ → ℕ) → product_to (n + 1) f ≡ product_to n f * f n
product_to-more n f = rw add-one refl

pub product_to-same : (n : ℕ) (f g : ℕ → ℕ) → ((k : ℕ) → k < n → f k ≡ g k) → product_to n f ≡ product_to n g
product_to-same zero f g h = refl
product_to-same (suc n) f g h = ap₂ (λ x y. x * y) (product_to-same n f g (λ k b. h k (omega arith))) (h n (omega arith))

pub product_to-one : (n : ℕ) (f : ℕ → ℕ) → ((k : ℕ) → k < n → f k ≡ 1) → product_to n f ≡ 1
product_to-one zero f h = refl
product_to-one (suc n) f h = ap₂ (λ x y. x * y) (product_to-one n f (λ k b. h k (omega arith))) (h n (omega arith))

pub product_to-constant : (n a : ℕ) → product_to n (λ _. a) ≡ a ^ n
product_to-constant zero a = sym (pow-zero a)
product_to-constant (suc n) a = ap (λ x. x * a) (product_to-constant n a) ∙ sym (pow-suc a n)

pub product_to-* : (n : ℕ) (f g : ℕ → ℕ) → product_to n (λ k. f k * g k) ≡ product_to n f * product_to n g
product_to-* zero f g = refl
product_to-* (suc n) f g = omega (arith, ap (λ x. x * (f n * g n)) (product_to-* n f g))

pub one-pow : (m : ℕ) → 1 ^ m ≡ 1
one-pow zero = pow-zero 1
one-pow (suc m) = pow-suc 1 m ∙ ap (λ x. x * 1) (one-pow m)

pub product_to-^ : (n m : ℕ) (f : ℕ → ℕ) → product_to n (λ k. f k ^ m) ≡ product_to n f ^ m
product_to-^ zero m f = sym (one-pow m)
product_to-^ (suc n) m f = ap (λ x. x * f n ^ m) (product_to-^ n m f) ∙ sym (mul-pow (product_to n f) (f n) m)

pub product_to-positive : (n : ℕ) (f : ℕ → ℕ) → ((k : ℕ) → k < n → 0 < f k) → 0 < product_to n f
product_to-positive zero f h = omega arith
product_to-positive (suc n) f h = mul-pos (product_to-positive n f (λ k b. h k (omega arith))) (h n (omega arith))

-- the first factor apart from the others
pub product_to-first : (n : ℕ) (f : ℕ → ℕ) → product_to (suc n) f ≡ f 0 * product_to n (λ k. f (suc k))
product_to-first zero f = omega arith
product_to-first (suc n) f = omega (arith, ap (λ x. x * f (suc n)) (product_to-first n f))

-- two products that differ at one place
pub product_to-but : (n k : ℕ) (f g : ℕ → ℕ) → k < n → ((j : ℕ) → j < n → j ≢ k → f j ≡ g j) → product_to n f * g k ≡ product_to n g * f k
product_to-but zero k f g b h = absurd (omega arith)
product_to-but (suc n) k f g b h =
    elim (cases_lt k n) [
      | inl l ↦
          let rest : product_to n f * g k ≡ product_to n g * f k = product_to-but n k f g l (λ j c d. h j (omega arith) d) in
          let last : f n ≡ g n = h n (omega arith) (λ e. omega arith) in
          omega (arith, ap (λ x. x * g n) rest, ap (λ x. product_to n f * g k * x) last)
      | inr l ↦
          let same : n ≡ k = omega arith in
          let rest : product_to n f ≡ product_to n g = product_to-same n f g (λ j c. h j (omega arith) (λ e. omega arith)) in
          omega (arith, ap (λ x. x * (f n * g n)) rest, ap f same, ap g same, ap (λ x. product_to n f * f n * x) (ap g same), ap (λ x. product_to n g * g n * x) (ap f same))
    ]

-- ---- over a list

pub product_by-same : {X : Type 0} → (f g : X → ℕ) (xs : List X) → All (λ x. f x ≡ g x) xs → product_by f xs ≡ product_by g xs
product_by-same f g [] h = refl
product_by-same f g (x ∷ xs) h = ap₂ (λ y z. y * z) (All-head (λ y. f y ≡ g y) x xs h) (product_by-same f g xs (All-tail (λ y. f y ≡ g y) x xs h))

pub product_by-append : {X : Type 0} → (f : X → ℕ) (xs ys : List X) → product_by f (xs ++ ys) ≡ product_by f xs * product_by f ys
product_by-append f [] ys = omega arith
product_by-append f (x ∷ xs) ys = omega (arith, ap (λ n. f x * n) (product_by-append f xs ys))

pub product_by-map : {X Y : Type 0} → (f : Y → ℕ) (g : X → Y) (xs : List X) → product_by f (map g xs) ≡ product_by (λ x. f (g x)) xs
product_by-map f g [] = refl
product_by-map f g (x ∷ xs) = ap (λ n. f (g x) * n) (product_by-map f g xs)

pub product_by-positive : {X : Type 0} → (f : X → ℕ) (xs : List X) → All (λ x. 0 < f x) xs → 0 < product_by f xs
product_by-positive f [] h = omega arith
product_by-positive f (x ∷ xs) h = mul-pos (All-head (λ y. 0 < f y) x xs h) (product_by-positive f xs (All-tail (λ y. 0 < f y) x xs h))

-- a list's product is the product over its places
pub product_by-places : {X : Type 0} → (f : X → ℕ) (xs : List X) (d : X) → product_by f xs ≡ product_to (length xs) (λ k. f (get_or xs k d))
product_by-places f [] d = refl
product_by-places f (x ∷ xs) d = ap (λ n. f x * n) (product_by-places f xs d) ∙ sym (product_to-first (length xs) (λ k. f (get_or (x ∷ xs) k d)))

-- ---- factorials

pub factorial-more : (n : ℕ) → factorial (n + 1) ≡ (n + 1) * factorial n
factorial-more n = rw add-one refl

pub factorial-positive : (n : ℕ) → 0 < factorial n
factorial-positive zero = omega arith
factorial-positive (suc n) = mul-pos {m = suc n} (omega arith) (factorial-positive n)

-- ---- natural numbers as signed ones

-- the sum over a list
pub pos-sum_by : {X : Type 0} → (f : X → ℕ) (xs : List X) → pos (sum_by f xs) ≡ total_by (λ x. pos (f x)) xs
pos-sum_by f [] = refl
pos-sum_by f (x ∷ xs) = ap pos (sum_by-cons f x xs) ∙ pos-+ (f x) (sum_by f xs) ∙ ap (λ z. pos (f x) +ℤ z) (pos-sum_by f xs)
  where
    pos-+ : (m n : ℕ) → pos (m + n) ≡ pos m +ℤ pos n
    pos-+ m n = omega (arith, ints)

-- the product over a list
pub pos-product_by : {X : Type 0} → (f : X → ℕ) (x : X) (xs : List X) → pos (product_by f (x ∷ xs)) ≡ pos (f x) *ℤ pos (product_by f xs)
pos-product_by f x xs = sym (pos-*ℤ-pos (f x) (product_by f xs))

-- ---- one factor, and sizes

-- one factor is a times as large, and the others are the same
pub product_to-times : (n k a : ℕ) (f g : ℕ → ℕ) → k < n → f k ≡ a * g k → ((j : ℕ) → j < n → j ≢ k → f j ≡ g j) → product_to n f ≡ a * product_to n g
product_to-times zero k a f g b e h = absurd (omega arith)
product_to-times (suc n) k a f g b e h =
    elim (cases_lt k n) [
      | inl l ↦
          let rest : product_to n f ≡ a * product_to n g = product_to-times n k a f g l e (λ j c d. h j (omega arith) d) in
          let last : f n ≡ g n = h n (omega arith) (λ q. omega arith) in
          ap (λ x. x * f n) rest ∙ ap (λ x. a * product_to n g * x) last ∙ omega arith
      | inr l ↦
          let same : n ≡ k = omega arith in
          let rest : product_to n f ≡ product_to n g = others n (λ j c. h j (omega arith) (λ q. omega arith)) in
          let last : f n ≡ a * g n = subst (λ i. f i ≡ a * g i) (sym same) e in
          ap (λ x. x * f n) rest ∙ ap (λ x. product_to n g * x) last ∙ omega arith
    ]
  where
    others : (m : ℕ) → ((j : ℕ) → j < m → f j ≡ g j) → product_to m f ≡ product_to m g
    others m q = product_to-same m f g q

-- more factors, none of which is 0, make a product no smaller
pub product_to-le : (m n : ℕ) (f : ℕ → ℕ) → ((k : ℕ) → 0 < f k) → m ≤ n → product_to m f ≤ product_to n f
product_to-le m zero f h b = let e : m ≡ zero = omega arith in rw e (omega arith)
product_to-le m (suc n) f h b =
    elim (cases_lt n m) [
      | inl l ↦ let e : m ≡ suc n = omega arith in rw e (omega arith)
      | inr l ↦
          let rest : product_to m f ≤ product_to n f = product_to-le m n f h l in
          omega (arith, mul-le (product_to n f) 1 (product_to n f) (f n) (omega arith) (h n))
    ]

pub factorial-le : (m n : ℕ) → m ≤ n → factorial m ≤ factorial n
factorial-le m zero b = let e : m ≡ zero = omega arith in rw e (omega arith)
factorial-le m (suc n) b =
    elim (cases_lt n m) [
      | inl l ↦ let e : m ≡ suc n = omega arith in rw e (omega arith)
      | inr l ↦ omega (arith, factorial-le m n l, mul-le 1 (factorial n) (suc n) (factorial n) (omega arith) (omega arith))
    ]

-- a product with its next factor
pub product_to-step : (k p q : ℕ) (f : ℕ → ℕ) → p ≡ product_to k f → q ≡ f k → p * q ≡ product_to (k + 1) f
product_to-step k p q f e d = ap₂ (λ x y. x * y) e d ∙ sym (product_to-more k f)

pub factorial-step : (n m p q : ℕ) → n < m → m ≤ 12 → p ≡ factorial n → q ≡ n → p * (q + 1) ≤ 479001600
factorial-step n m p q b l e d =
    let step : p * (q + 1) ≡ factorial (n + 1) = ap₂ (λ x y. x * (y + 1)) e d ∙ omega arith ∙ sym (factorial-more n) in
    let most : factorial (n + 1) ≤ factorial 12 = factorial-le (n + 1) 12 (omega arith) in
    omega (arith, step, most)

-- ---- sums of natural numbers as sums of signed numbers

-- the sum of a list as one over its places
pub sum-places : (xs : List ℕ) → pos (sum_by (λ x. x) xs) ≡ sum_to (length xs) (λ k. pos (slice_index xs k))
sum-places xs = pos-sum_by (λ x. x) xs ∙ total_by-places (λ x. pos x) xs 0
