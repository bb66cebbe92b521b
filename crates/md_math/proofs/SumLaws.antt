-- The laws of sums over the places below a number.
use Rattle.std.proofs.Common.{◌≡◌, ◌≢◌, ℕ, zero, suc, ◌+◌, ◌*◌, ◌<◌, ℤ, pos, ◌+ℤ◌, ◌-ℤ◌, ◌*ℤ◌, neg_ℤ, ◌≤ℤ◌, ◌<ℤ◌, inl, inr, refl, sym, ap, ◌∙◌, ap₂, Bool, true, false, if◌then◌else◌, eqb, eq-eqb, ne_eqb, arith, add-one}
use Rattle.std.proofs.lemmas.Bool.{cases_lt}
use Rattle.std.proofs.lemmas.Int.{ints}
use lib.IntN.{*ℤ_comm}
use Rattle.md_math.proofs.Ring.{linear, ring, *ℤ-+ℤ, +ℤ-*ℤ, *ℤ-zero, *ℤ_assoc, *ℤ_left_comm}
use Rattle.md_math.proofs.Order.{nonneg-*ℤ, *ℤ-le}
use Rattle.md_math.specs.Sums.{sum_to, dot}

pub sum_to-more : (n : ℕ) (f : ℕ → ℤ) → sum_to (n + 1) f ≡ sum_to n f +ℤ f n
sum_to-more n f = rw add-one refl

pub sum_to-same : (n : ℕ) (f g : ℕ → ℤ) → ((j : ℕ) → j < n → f j ≡ g j) → sum_to n f ≡ sum_to n g
sum_to-same zero f g h = refl
sum_to-same (suc n) f g h =
    let rest : sum_to n f ≡ sum_to n g = sum_to-same n f g (λ j b. h j (omega arith)) in
    let last : f n ≡ g n = h n (omega arith) in
    omega (arith, linear)

pub sum_to-zero : (n : ℕ) (f : ℕ → ℤ) → ((j : ℕ) → j < n → f j ≡ pos 0) → sum_to n f ≡ pos 0
sum_to-zero zero f h = refl
sum_to-zero (suc n) f h =
    let rest : sum_to n f ≡ pos 0 = sum_to-zero n f (λ j b. h j (omega arith)) in
    let last : f n ≡ pos 0 = h n (omega arith) in
    omega (arith, linear)

pub sum_to-+ℤ : (n : ℕ) (f g : ℕ → ℤ) → sum_to n (λ j. f j +ℤ g j) ≡ sum_to n f +ℤ sum_to n g
sum_to-+ℤ zero f g = refl
sum_to-+ℤ (suc n) f g = omega (arith, linear, sum_to-+ℤ n f g)

pub sum_to-neg_ℤ : (n : ℕ) (f : ℕ → ℤ) → sum_to n (λ j. neg_ℤ (f j)) ≡ neg_ℤ (sum_to n f)
sum_to-neg_ℤ zero f = refl
sum_to-neg_ℤ (suc n) f = omega (arith, linear, sum_to-neg_ℤ n f)

pub sum_to-sub : (n : ℕ) (f g : ℕ → ℤ) → sum_to n (λ j. f j -ℤ g j) ≡ sum_to n f -ℤ sum_to n g
sum_to-sub zero f g = refl
sum_to-sub (suc n) f g = omega (arith, linear, sum_to-sub n f g)

pub sum_to-*ℤ : (n : ℕ) (c : ℤ) (f : ℕ → ℤ) → sum_to n (λ j. c *ℤ f j) ≡ c *ℤ sum_to n f
sum_to-*ℤ zero c f = sym (*ℤ-zero c)
sum_to-*ℤ (suc n) c f = omega (arith, linear, sum_to-*ℤ n c f, *ℤ-+ℤ c (sum_to n f) (f n))

pub sum_to-le : (n : ℕ) (f g : ℕ → ℤ) → ((j : ℕ) → j < n → f j ≤ℤ g j) → sum_to n f ≤ℤ sum_to n g
sum_to-le zero f g h = omega (arith, linear)
sum_to-le (suc n) f g h =
    let rest : sum_to n f ≤ℤ sum_to n g = sum_to-le n f g (λ j b. h j (omega arith)) in
    let last : f n ≤ℤ g n = h n (omega arith) in
    omega (arith, linear)

pub sum_to-nonneg : (n : ℕ) (f : ℕ → ℤ) → ((j : ℕ) → j < n → pos 0 ≤ℤ f j) → pos 0 ≤ℤ sum_to n f
sum_to-nonneg zero f h = omega (arith, linear)
sum_to-nonneg (suc n) f h =
    let rest : pos 0 ≤ℤ sum_to n f = sum_to-nonneg n f (λ j b. h j (omega arith)) in
    let last : pos 0 ≤ℤ f n = h n (omega arith) in
    omega (arith, linear)

-- the order of two sums may change
pub sum_to-swap : (m n : ℕ) (f : ℕ → ℕ → ℤ) → sum_to m (λ i. sum_to n (λ j. f i j)) ≡ sum_to n (λ j. sum_to m (λ i. f i j))
sum_to-swap zero n f = sym (sum_to-zero n (λ _. pos 0) (λ j b. refl))
sum_to-swap (suc m) n f =
    let rest : sum_to m (λ i. sum_to n (λ j. f i j)) ≡ sum_to n (λ j. sum_to m (λ i. f i j)) = sum_to-swap m n f in
    omega (arith, linear, sum_to-+ℤ n (λ j. sum_to m (λ i. f i j)) (λ j. f m j))

-- the places below m and then n more
pub sum_to-join : (m n : ℕ) (f : ℕ → ℤ) → sum_to (m + n) f ≡ sum_to m f +ℤ sum_to n (λ j. f (m + j))
sum_to-join m zero f = let e : m + zero ≡ m = omega arith in rw e (omega (arith, linear))
sum_to-join m (suc n) f =
    let e : m + suc n ≡ suc (m + n) = omega arith in
    rw e (omega (arith, linear, sum_to-join m n f))

-- the places below m * n are m rows of n
pub sum_to-nested : (m n : ℕ) (f : ℕ → ℤ) → sum_to (m * n) f ≡ sum_to m (λ i. sum_to n (λ j. f (i * n + j)))
sum_to-nested zero n f = let e : zero * n ≡ zero = omega arith in rw e refl
sum_to-nested (suc m) n f =
    let e : suc m * n ≡ m * n + n = omega arith in
    rw e (omega (arith, linear, sum_to-join (m * n) n f, sum_to-nested m n f))

-- one term alone is not 0
pub sum_to-single : (n k : ℕ) (f : ℕ → ℤ) → k < n → ((j : ℕ) → j < n → j ≢ k → f j ≡ pos 0) → sum_to n f ≡ f k
sum_to-single zero k f b h = absurd (omega arith)
sum_to-single (suc n) k f b h =
    elim (cases_lt k n) [
      | inl l ↦
          let rest : sum_to n f ≡ f k = sum_to-single n k f l (λ j c. h j (omega arith)) in
          let last : f n ≡ pos 0 = h n (omega arith) (λ e. omega arith) in
          omega (arith, linear)
      | inr l ↦
          let rest : sum_to n f ≡ pos 0 = sum_to-zero n f (λ j c. h j (omega arith) (λ e. omega arith)) in
          let same : n ≡ k = omega arith in
          let last : f n ≡ f k = ap f same in
          omega (arith, linear)
    ]

-- a sum where f counts only at k
pub sum_to-at : (n k : ℕ) (f : ℕ → ℤ) → k < n → sum_to n (λ j. if eqb j k then f j else pos 0) ≡ f k
sum_to-at n k f b =
    sum_to-single n k (λ j. if eqb j k then f j else pos 0) b (λ j c d. rw (ne_eqb j k d) refl) ∙ (rw (eq-eqb k k refl) refl)

-- the term at k, and the others
pub sum_to-but : (n k : ℕ) (f : ℕ → ℤ) → k < n → sum_to n f ≡ f k +ℤ sum_to n (λ j. if eqb j k then pos 0 else f j)
sum_to-but n k f b =
    let parts : sum_to n f ≡ sum_to n (λ j. (if eqb j k then f j else pos 0) +ℤ (if eqb j k then pos 0 else f j)) =
    sum_to-same n f _ (λ j c. split (eqb j k) (f j)) in
    omega (arith, linear, sum_to-at n k f b, sum_to-+ℤ n (λ j. if eqb j k then f j else pos 0) (λ j. if eqb j k then pos 0 else f j))
  where
    split : (t : Bool) (x : ℤ) → x ≡ (if t then x else pos 0) +ℤ (if t then pos 0 else x)
    split true x = omega (arith, linear)
    split false x = omega (arith, linear)

-- a sum of terms at least 0 is at least each of them
pub sum_to-at_least : (n k : ℕ) (f : ℕ → ℤ) → k < n → ((j : ℕ) → j < n → pos 0 ≤ℤ f j) → f k ≤ℤ sum_to n f
sum_to-at_least zero k f b h = absurd (omega arith)
sum_to-at_least (suc n) k f b h =
    elim (cases_lt k n) [
      | inl l ↦
          let rest : f k ≤ℤ sum_to n f = sum_to-at_least n k f l (λ j c. h j (omega arith)) in
          let last : pos 0 ≤ℤ f n = h n (omega arith) in
          omega (arith, linear)
      | inr l ↦
          let rest : pos 0 ≤ℤ sum_to n f = sum_to-nonneg n f (λ j c. h j (omega arith)) in
          let same : n ≡ k = omega arith in
          let last : f n ≡ f k = ap f same in
          omega (arith, linear)
    ]

-- terms at least 0 whose sum is at most 0 are all 0
pub sum_to-all_zero : (n k : ℕ) (f : ℕ → ℤ) → k < n → ((j : ℕ) → j < n → pos 0 ≤ℤ f j) → sum_to n f ≤ℤ pos 0 → f k ≡ pos 0
sum_to-all_zero n k f b h s =
    let most : f k ≤ℤ sum_to n f = sum_to-at_least n k f b h in
    let least : pos 0 ≤ℤ f k = h k b in
    omega (arith, linear)

-- terms at least 0, one of them positive, have a positive sum
pub sum_to-positive : (n k : ℕ) (f : ℕ → ℤ) → k < n → ((j : ℕ) → j < n → pos 0 ≤ℤ f j) → pos 0 <ℤ f k → pos 0 <ℤ sum_to n f
sum_to-positive n k f b h p =
    let most : f k ≤ℤ sum_to n f = sum_to-at_least n k f b h in
    omega (arith, linear)

-- ---- sums of products

pub dot-more : (n : ℕ) (f g : ℕ → ℤ) → dot (n + 1) f g ≡ dot n f g +ℤ f n *ℤ g n
dot-more n f g = rw add-one refl

pub dot-same : (n : ℕ) (f f' g g' : ℕ → ℤ) → ((j : ℕ) → j < n → f j ≡ f' j) → ((j : ℕ) → j < n → g j ≡ g' j) → dot n f g ≡ dot n f' g'
dot-same n f f' g g' h k = sum_to-same n _ _ (λ j b. ap₂ (λ x y. x *ℤ y) (h j b) (k j b))

pub dot_comm : (n : ℕ) (f g : ℕ → ℤ) → dot n f g ≡ dot n g f
dot_comm n f g = sum_to-same n _ _ (λ j b. *ℤ_comm (f j) (g j))

pub dot-+ℤ : (n : ℕ) (f g h : ℕ → ℤ) → dot n f (λ j. g j +ℤ h j) ≡ dot n f g +ℤ dot n f h
dot-+ℤ n f g h = sum_to-same n _ _ (λ j b. *ℤ-+ℤ (f j) (g j) (h j)) ∙ sum_to-+ℤ n (λ j. f j *ℤ g j) (λ j. f j *ℤ h j)

pub +ℤ-dot : (n : ℕ) (f g h : ℕ → ℤ) → dot n (λ j. f j +ℤ g j) h ≡ dot n f h +ℤ dot n g h
+ℤ-dot n f g h = sum_to-same n _ _ (λ j b. +ℤ-*ℤ (f j) (g j) (h j)) ∙ sum_to-+ℤ n (λ j. f j *ℤ h j) (λ j. g j *ℤ h j)

pub dot-*ℤ : (n : ℕ) (c : ℤ) (f g : ℕ → ℤ) → dot n f (λ j. c *ℤ g j) ≡ c *ℤ dot n f g
dot-*ℤ n c f g = sum_to-same n _ _ (λ j b. *ℤ_left_comm (f j) c (g j)) ∙ sum_to-*ℤ n c (λ j. f j *ℤ g j)

pub *ℤ-dot : (n : ℕ) (c : ℤ) (f g : ℕ → ℤ) → dot n (λ j. c *ℤ f j) g ≡ c *ℤ dot n f g
*ℤ-dot n c f g = sum_to-same n _ _ (λ j b. *ℤ_assoc c (f j) (g j)) ∙ sum_to-*ℤ n c (λ j. f j *ℤ g j)

pub dot-zero : (n : ℕ) (f g : ℕ → ℤ) → ((j : ℕ) → j < n → g j ≡ pos 0) → dot n f g ≡ pos 0
dot-zero n f g h = sum_to-zero n _ (λ j b. rw (h j b) (*ℤ-zero (f j)))

-- factors at least 0 keep an order of the other factors
pub dot-le : (n : ℕ) (f g h : ℕ → ℤ) → ((j : ℕ) → j < n → pos 0 ≤ℤ f j) → ((j : ℕ) → j < n → g j ≤ℤ h j) → dot n f g ≤ℤ dot n f h
dot-le n f g h p l = sum_to-le n _ _ (λ j b. *ℤ-le (f j) (g j) (h j) (p j b) (l j b))

pub dot-nonneg : (n : ℕ) (f g : ℕ → ℤ) → ((j : ℕ) → j < n → pos 0 ≤ℤ f j) → ((j : ℕ) → j < n → pos 0 ≤ℤ g j) → pos 0 ≤ℤ dot n f g
dot-nonneg n f g p q = sum_to-nonneg n _ (λ j b. nonneg-*ℤ (f j) (g j) (p j b) (q j b))

-- a table between two lists of multipliers: by rows or by columns
pub dot-swap : (m n : ℕ) (u v : ℕ → ℤ) (a : ℕ → ℕ → ℤ) → dot m u (λ i. dot n (a i) v) ≡ dot n (λ j. dot m u (λ i. a i j)) v
dot-swap m n u v a =
    sum_to-same m _ (λ i. sum_to n (λ j. u i *ℤ (a i j *ℤ v j))) (λ i b. sym (sum_to-*ℤ n (u i) (λ j. a i j *ℤ v j)))
    ∙ sum_to-swap m n (λ i j. u i *ℤ (a i j *ℤ v j))
    ∙ sum_to-same n _ _ (λ j b. sum_to-same m _ (λ i. v j *ℤ (u i *ℤ a i j)) (λ i c. simp ring) ∙ sum_to-*ℤ m (v j) (λ i. u i *ℤ a i j) ∙ *ℤ_comm (v j) (sum_to m (λ i. u i *ℤ a i j)))

-- ---- sums in which each term is judged

pub sum_to-front : (n : ℕ) (f : ℕ → ℤ) → sum_to (suc n) f ≡ f 0 +ℤ sum_to n (λ j. f (j + 1))
sum_to-front zero f = omega (arith, linear)
sum_to-front (suc n) f =
    let last : f (n + 1) ≡ f (suc n) = ap f (add-one n) in
    omega (arith, linear, sum_to-front n f, last)

-- one term is smaller by 1, and none is greater
pub sum_to-less : (n k : ℕ) (f g : ℕ → ℤ) → k < n → ((j : ℕ) → j < n → f j ≤ℤ g j) → (f k +ℤ pos 1) ≤ℤ g k → (sum_to n f +ℤ pos 1) ≤ℤ sum_to n g
sum_to-less n k f g b h l =
    let d : (g k -ℤ f k) ≤ℤ sum_to n (λ j. g j -ℤ f j) = sum_to-at_least n k (λ j. g j -ℤ f j) b (λ j c. (let e : f j ≤ℤ g j = h j c in omega (arith, linear))) in
    omega (arith, linear, d, sum_to-sub n g f)

-- a sum by a test, and the rest
pub sum_to-by_test : (n : ℕ) (test : ℕ → Bool) (f : ℕ → ℤ) → sum_to n f ≡ sum_to n (λ j. if test j then f j else pos 0) +ℤ sum_to n (λ j. if test j then pos 0 else f j)
sum_to-by_test n test f =
    sum_to-same n f _ (λ j b. split (test j) (f j)) ∙ sum_to-+ℤ n (λ j. if test j then f j else pos 0) (λ j. if test j then pos 0 else f j)
  where
    split : (t : Bool) (z : ℤ) → z ≡ (if t then z else pos 0) +ℤ (if t then pos 0 else z)
    split true z = omega (arith, linear)
    split false z = omega (arith, linear)

-- a sum that counts where a test holds, or else is 0
pub sum_to-if : (n : ℕ) (t : Bool) (f : ℕ → ℤ) → sum_to n (λ j. if t then f j else pos 0) ≡ (if t then sum_to n f else pos 0)
sum_to-if n true f = refl
sum_to-if zero false f = refl
sum_to-if (suc n) false f = omega (arith, linear, sum_to-if n false f)

-- as often the same number
pub sum_to-constant : (n : ℕ) (z : ℤ) → sum_to n (λ _. z) ≡ pos n *ℤ z
sum_to-constant zero z = (let e : pos 0 *ℤ z ≡ pos 0 = simp ring in sym e)
sum_to-constant (suc n) z = ap (λ y. y +ℤ z) (sum_to-constant n z) ∙ one_more n z
  where
    one_more : (n : ℕ) (z : ℤ) → (pos n *ℤ z) +ℤ z ≡ pos (suc n) *ℤ z
    one_more n z =
        let e : pos (suc n) ≡ pos n +ℤ pos 1 = omega (arith, ints) in
        rw e (simp ring (omega (arith, linear)))
