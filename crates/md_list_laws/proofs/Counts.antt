-- How many places pass a test, and sums over these places by keys that no two of them share.
use Rattle.std.proofs.Common.{◌≡◌, ℕ, zero, suc, ◌+◌, ◌-◌, ◌<◌, ℤ, pos, neg_ℤ, ◌+ℤ◌, ◌-ℤ◌, ◌*ℤ◌, ◌≤ℤ◌, Bool, true, false, ◌&&◌, ◌==◌, if◌then◌else◌, inl, inr, refl, sym, ap, ap₂, ◌∙◌, subst, arith, eqb-true, eq-eqb, ne_eqb}
use Rattle.std.proofs.lemmas.Bool.{cases_Bool, and_parts}
use Rattle.std.proofs.lemmas.Int.{ints}
use Rattle.md_math.specs.Sums.{sum_to}
use Rattle.md_math.proofs.Order.{*ℤ-le, nonneg-*ℤ, chosen-nonneg}
use Rattle.md_math.proofs.Ring.{linear, ring, *ℤ-zero, *ℤ-one, one-*ℤ}
use Rattle.md_math.proofs.SumLaws.{sum_to-same, sum_to-zero, sum_to-swap, sum_to-single, sum_to-*ℤ, sum_to-sub, sum_to-+ℤ, sum_to-le, sum_to-nonneg, sum_to-join, sum_to-constant, sum_to-all_zero}
use Rattle.md_list.specs.Rule.{count_to}

-- ---- counts

abbrev pub count : ℕ → (ℕ → Bool) → ℤ
count n test = sum_to n (λ i. if test i then pos 1 else pos 0)

pub pos-count_to : (n : ℕ) (test : ℕ → Bool) → pos (count_to n test) ≡ count n test
pos-count_to zero test = refl
pos-count_to (suc n) test = one (test n) (count_to n test) (count n test) (pos-count_to n test)
  where
    one : (b : Bool) (k : ℕ) (z : ℤ) → pos k ≡ z → pos (k + (if b then 1 else 0)) ≡ z +ℤ (if b then pos 1 else pos 0)
    one true k z e = omega (arith, ints, e)
    one false k z e = omega (arith, ints, e)

one-of : (b : Bool) → b ≡ true → (if b then pos 1 else pos 0) ≡ pos 1
one-of true e = refl
one-of false e = cc

none-of : (b : Bool) → (b ≡ true → ⊥) → (if b then pos 1 else pos 0) ≡ pos 0
none-of true h = absurd (h refl)
none-of false h = refl

pub at_most_one : (n : ℕ) (test : ℕ → Bool) → ((i j : ℕ) → i < n → j < n → test i ≡ true → test j ≡ true → i ≡ j) → count n test ≤ℤ pos 1
at_most_one zero test h = omega (arith, ints)
at_most_one (suc n) test h = elim (cases_Bool (test n)) [
  | inl holds ↦
      let none : count n test ≡ pos 0 = sum_to-zero n _ (λ j b. none-of (test j) (λ e. (let same : j ≡ n = h j n (omega (arith, b)) (omega arith) e holds in omega (arith, same, b)))) in
      omega (arith, ints, none, one-of (test n) holds)
  | inr fails ↦ omega (arith, ints, at_most_one n test (λ i j b c. h i j (omega (arith, b)) (omega (arith, c))), ap (λ (b : Bool). if b then pos 1 else pos 0) fails)
]

pub count-nonneg : (n : ℕ) (test : ℕ → Bool) → pos 0 ≤ℤ count n test
count-nonneg n test = sum_to-nonneg n _ (λ j b. chosen-nonneg (test j) (pos 1) (omega (arith, ints)))

-- ---- sums by keys

-- how many of the places that pass have the key h
abbrev keyed : ℕ → (ℕ → Bool) → (ℕ → ℕ) → ℕ → ℤ
keyed n test key h = count n (λ i. test i && (key i == h))

by-keys : (n m : ℕ) (test : ℕ → Bool) (key : ℕ → ℕ) (f : ℕ → ℤ) → ((i : ℕ) → i < n → test i ≡ true → key i < m)
    → sum_to n (λ i. if test i then f (key i) else pos 0) ≡ sum_to m (λ h. f h *ℤ keyed n test key h)
by-keys n m test key f below =
    sum_to-same n _ (λ i. sum_to m (λ h. f h *ℤ (if test i && (key i == h) then pos 1 else pos 0))) (λ i b. one (test i) (key i) (below i b))
    ∙ sum_to-swap n m (λ i h. f h *ℤ (if test i && (key i == h) then pos 1 else pos 0))
    ∙ sum_to-same m _ (λ h. f h *ℤ keyed n test key h) (λ h b. sum_to-*ℤ n (f h) (λ i. if test i && (key i == h) then pos 1 else pos 0))
  where
    one : (b : Bool) (k : ℕ) → (b ≡ true → k < m) → (if b then f k else pos 0) ≡ sum_to m (λ h. f h *ℤ (if b && (k == h) then pos 1 else pos 0))
    one true k l =
        sym (sum_to-single m k (λ h. f h *ℤ (if k == h then pos 1 else pos 0)) (l refl)
        (λ h b d. ap (λ (t : Bool). f h *ℤ (if t then pos 1 else pos 0)) (ne_eqb k h (λ e. d (sym e))) ∙ *ℤ-zero (f h))
        ∙ ap (λ (t : Bool). f k *ℤ (if t then pos 1 else pos 0)) (eq-eqb k k refl)
        ∙ *ℤ-one (f k))
    one false k l = sym (sum_to-zero m _ (λ h b. *ℤ-zero (f h)))

-- no two places that pass share a key
abbrev pub HaveOwnKeys : ℕ → (ℕ → Bool) → (ℕ → ℕ) → Type 0
HaveOwnKeys n test key = (i j : ℕ) → i < n → j < n → test i ≡ true → test j ≡ true → key i ≡ key j → i ≡ j

keyed-once : (n : ℕ) (test : ℕ → Bool) (key : ℕ → ℕ) (h : ℕ) → HaveOwnKeys n test key → keyed n test key h ≤ℤ pos 1
keyed-once n test key h own =
    at_most_one n (λ i. test i && (key i == h))
    (λ i j b c p q.
    let (holds, here) = and_parts (test i) (key i == h) p in
    let (also, there) = and_parts (test j) (key j == h) q in
    own i j b c holds also (eqb-true (key i) h here ∙ sym (eqb-true (key j) h there)))

keyed-all : (n m : ℕ) (test : ℕ → Bool) (key : ℕ → ℕ) → ((i : ℕ) → i < n → test i ≡ true → key i < m) → sum_to m (keyed n test key) ≡ count n test
keyed-all n m test key below = sum_to-same m _ _ (λ h b. sym (one-*ℤ (keyed n test key h))) ∙ sym (by-keys n m test key (λ h. pos 1) below)

-- where there are as many keys as places that pass, each key is used once
pub by-own_keys : (n k : ℕ) (test : ℕ → Bool) (key : ℕ → ℕ) (f : ℕ → ℤ) → HaveOwnKeys n test key → ((i : ℕ) → i < n → test i ≡ true → key i < k) → count n test ≡ pos k
    → sum_to n (λ i. if test i then f (key i) else pos 0) ≡ sum_to k f
by-own_keys n k test key f own below whole =
    by-keys n k test key f below ∙ sum_to-same k _ f (λ h b. ap (λ z. f h *ℤ z) (once h b) ∙ *ℤ-one (f h))
  where
    left : (z : ℤ) → z ≤ℤ pos 1 → pos 0 ≤ℤ (pos 1 -ℤ z)
    left z l = omega (arith, ints, l)

    all : sum_to k (λ h. pos 1 -ℤ keyed n test key h) ≡ pos 0
    all =
        sum_to-sub k (λ h. pos 1) (keyed n test key)
        ∙ ap₂ (λ x y. x -ℤ y) (sum_to-constant k (pos 1) ∙ *ℤ-one (pos k)) (keyed-all n k test key below ∙ whole)
        ∙ (let e : pos k -ℤ pos k ≡ pos 0 = omega (arith, linear) in e)

    once : (h : ℕ) → h < k → keyed n test key h ≡ pos 1
    once h b =
        let none : pos 1 -ℤ keyed n test key h ≡ pos 0 = sum_to-all_zero k h (λ j. pos 1 -ℤ keyed n test key j) b (λ j c. left (keyed n test key j) (keyed-once n test key j own)) (omega (arith, linear, all)) in
        omega (arith, linear, none)

-- ---- functions that never rise

pub falls-to : (f : ℕ → ℤ) → ((h : ℕ) → f (suc h) ≤ℤ f h) → (x y : ℕ) → f (x + y) ≤ℤ f x
falls-to f down x zero = (let e : x + zero ≡ x = omega arith in rw e (omega (arith, linear)))
falls-to f down x (suc y) = (let e : x + suc y ≡ suc (x + y) = omega arith in rw e (omega (arith, linear, down (x + y), falls-to f down x y)))

-- k places with keys of their own have at most the first k terms of a function that never rises
pub most-by_keys : (n m k : ℕ) (test : ℕ → Bool) (key : ℕ → ℕ) (f : ℕ → ℤ) → ((h : ℕ) → f (suc h) ≤ℤ f h) → ((h : ℕ) → pos 0 ≤ℤ f h) → HaveOwnKeys n test key
    → ((i : ℕ) → i < n → test i ≡ true → key i < m) → count n test ≤ℤ pos k → sum_to n (λ i. if test i then f (key i) else pos 0) ≤ℤ sum_to k f
most-by_keys n m k test key f down nonneg own below few =
    let c = f k in
    let all = keyed n test key in
    let wide : (i : ℕ) → i < n → test i ≡ true → key i < k + m = λ i b e. (let l : key i < m = below i b e in omega (arith, l)) in
    let parts : sum_to (k + m) (λ h. f h *ℤ all h) ≡ sum_to (k + m) (λ h. (f h -ℤ c) *ℤ all h) +ℤ c *ℤ sum_to (k + m) all =
    sum_to-same (k + m) _ (λ h. (f h -ℤ c) *ℤ all h +ℤ c *ℤ all h) (λ h b. split (f h) c (all h))
    ∙ sum_to-+ℤ (k + m) (λ h. (f h -ℤ c) *ℤ all h) (λ h. c *ℤ all h)
    ∙ ap (λ z. sum_to (k + m) (λ h. (f h -ℤ c) *ℤ all h) +ℤ z) (sum_to-*ℤ (k + m) c all) in
    let first : sum_to k (λ h. (f h -ℤ c) *ℤ all h) ≤ℤ sum_to k (λ h. f h -ℤ c) = sum_to-le k _ _ (λ h b. above (f h) c (all h) (higher h b) (keyed-once n test key h own)) in
    let rest : sum_to m (λ j. (f (k + j) -ℤ c) *ℤ all (k + j)) ≤ℤ pos 0 =
    subst (λ z. sum_to m (λ j. (f (k + j) -ℤ c) *ℤ all (k + j)) ≤ℤ z) (sum_to-zero m (λ j. pos 0) (λ j b. refl))
    (sum_to-le m _ (λ j. pos 0) (λ j b. under (f (k + j)) c (all (k + j)) (falls-to f down k j) (count-nonneg n _))) in
    let whole : sum_to k (λ h. f h -ℤ c) ≡ sum_to k f -ℤ pos k *ℤ c = sum_to-sub k f (λ h. c) ∙ ap (λ z. sum_to k f -ℤ z) (sum_to-constant k c) in
    let most : (c *ℤ sum_to (k + m) all) ≤ℤ (c *ℤ pos k) = *ℤ-le c (sum_to (k + m) all) (pos k) (nonneg k) (subst (λ z. z ≤ℤ pos k) (sym (keyed-all n (k + m) test key wide)) few) in
    let turned : c *ℤ pos k ≡ pos k *ℤ c = simp ring in
    omega (arith, linear, by-keys n (k + m) test key f wide, parts, sum_to-join k m (λ h. (f h -ℤ c) *ℤ all h), first, rest, whole, most, turned)
  where
    split : (x c z : ℤ) → x *ℤ z ≡ (x -ℤ c) *ℤ z +ℤ c *ℤ z
    split x c z = simp ring (omega (arith, linear))

    higher : (h : ℕ) → h < k → f k ≤ℤ f h
    higher h b = (let e : h + (k - h) ≡ k = omega (arith, b) in subst (λ j. f j ≤ℤ f h) e (falls-to f down h (k - h)))

    above : (x c z : ℤ) → c ≤ℤ x → z ≤ℤ pos 1 → ((x -ℤ c) *ℤ z) ≤ℤ (x -ℤ c)
    above x c z h l = (let p = *ℤ-le (x -ℤ c) z (pos 1) (omega (arith, linear, h)) l in omega (arith, linear, p, *ℤ-one (x -ℤ c)))

    under : (x c z : ℤ) → x ≤ℤ c → pos 0 ≤ℤ z → ((x -ℤ c) *ℤ z) ≤ℤ pos 0
    under x c z h l = (let p = nonneg-*ℤ (c -ℤ x) z (omega (arith, linear, h)) l in let e : (c -ℤ x) *ℤ z ≡ neg_ℤ ((x -ℤ c) *ℤ z) = simp ring (omega (arith, linear)) in omega (arith, linear, p, e))
