-- Counting places that pass a test.
use Rattle.std.proofs.Common.{◌≡◌, ℕ, zero, suc, ◌+◌, ◌<◌, ◌≤◌, ◌≢◌, Bool, true, false, ◌==◌, if◌then◌else◌, ℤ, pos, ◌+ℤ◌, refl, sym, ap, ap₂, subst, ◌∙◌, arith, inl, inr, eq-eqb, ne_eqb}
use Rattle.std.proofs.lemmas.Bool.{cases_eq}
use Rattle.std.proofs.lemmas.Int.{ints}
use Rattle.md_math.specs.Sums.{sum_to}
use Rattle.md_math.proofs.Ring.{linear}
use Rattle.md_threshold_laws.specs.Rule.{count_to}

pub count-same : (n : ℕ) (s t : ℕ → Bool) → ((i : ℕ) → i < n → s i ≡ t i) → count_to n s ≡ count_to n t
count-same zero s t h = refl
count-same (suc n) s t h = ap₂ (λ x y. x + (if y then 1 else 0)) (count-same n s t (λ i b. h i (omega (arith, b)))) (h n (omega arith))

pub count-none : (n : ℕ) (t : ℕ → Bool) → ((i : ℕ) → i < n → t i ≡ false) → count_to n t ≡ 0
count-none zero t h = refl
count-none (suc n) t h = ap₂ (λ x y. x + (if y then 1 else 0)) (count-none n t (λ i b. h i (omega (arith, b)))) (h n (omega arith))

pub count-most : (n : ℕ) (t : ℕ → Bool) → count_to n t ≤ n
count-most zero t = omega arith
count-most (suc n) t = one (t n) (count_to n t) n (count-most n t)
  where
    one : (h : Bool) (c n : ℕ) → c ≤ n → c + (if h then 1 else 0) ≤ suc n
    one true c n l = omega arith
    one false c n l = omega arith

-- a place that passes has fewer before it than there are
pub count-before : (n i : ℕ) (t : ℕ → Bool) → i < n → t i ≡ true → count_to i t < count_to n t
count-before zero i t b h = absurd (omega (arith, b))
count-before (suc n) i t b h = elim (cases_eq i n) [
  | inl e ↦ last e
  | inr d ↦ (let rest : count_to i t < count_to n t = count-before n i t (omega (arith, b, d)) h in more (t n) (count_to i t) (count_to n t) rest)
]
  where
    more : (s : Bool) (x y : ℕ) → x < y → x < y + (if s then 1 else 0)
    more true x y l = omega arith
    more false x y l = omega arith

    plus : (x : ℕ) → x < x + (if true then 1 else 0)
    plus x = omega arith

    last : i ≡ n → count_to i t < count_to (suc n) t
    last e = subst (λ m. count_to m t < count_to n t + (if t n then 1 else 0)) (sym e) (subst (λ s. count_to n t < count_to n t + (if s then 1 else 0)) (sym (ap t (sym e) ∙ h)) (plus (count_to n t)))

-- two tests of which at most one holds, where a third holds
pub count-two : (n : ℕ) (r s t : ℕ → Bool) → ((i : ℕ) → i < n → (if r i then 1 else 0) + (if s i then 1 else 0) ≤ (if t i then 1 else 0)) → count_to n r + count_to n s ≤ count_to n t
count-two zero r s t h = omega arith
count-two (suc n) r s t h = omega (arith, count-two n r s t (λ i b. h i (omega (arith, b))), h n (omega arith))

pub count-parts : (n : ℕ) (r s t : ℕ → Bool) → ((i : ℕ) → i < n → (if r i then 1 else 0) + (if s i then 1 else 0) ≡ (if t i then 1 else 0)) → count_to n r + count_to n s ≡ count_to n t
count-parts zero r s t h = refl
count-parts (suc n) r s t h = omega (arith, count-parts n r s t (λ i b. h i (omega (arith, b))), h n (omega arith))

-- a sum over the places that pass, by how many pass before them
pub sum-by_count : (n : ℕ) (t : ℕ → Bool) (f : ℕ → ℤ) → sum_to n (λ i. if t i then f (count_to i t) else pos 0) ≡ sum_to (count_to n t) f
sum-by_count zero t f = refl
sum-by_count (suc n) t f = ap (λ z. z +ℤ (if t n then f (count_to n t) else pos 0)) (sum-by_count n t f) ∙ one (t n) (count_to n t)
  where
    one : (h : Bool) (c : ℕ) → sum_to c f +ℤ (if h then f c else pos 0) ≡ sum_to (c + (if h then 1 else 0)) f
    one true c = ap (λ m. sum_to m f) (let e : suc c ≡ c + 1 = omega arith in e)
    one false c = (let none : sum_to c f +ℤ pos 0 ≡ sum_to c f = omega (arith, linear) in none) ∙ ap (λ m. sum_to m f) (let e : c ≡ c + 0 = omega arith in e)

pub pos-count : (n : ℕ) (t : ℕ → Bool) → pos (count_to n t) ≡ sum_to n (λ i. if t i then pos 1 else pos 0)
pos-count zero t = refl
pos-count (suc n) t = one (t n) (count_to n t) (sum_to n (λ i. if t i then pos 1 else pos 0)) (pos-count n t)
  where
    one : (h : Bool) (c : ℕ) (z : ℤ) → pos c ≡ z → pos (c + (if h then 1 else 0)) ≡ z +ℤ (if h then pos 1 else pos 0)
    one true c z e = omega (arith, ints, e)
    one false c z e = omega (arith, ints, e)

-- all but one place, and that one
pub count-at : (n k : ℕ) (t : ℕ → Bool) → k < n → count_to n t ≡ count_to n (λ i. if i == k then false else t i) + (if t k then 1 else 0)
count-at zero k t b = absurd (omega (arith, b))
count-at (suc n) k t b = elim (cases_eq n k) [
  | inl e ↦
      let others : count_to n (λ i. if i == k then false else t i) ≡ count_to n t = count-same n _ t (λ i l. (let d : i ≢ k = (λ f. omega (arith, f, l, e)) in rw (ne_eqb i k d) refl)) in
      let here : (if n == k then false else t n) ≡ false = rw (eq-eqb n k e) refl in
      ap₂ (λ x y. x + (if y then 1 else 0)) (sym others) (ap t e) ∙ ends (count_to n (λ i. if i == k then false else t i)) (if n == k then false else t n) (if t k then 1 else 0) here
  | inr d ↦
      let here : (if n == k then false else t n) ≡ t n = rw (ne_eqb n k d) refl in
      ap (λ x. x + (if t n then 1 else 0)) (count-at n k t (omega (arith, b, d)))
      ∙ ap (λ s. (count_to n (λ i. if i == k then false else t i) + (if t k then 1 else 0)) + (if s then 1 else 0)) (sym here)
      ∙ turned (count_to n (λ i. if i == k then false else t i)) (if t k then 1 else 0) (if (if n == k then false else t n) then 1 else 0)
]
  where
    ends : (c : ℕ) (s : Bool) (y : ℕ) → s ≡ false → c + y ≡ (c + (if s then 1 else 0)) + y
    ends c s y e = rw e (omega arith)

    turned : (c x y : ℕ) → (c + x) + y ≡ (c + y) + x
    turned c x y = omega arith
