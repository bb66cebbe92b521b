-- Which draws give a place, and how many they are.
use Rattle.std.proofs.Common.{◌≡◌, ℕ, zero, suc, ◌+◌, ◌<◌, ℤ, pos, ◌≤ℤ◌, ◌<ℤ◌, inl, inr, arith, subst, add-one}
use Rattle.std.specs.Prelude.{◌-ℤ◌, unsigned_abs}
use Rattle.std.proofs.lemmas.Bool.{cases_lt}
use Rattle.std.proofs.lemmas.Int.{ints}
use Rattle.md_math.specs.Sums.{sum_to}
use Rattle.md_math.proofs.Prefixes.{sum_to-prefix}
use Rattle.md_math.proofs.SumLaws.{sum_to-more, sum_to-same, sum_to-nonneg}
use Rattle.md_run.specs.Counting.{HasCountBelow}
use Rattle.md_run.specs.Lottery.{IsDrawnPlace, IsNoPlace}
use Rattle.md_run.proofs.CountingLaws.{interval, below-end}

-- ---- one place

-- a draw gives the place where it is no less than the chances before, and less than with its own
pub drawn-between : (n k : ℕ) (f : ℕ → ℤ) (d : ℤ) → ((j : ℕ) → j < n → pos 0 ≤ℤ f j) → k < n → sum_to k f ≤ℤ d → d <ℤ sum_to (k + 1) f → IsDrawnPlace n f d k
drawn-between n k f d p b l u = record {
  below = b;
  passes = u;
  before = λ j m. omega (arith, ints, l, sum_to-prefix k (j + 1) f (omega arith) (λ i c. p i (omega arith)));
}

pub drawn-from : (n k : ℕ) (f : ℕ → ℤ) (d : ℤ) → pos 0 ≤ℤ d → IsDrawnPlace n f d k → sum_to k f ≤ℤ d
drawn-from n zero f d z h = z
drawn-from n (suc k) f d z h = subst (λ m. sum_to m f ≤ℤ d) (add-one k) (h.before k (omega arith))

pub none-from : (n : ℕ) (f : ℕ → ℤ) (d : ℤ) → pos 0 ≤ℤ d → IsNoPlace n f d → sum_to n f ≤ℤ d
none-from zero f d z h = z
none-from (suc n) f d z h = subst (λ m. sum_to m f ≤ℤ d) (add-one n) (h.at n (omega arith))

pub none-above : (n : ℕ) (f : ℕ → ℤ) (d : ℤ) → ((j : ℕ) → j < n → pos 0 ≤ℤ f j) → sum_to n f ≤ℤ d → IsNoPlace n f d
none-above n f d p l = record { at = λ j b. omega (arith, ints, l, sum_to-prefix n (j + 1) f (omega arith) p) }

-- ---- there is at most one

passed : (a d : ℤ) → d <ℤ a → a ≤ℤ d → ⊥
passed a d l m = omega (arith, ints, l, m)

pub drawn-same_place : (n k l : ℕ) (f : ℕ → ℤ) (d : ℤ) → IsDrawnPlace n f d k → IsDrawnPlace n f d l → k ≡ l
drawn-same_place n k l f d h g =
    elim (cases_lt k l) [
      | inl b ↦ absurd (passed (sum_to (k + 1) f) d h.passes (g.before k b))
      | inr b ↦
          elim (cases_lt l k) [
            | inl c ↦ absurd (passed (sum_to (l + 1) f) d g.passes (h.before l c))
            | inr c ↦ omega arith
          ]
    ]

pub drawn-not_none : (n k : ℕ) (f : ℕ → ℤ) (d : ℤ) → IsDrawnPlace n f d k → IsNoPlace n f d → ⊥
drawn-not_none n k f d h g = passed (sum_to (k + 1) f) d h.passes (g.at k h.below)

-- ---- by the same chances

pub drawn-by_same : (n k : ℕ) (f g : ℕ → ℤ) (d : ℤ) → ((j : ℕ) → j < n → f j ≡ g j) → IsDrawnPlace n f d k → IsDrawnPlace n g d k
drawn-by_same n k f g d e h =
    let b : k < n = h.below in record {
      below = b;
      passes = subst (λ z. d <ℤ z) (sum_to-same (k + 1) f g (λ j l. e j (omega arith))) h.passes;
      before = λ j m. subst (λ z. z ≤ℤ d) (sum_to-same (j + 1) f g (λ i l. e i (omega arith))) (h.before j m);
    }

pub none-by_same : (n : ℕ) (f g : ℕ → ℤ) (d : ℤ) → ((j : ℕ) → j < n → f j ≡ g j) → IsNoPlace n f d → IsNoPlace n g d
none-by_same n f g d e h = record { at = λ j b. subst (λ z. z ≤ℤ d) (sum_to-same (j + 1) f g (λ i l. e i (omega arith))) (h.at j b) }

-- ---- how many draws give a place

-- a number that is not negative
pub size : (z : ℤ) → pos 0 ≤ℤ z → pos (unsigned_abs z) ≡ z
size z h = omega (arith, ints, h)

pub drawn-count : (n k : ℕ) (f : ℕ → ℤ) (whole : ℤ) → ((j : ℕ) → j < n → pos 0 ≤ℤ f j) → k < n → sum_to n f ≤ℤ whole
    → HasCountBelow (unsigned_abs whole) (λ d. IsDrawnPlace n f (pos d) k) (unsigned_abs (f k))
drawn-count n k f whole p b w =
    let start : pos 0 ≤ℤ sum_to k f = sum_to-nonneg k f (λ j l. p j (omega arith)) in
    let more = sum_to-more k f in
    let end : sum_to (k + 1) f ≤ℤ sum_to n f = sum_to-prefix n (k + 1) f (omega arith) p in
    let from : pos (unsigned_abs (sum_to k f)) ≡ sum_to k f = size (sum_to k f) start in
    let own : pos (unsigned_abs (f k)) ≡ f k = size (f k) (p k b) in
    let all : pos (unsigned_abs whole) ≡ whole = size whole (omega (arith, ints, start, more, end, w, p k b)) in
    interval _ (unsigned_abs whole) (unsigned_abs (sum_to k f)) (unsigned_abs (f k))
    (omega (arith, ints, more, end, w, from, own, all))
    (λ d l u. drawn-between n k f (pos d) p b (omega (arith, ints, from, l)) (omega (arith, ints, from, own, more, u)))
    (λ d h. (omega (arith, ints, from, drawn-from n k f (pos d) (natural d) h), omega (arith, ints, from, own, more, h.passes)))
  where
    natural : (d : ℕ) → pos 0 ≤ℤ pos d
    natural d = omega (arith, ints)

pub none-count : (n : ℕ) (f : ℕ → ℤ) (whole : ℤ) → ((j : ℕ) → j < n → pos 0 ≤ℤ f j) → sum_to n f ≤ℤ whole
    → HasCountBelow (unsigned_abs whole) (λ d. IsNoPlace n f (pos d)) (unsigned_abs (whole -ℤ sum_to n f))
none-count n f whole p w =
    let start : pos 0 ≤ℤ sum_to n f = sum_to-nonneg n f p in
    let from : pos (unsigned_abs (sum_to n f)) ≡ sum_to n f = size (sum_to n f) start in
    let left : pos (unsigned_abs (whole -ℤ sum_to n f)) ≡ whole -ℤ sum_to n f = size (whole -ℤ sum_to n f) (omega (arith, ints, w)) in
    let all : pos (unsigned_abs whole) ≡ whole = size whole (omega (arith, ints, start, w)) in
    let whole_is : unsigned_abs (sum_to n f) + unsigned_abs (whole -ℤ sum_to n f) ≡ unsigned_abs whole = omega (arith, ints, from, left, all) in
    below-end (λ d. IsNoPlace n f (pos d)) (unsigned_abs whole) (unsigned_abs (sum_to n f)) (unsigned_abs (whole -ℤ sum_to n f)) whole_is
    (λ d l. none-above n f (pos d) p (omega (arith, ints, from, l)))
    (λ d h. omega (arith, ints, from, none-from n f (pos d) (natural d) h))
  where
    natural : (d : ℕ) → pos 0 ≤ℤ pos d
    natural d = omega (arith, ints)
