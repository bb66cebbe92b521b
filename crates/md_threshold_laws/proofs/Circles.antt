-- Units that go around a circle: at each draw so many places get one, and each place gets one at so many draws.
use Rattle.std.proofs.Common.{◌≡◌, ℕ, zero, suc, ◌+◌, ◌*◌, ◌%◌, ◌<◌, ◌≤◌, Bool, true, false, ◌==◌, eqb, if◌then◌else◌, ℤ, pos, ◌+ℤ◌, ◌≤ℤ◌, sym, ap, ◌∙◌, subst, arith, inl, inr}
use Rattle.std.proofs.lemmas.Int.{ints}
use Rattle.std.proofs.Math.IntN.{pos-*ℤ-pos}
use native.Mathlib.Nat.{add-mul-mod_self_right}
use Rattle.md_math.specs.Sums.{sum_to}
use Rattle.md_math.proofs.BoundedTests.{true_or_false}
use Rattle.md_math.proofs.Ring.{linear}
use Rattle.md_math.proofs.SumLaws.{sum_to-same, sum_to-zero, sum_to-swap, sum_to-join, sum_to-at_least, sum_to-constant}
use Rattle.md_flow.proofs.AnyBelow.{any_below-place, any_below-false}
use Rattle.md_winners.proofs.Stretches.{picks, picks_in, picks_some, picks-one, picks-wholes, picked-all}
use Rattle.md_threshold_laws.specs.Rule.{comes_to}

chosen-nonneg : (t : Bool) → pos 0 ≤ℤ (if t then pos 1 else pos 0)
chosen-nonneg true = omega (arith, ints)
chosen-nonneg false = omega (arith, ints)

-- of the units that go around the circle one comes to a place, or none
pub comes-picks : (m u d p : ℕ) → p < m → u ≤ m → (if comes_to m u d p then pos 1 else pos 0) ≡ picks_in m p d u
comes-picks m u d p b l = elim (true_or_false (comes_to m u d p)) [
  | inl some ↦ rw some (sym (there some))
  | inr none ↦ rw none (sym (sum_to-zero u (λ j. picks m p (d + j)) (λ j c. ap (λ t. if t then pos 1 else pos 0) (any_below-false u test none j c))))
]
  where
    test : ℕ → Bool
    test unit = (d + unit) % m == p

    both : (s : Bool) (z : ℤ) → z ≡ (if s then pos 1 else pos 0) → pos 1 ≤ℤ z → z ≡ pos 1
    both true z e h = e
    both false z e h = absurd (omega (arith, ints, e, h))

    there : comes_to m u d p ≡ true → picks_in m p d u ≡ pos 1
    there some =
        let (j, c, e) = any_below-place u test some in
        let one : picks m p (d + j) ≡ pos 1 = ap (λ t. if t then pos 1 else pos 0) e in
        let least : picks m p (d + j) ≤ℤ picks_in m p d u = sum_to-at_least u j (λ k. picks m p (d + k)) c (λ k f. chosen-nonneg (eqb ((d + k) % m) p)) in
        both (picks_some m p d (d + u)) (picks_in m p d u) (picks-one m p d u b l) (subst (λ z. z ≤ℤ picks_in m p d u) one least)

-- at a draw as many places get one as there are units
pub places-sum : (m u d : ℕ) → u ≤ m → sum_to m (λ p. if comes_to m u d p then pos 1 else pos 0) ≡ pos u
places-sum zero u d l = ap (λ n. pos n) (let e : 0 ≡ u = omega (arith, l) in e)
places-sum (suc m) u d l = sum_to-same (suc m) _ (λ p. picks_in (suc m) p d u) (λ p b. comes-picks (suc m) u d p b l) ∙ picked-all (suc m) d u (omega arith)

-- of some whole runs of numbers, whatever the first one, a draw picks one each
pub run : (m p c e : ℕ) → p < m → sum_to (c * m) (λ d. picks m p (d + e)) ≡ pos c
run m p c e b =
    let front : sum_to (e + c * m) (picks m p) ≡ sum_to e (picks m p) +ℤ sum_to (c * m) (λ j. picks m p (e + j)) = sum_to-join e (c * m) (picks m p) in
    let back : sum_to (c * m + e) (picks m p) ≡ sum_to (c * m) (picks m p) +ℤ sum_to e (λ j. picks m p (c * m + j)) = sum_to-join (c * m) e (picks m p) in
    let again : sum_to e (λ j. picks m p (c * m + j)) ≡ sum_to e (picks m p) = sum_to-same e _ (picks m p) (λ j l. ap (λ r. if eqb r p then pos 1 else pos 0) (around c j)) in
    let same : sum_to (e + c * m) (picks m p) ≡ sum_to (c * m + e) (picks m p) = ap (λ k. sum_to k (picks m p)) (let f : e + c * m ≡ c * m + e = omega arith in f) in
    let turned : sum_to (c * m) (λ d. picks m p (d + e)) ≡ sum_to (c * m) (λ j. picks m p (e + j)) = sum_to-same (c * m) _ _ (λ j l. ap (picks m p) (let f : j + e ≡ e + j = omega arith in f)) in
    omega (arith, linear, front, back, again, same, turned, picks-wholes m p c b)
  where
    around : (c j : ℕ) → (c * m + j) % m ≡ j % m
    around c j = ap (λ k. k % m) (let f : c * m + j ≡ j + c * m = omega arith in f) ∙ add-mul-mod_self_right j c m

-- each place gets one at so many of the draws
pub draws-sum : (m u p c draws : ℕ) → p < m → u ≤ m → c * m ≡ draws → sum_to draws (λ d. if comes_to m u d p then pos 1 else pos 0) ≡ pos (u * c)
draws-sum m u p c draws b l e =
    ap (λ n. sum_to n (λ d. if comes_to m u d p then pos 1 else pos 0)) (sym e)
    ∙ sum_to-same (c * m) _ (λ d. picks_in m p d u) (λ d h. comes-picks m u d p b l)
    ∙ sum_to-swap (c * m) u (λ d j. picks m p (d + j))
    ∙ sum_to-same u _ (λ _. pos c) (λ j h. run m p c j b)
    ∙ sum_to-constant u (pos c)
    ∙ pos-*ℤ-pos u c
