-- How many sets are different.
use Rattle.std.proofs.Common.{◌≡◌, ◌≢◌, ℕ, zero, suc, ◌<◌, ◌≤◌, ◌^◌, true, false, List, [], ◌∷◌, length, eqb, arith, inl, inr}
use Rattle.std.specs.Prelude.{slice_index}
use Rattle.std.specs.List.{AllByRecursion, IsDistinct, list_any}
use Rattle.std.proofs.lemmas.Bool.{cases_Bool}
use Rattle.std.proofs.lemmas.Bool.Decides.{nat_tests}
use Rattle.std.proofs.lemmas.Map.Steps.{length-le_from_distinct_below}
use Rattle.std.proofs.Math.Nat.{pow-le-pow_right}
use Rattle.md_lp.specs.Cuts.{AreCuts}

others-differ : (x : ℕ) (xs : List ℕ) → ((k : ℕ) → k < length xs → x ≢ slice_index xs k) → AllByRecursion (λ y. eqb x y ≡ false) xs
others-differ x [] h = tt
others-differ x (y ∷ ys) h = (
  let here : x ≢ y = h 0 (omega arith) in
      (let other : eqb x y ≡ false = grind (arith, nat_tests) in other),
  others-differ x ys (λ k b. h (suc k) (omega (arith, b))),
)

all-differ : (xs : List ℕ) → ((j k : ℕ) → j < k → k < length xs → slice_index xs j ≢ slice_index xs k) → IsDistinct eqb xs
unfolding IsDistinct
all-differ [] h = tt
all-differ (x ∷ xs) h = (
  others-differ x xs (λ k b. h 0 (suc k) (omega arith) (omega (arith, b))),
  all-differ xs (λ j k l b. h (suc j) (suc k) (omega (arith, l)) (omega (arith, b))),
)

one-below : (xs : List ℕ) (n q : ℕ) → ((k : ℕ) → k < length xs → slice_index xs k < n) → list_any (eqb q) xs ≡ true → q < n
one-below [] n q h has = cc
one-below (x ∷ xs) n q h has = elim (cases_Bool (eqb q x)) [
  | inl t ↦ (let same : q ≡ x = grind (arith, nat_tests) in let below : x < n = h 0 (omega arith) in omega (arith, same, below))
  | inr f ↦ one-below xs n q (λ k b. h (suc k) (omega (arith, b))) (rw f at has)
]

-- the empty set and some cuts are different sets
with-empty : (kinds : ℕ) (cuts : List ℕ) → AreCuts kinds cuts → (j k : ℕ) → j < k → k < length (0 ∷ cuts) → slice_index (0 ∷ cuts) j ≢ slice_index (0 ∷ cuts) k
with-empty kinds cuts are zero zero l b same = absurd (omega (arith, l))
with-empty kinds cuts are zero (suc k) l b same = (let some : 1 ≤ slice_index cuts k = are.some k (omega (arith, b)) in omega (arith, some, same))
with-empty kinds cuts are (suc j) zero l b same = absurd (omega (arith, l))
with-empty kinds cuts are (suc j) (suc k) l b same = are.distinct j k (omega (arith, l)) (omega (arith, b)) same

below-all : (kinds : ℕ) (cuts : List ℕ) → AreCuts kinds cuts → (k : ℕ) → k < length (0 ∷ cuts) → slice_index (0 ∷ cuts) k < 2 ^ kinds
below-all kinds cuts are zero b = (let one : 1 ≤ 2 ^ kinds = pow-le-pow_right {n = 2} (omega arith) {i = 0} {j = kinds} (omega arith) in omega (arith, one))
below-all kinds cuts are (suc k) b = are.inside k (omega (arith, b))

-- cuts are fewer than there are sets, since none of them is empty
pub cuts-fewer : (kinds : ℕ) (cuts : List ℕ) → AreCuts kinds cuts → length cuts < 2 ^ kinds
cuts-fewer kinds cuts are =
    let most : length (0 ∷ cuts) ≤ 2 ^ kinds = length-le_from_distinct_below (0 ∷ cuts) (2 ^ kinds) (all-differ (0 ∷ cuts) (with-empty kinds cuts are))
    (λ q has. one-below (0 ∷ cuts) (2 ^ kinds) q (below-all kinds cuts are) has) in
    omega (arith, most)

pub cuts-at_most : (kinds : ℕ) (sets : List ℕ) → AreCuts kinds sets → kinds ≤ 12 → length sets ≤ 4096
cuts-at_most kinds sets h few =
    let most : 2 ^ kinds ≤ 2 ^ 12 = pow-le-pow_right {n = 2} (omega arith) {i = kinds} {j = 12} few in
    omega (arith, cuts-fewer kinds sets h, most)
