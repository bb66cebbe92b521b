-- What a path changes: the sums of nodes and demands, and single amounts.
use Rattle.std.proofs.Common.{◌≡◌, ℕ, zero, suc, ◌+◌, ◌<◌, ◌≤◌, ℤ, pos, ◌+ℤ◌, ◌-ℤ◌, ◌≤ℤ◌, inl, inr, Bool, true, false, ◌&&◌, ◌==◌, if◌then◌else◌, refl, sym, ◌∙◌, arith, eqb-true, eq-eqb, ne_eqb}
use Rattle.std.proofs.lemmas.Bool.{cases_eq}
use Rattle.std.proofs.lemmas.Int.{ints}
use Rattle.md_math.proofs.Ring.{linear}
use Rattle.md_math.proofs.SumLaws.{sum_to-same, sum_to-le, sum_to-+ℤ, sum_to-zero, sum_to-swap, sum_to-sub, sum_to-at, sum_to-nonneg, sum_to-at_least, sum_to-front}
use Rattle.md_math.specs.Sums.{sum_to}
use Rattle.md_math.proofs.BoundedTests.{and-left, and-right, and-both, search_below}
use Rattle.md_math.proofs.Order.{chosen, chosen-nonneg}
use Rattle.md_flow.specs.Flows.{given_by, got_by}
use Rattle.md_flow.specs.Paths.{amount_at_pairs, IsShifted}

-- an amount where two tests hold
both_tests : (p q : Bool) (z : ℤ) → (if p && q then z else pos 0) ≡ (if q then (if p then z else pos 0) else pos 0)
both_tests true true z = refl
both_tests true false z = refl
both_tests false true z = refl
both_tests false false z = refl

-- the same test with its sides exchanged
same_test : (i j : ℕ) (z : ℤ) → (if i == j then z else pos 0) ≡ (if j == i then z else pos 0)
same_test i j z =
    elim (cases_eq i j) [
      | inl e ↦ rw (eq-eqb i j e, eq-eqb j i (sym e)) refl
      | inr d ↦ rw (ne_eqb i j d, ne_eqb j i (λ e. d (sym e))) refl
    ]

-- over all demands, the pairs of a node
pub pairs-given : (n m : ℕ) (nodes demands : ℕ → ℕ) (amount : ℤ) (u : ℕ) → ((j : ℕ) → j < n → demands j < m) →
    sum_to m (λ d. amount_at_pairs n nodes demands amount u d) ≡ sum_to n (λ j. if nodes j == u then amount else pos 0)
pairs-given n m nodes demands amount u inside =
    sum_to-swap m n (λ d j. if nodes j == u && demands j == d then amount else pos 0)
    ∙ sum_to-same n _ _ (λ j b. row j b)
  where
    row : (j : ℕ) → j < n → sum_to m (λ d. if nodes j == u && demands j == d then amount else pos 0) ≡ (if nodes j == u then amount else pos 0)
    row j b =
        sum_to-same m _ (λ d. if d == demands j then (if nodes j == u then amount else pos 0) else pos 0) (λ d c. both_tests (nodes j == u) (demands j == d) amount ∙ same_test (demands j) d (if nodes j == u then amount else pos 0))
        ∙ sum_to-at m (demands j) (λ d. if nodes j == u then amount else pos 0) (inside j b)

-- over all nodes, the pairs of a demand
pub pairs-got : (n m : ℕ) (nodes demands : ℕ → ℕ) (amount : ℤ) (d : ℕ) → ((j : ℕ) → j < n → nodes j < m) →
    sum_to m (λ u. amount_at_pairs n nodes demands amount u d) ≡ sum_to n (λ j. if demands j == d then amount else pos 0)
pairs-got n m nodes demands amount d inside =
    sum_to-swap m n (λ u j. if nodes j == u && demands j == d then amount else pos 0)
    ∙ sum_to-same n _ _ (λ j b. row j b)
  where
    swap_tests : (p q : Bool) (z : ℤ) → (if p && q then z else pos 0) ≡ (if p then (if q then z else pos 0) else pos 0)
    swap_tests true q z = refl
    swap_tests false q z = refl

    row : (j : ℕ) → j < n → sum_to m (λ u. if nodes j == u && demands j == d then amount else pos 0) ≡ (if demands j == d then amount else pos 0)
    row j b =
        sum_to-same m _ (λ u. if u == nodes j then (if demands j == d then amount else pos 0) else pos 0) (λ u c. swap_tests (nodes j == u) (demands j == d) amount ∙ same_test (nodes j) u (if demands j == d then amount else pos 0))
        ∙ sum_to-at m (nodes j) (λ u. if demands j == d then amount else pos 0) (inside j b)

record IsInside (n m last : ℕ) (nodes demands : ℕ → ℕ) : Type 0 where
  pub nodes_in : (j : ℕ) → j ≤ last → nodes j < n
  pub demands_in : (j : ℕ) → j ≤ last → demands j < m

-- only the first node gives more
pub given-shifted : (n m last : ℕ) (nodes demands : ℕ → ℕ) (amount : ℤ) (x y : ℕ → ℕ → ℤ) (u : ℕ) → IsShifted n m last nodes demands amount x y → ((j : ℕ) → j ≤ last → demands j < m) → u < n →
    given_by m y u ≡ given_by m x u +ℤ (if nodes 0 == u then amount else pos 0)
given-shifted n m last nodes demands amount x y u h inside b =
    let cells : given_by m y u ≡ sum_to m (λ d. x u d +ℤ amount_at_pairs (suc last) nodes demands amount u d -ℤ amount_at_pairs last (λ j. nodes (j + 1)) demands amount u d) = sum_to-same m _ _ (λ d c. h.at u d b c) in
    let first = sum_to-sub m (λ d. x u d +ℤ amount_at_pairs (suc last) nodes demands amount u d) (λ d. amount_at_pairs last (λ j. nodes (j + 1)) demands amount u d) in
    let second = sum_to-+ℤ m (λ d. x u d) (λ d. amount_at_pairs (suc last) nodes demands amount u d) in
    let more = pairs-given (suc last) m nodes demands amount u (λ j l. inside j (omega arith)) in
    let less = pairs-given last m (λ j. nodes (j + 1)) demands amount u (λ j l. inside j (omega arith)) in
    let front = sum_to-front last (λ j. if nodes j == u then amount else pos 0) in
    omega (arith, linear, cells, first, second, more, less, front)

-- only the last demand gets more
pub got-shifted : (n m last : ℕ) (nodes demands : ℕ → ℕ) (amount : ℤ) (x y : ℕ → ℕ → ℤ) (d : ℕ) → IsShifted n m last nodes demands amount x y → ((j : ℕ) → j ≤ last → nodes j < n) → d < m →
    got_by n y d ≡ got_by n x d +ℤ (if demands last == d then amount else pos 0)
got-shifted n m last nodes demands amount x y d h inside b =
    let cells : got_by n y d ≡ sum_to n (λ u. x u d +ℤ amount_at_pairs (suc last) nodes demands amount u d -ℤ amount_at_pairs last (λ j. nodes (j + 1)) demands amount u d) = sum_to-same n _ _ (λ u c. h.at u d c b) in
    let first = sum_to-sub n (λ u. x u d +ℤ amount_at_pairs (suc last) nodes demands amount u d) (λ u. amount_at_pairs last (λ j. nodes (j + 1)) demands amount u d) in
    let second = sum_to-+ℤ n (λ u. x u d) (λ u. amount_at_pairs (suc last) nodes demands amount u d) in
    let more = pairs-got (suc last) n nodes demands amount d (λ j l. inside j (omega arith)) in
    let less = pairs-got last n (λ j. nodes (j + 1)) demands amount d (λ j l. inside (j + 1) (omega arith)) in
    omega (arith, linear, cells, first, second, more, less)

-- ---- single amounts

-- where no pair stands nothing is added
pub pairs-none : (n : ℕ) (nodes demands : ℕ → ℕ) (amount : ℤ) (u d : ℕ) → ((j : ℕ) → j < n → nodes j ≡ u → demands j ≡ d → ⊥) → amount_at_pairs n nodes demands amount u d ≡ pos 0
pairs-none n nodes demands amount u d none = sum_to-zero n _ (λ j b. at j b (nodes j == u && demands j == d) refl)
  where
    at : (j : ℕ) → j < n → (t : Bool) → (nodes j == u && demands j == d) ≡ t → (if t then amount else pos 0) ≡ pos 0
    at j b true e = absurd (none j b (eqb-true (nodes j) u (and-left (nodes j == u) (demands j == d) e)) (eqb-true (demands j) d (and-right (nodes j == u) (demands j == d) e)))
    at j b false e = refl

pub pairs-nonneg : (n : ℕ) (nodes demands : ℕ → ℕ) (amount : ℤ) (u d : ℕ) → pos 0 ≤ℤ amount → pos 0 ≤ℤ amount_at_pairs n nodes demands amount u d
pairs-nonneg n nodes demands amount u d h = sum_to-nonneg n _ (λ j b. at (nodes j == u && demands j == d))
  where
    at : (t : Bool) → pos 0 ≤ℤ (if t then amount else pos 0)
    at true = h
    at false = omega (arith, linear)

-- a pair that stands there adds the amount at least
pub pairs-here : (n : ℕ) (nodes demands : ℕ → ℕ) (amount : ℤ) (j : ℕ) → j < n → pos 0 ≤ℤ amount → amount ≤ℤ amount_at_pairs n nodes demands amount (nodes j) (demands j)
pairs-here n nodes demands amount j b h =
    let least = sum_to-at_least n j (λ i. if nodes i == nodes j && demands i == demands j then amount else pos 0) b (λ i c. at (nodes i == nodes j && demands i == demands j)) in
    let value : (if nodes j == nodes j && demands j == demands j then amount else pos 0) ≡ amount = chosen (nodes j == nodes j && demands j == demands j) amount (pos 0) (and-both (nodes j == nodes j) (demands j == demands j) (eq-eqb (nodes j) (nodes j) refl) (eq-eqb (demands j) (demands j) refl)) in
    omega (arith, linear, least, value)
  where
    at : (t : Bool) → pos 0 ≤ℤ (if t then amount else pos 0)
    at true = h
    at false = omega (arith, linear)

-- where a node stands once at most, no more than the amount is added
pub pairs-most : (n k : ℕ) (nodes demands : ℕ → ℕ) (amount : ℤ) (u d : ℕ) → k < n → pos 0 ≤ℤ amount → ((j : ℕ) → j < n → nodes j ≡ u → j ≡ k) → amount_at_pairs n nodes demands amount u d ≤ℤ amount
pairs-most n k nodes demands amount u d b h once =
    let most = sum_to-le n (λ j. if nodes j == u && demands j == d then amount else pos 0) (λ j. if j == k then amount else pos 0) (λ j c. at j c (nodes j == u && demands j == d) refl) in
    omega (arith, linear, most, sum_to-at n k (λ _. amount) b)
  where
    at : (j : ℕ) → j < n → (t : Bool) → (nodes j == u && demands j == d) ≡ t → (if t then amount else pos 0) ≤ℤ (if j == k then amount else pos 0)
    at j c true e =
        let same : j ≡ k = once j c (eqb-true (nodes j) u (and-left (nodes j == u) (demands j == d) e)) in
        let here : (if j == k then amount else pos 0) ≡ amount = chosen (j == k) amount (pos 0) (eq-eqb j k same) in
        omega (arith, linear, here)
    at j c false e = chosen-nonneg (j == k) amount h

pub ones : (n : ℕ) → sum_to n (λ _. pos 1) ≡ pos n
ones zero = refl
ones (suc n) = omega (arith, ints, ones n)

-- different numbers below a bound are no more than the bound
pub places-few : (k n : ℕ) (f : ℕ → ℕ) → ((j : ℕ) → j < k → f j < n) → ((i j : ℕ) → i < k → j < k → f i ≡ f j → i ≡ j) → k ≤ n
places-few k n f inside apart =
    let all : sum_to n (λ u. amount_at_pairs k f (λ _. 0) (pos 1) u 0) ≡ sum_to k (λ _. pos 1) = pairs-got k n f (λ _. 0) (pos 1) 0 inside in
    let each = sum_to-le n (λ u. amount_at_pairs k f (λ _. 0) (pos 1) u 0) (λ _. pos 1) (λ u b. once u) in
    omega (arith, ints, all, each, ones k, ones n)
  where
    apart_from : (u j : ℕ) → f j ≡ u → (f j == u) ≡ false → ⊥
    apart_from u j p e = (let s : (f j == u) ≡ true = eq-eqb (f j) u p in cc)

    once : (u : ℕ) → amount_at_pairs k f (λ _. 0) (pos 1) u 0 ≤ℤ pos 1
    once u = elim (search_below k (λ j. f j == u)) [
      | inl w ↦ pairs-most k w.0 f (λ _. 0) (pos 1) u 0 w.1 (omega (arith, ints)) (λ j b e. apart j w.0 b w.1 (e ∙ sym (eqb-true (f w.0) u w.2)))
      | inr none ↦ (let e = pairs-none k f (λ _. 0) (pos 1) u 0 (λ j b p _. apart_from u j p (none j b)) in omega (arith, ints, e))
    ]
