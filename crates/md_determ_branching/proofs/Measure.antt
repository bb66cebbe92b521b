-- How many nodes may still be visited: one less after a branch, and less after a node is left.
use Rattle.std.proofs.Common.{◌≡◌, ◌≢◌, ℕ, zero, suc, ◌+◌, ◌-◌, ◌*◌, ◌<◌, ◌≤◌, List, Option, [], ◌∷◌, ◌++◌, length, get_or, drop, refl, ap, ap₂, arith}
use Rattle.std.specs.List.{sum_by}
use Rattle.std.proofs.lemmas.List.Sums.{sum_by-cons, sum_by-append, sum_by_push}
use Rattle.std.proofs.Math.Nat.{suc-mul}
use Rattle.md_math.specs.Lists.{list_to}
use Rattle.md_determ_branching.specs.Fixed.{with_fixed, IsFree, free_count, children_of}
use Rattle.md_determ_branching.specs.Tour.{Tour, current_of, rest_of, tree_size, nodes_below, left_of}
use Rattle.md_determ_branching.proofs.Laws.{free_count-child}

-- a sum of n numbers that are the same
sum_by-same : {X : Type 0} (f : X → ℕ) (n : ℕ) (g : ℕ → X) (c : ℕ) → ((k : ℕ) → f (g k) ≡ c) → sum_by f (list_to n g) ≡ n * c
sum_by-same f zero g c h = omega arith
sum_by-same f (suc n) g c h = omega (arith, sum_by_push f (list_to n g) (g n), sum_by-same f n g c h, h n, suc-mul n c)

pub tree_size-some : (outcomes free : ℕ) → 1 ≤ tree_size outcomes free
tree_size-some outcomes zero = omega arith
tree_size-some outcomes (suc free) = omega arith

pub tree_size-more : (outcomes less free : ℕ) → less + 1 ≡ free → tree_size outcomes free ≡ 1 + outcomes * tree_size outcomes less
tree_size-more outcomes less zero e = absurd (omega arith)
tree_size-more outcomes less (suc free) e =
    let same : free ≡ less = omega arith in
    ap (λ n. 1 + outcomes * tree_size outcomes n) same

pub nodes_below-cons : (outcomes : ℕ) (node : List (Option ℕ)) (rest : List (List (Option ℕ))) → nodes_below outcomes (node ∷ rest) ≡ tree_size outcomes (free_count node) + nodes_below outcomes rest
nodes_below-cons outcomes node rest = sum_by-cons (λ n. tree_size outcomes (free_count n)) node rest

-- the children of a node have one node less below them
pub nodes_below-children : (outcomes : ℕ) (fixed : List (Option ℕ)) (rank : ℕ) → IsFree fixed rank → nodes_below outcomes (children_of outcomes fixed rank) + 1 ≡ tree_size outcomes (free_count fixed)
nodes_below-children outcomes fixed rank h =
    let less : free_count fixed - 1 + 1 ≡ free_count fixed = omega (arith, free_count-child fixed rank 0 h) in
    let child = λ (k : ℕ). (let e : free_count (with_fixed fixed rank k) ≡ free_count fixed - 1 = omega (arith, free_count-child fixed rank k h) in ap (tree_size outcomes) e) in
    let sum = sum_by-same (λ n. tree_size outcomes (free_count n)) outcomes (with_fixed fixed rank) (tree_size outcomes (free_count fixed - 1)) child in
    omega (arith, sum, tree_size-more outcomes (free_count fixed - 1) (free_count fixed) less)

-- ---- tours

-- where the node that is visited has a rank, it is the first of the open nodes
pub opens-current : (tour : Tour) (rank : ℕ) → rank < length (current_of tour) → tour.opens ≡ current_of tour ∷ rest_of tour
opens-current tour rank b = at tour.opens b
  where
    at : (opens : List (List (Option ℕ))) → rank < length (get_or opens 0 []) → opens ≡ get_or opens 0 [] ∷ drop 1 opens
    at [] b = absurd (omega arith)
    at (node ∷ rest) b = refl

pub opens-first : (tour : Tour) → tour.opens ≢ [] → tour.opens ≡ current_of tour ∷ rest_of tour
opens-first tour h = at tour.opens h
  where
    at : (opens : List (List (Option ℕ))) → opens ≢ [] → opens ≡ get_or opens 0 [] ∷ drop 1 opens
    at [] h = absurd (h refl)
    at (node ∷ rest) h = refl

-- after a branch
pub left-branched : (tour : Tour) (rank : ℕ) → IsFree (current_of tour) rank → nodes_below tour.outcomes (children_of tour.outcomes (current_of tour) rank ++ rest_of tour) + 1 ≡ left_of tour
left-branched tour rank h =
    let first = ap (nodes_below tour.outcomes) (opens-current tour rank h.below) in
    omega (arith, first, nodes_below-cons tour.outcomes (current_of tour) (rest_of tour), nodes_below-children tour.outcomes (current_of tour) rank h, sum_by-append (λ n. tree_size tour.outcomes (free_count n)) (children_of tour.outcomes (current_of tour) rank) (rest_of tour))

-- after the node was left
pub left-less : (tour : Tour) → tour.opens ≢ [] → nodes_below tour.outcomes (rest_of tour) + 1 ≤ left_of tour
left-less tour h =
    let first = ap (nodes_below tour.outcomes) (opens-first tour h) in
    omega (arith, first, nodes_below-cons tour.outcomes (current_of tour) (rest_of tour), tree_size-some tour.outcomes (free_count (current_of tour)))

pub left-after_branch : (outcomes : ℕ) (opens : List (List (Option ℕ))) (tour : Tour) (rank : ℕ) → outcomes ≡ tour.outcomes → opens ≡ children_of tour.outcomes (current_of tour) rank ++ rest_of tour → IsFree (current_of tour) rank → nodes_below outcomes opens + 1 ≡ left_of tour
left-after_branch outcomes opens tour rank same are h = omega (arith, left-branched tour rank h, ap₂ nodes_below same are)

pub left-after_leave : (outcomes : ℕ) (opens : List (List (Option ℕ))) (tour : Tour) → outcomes ≡ tour.outcomes → opens ≡ rest_of tour → tour.opens ≢ [] → nodes_below outcomes opens + 1 ≤ left_of tour
left-after_leave outcomes opens tour same are h = omega (arith, left-less tour h, ap₂ nodes_below same are)
