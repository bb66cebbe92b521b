-- A number that no new label raises, and that each step makes smaller.
use Rattle.std.proofs.Common.{◌≡◌, ◌≢◌, ℕ, zero, suc, ◌+◌, ◌-◌, ◌*◌, ◌<◌, ◌≤◌, ℤ, pos, negsuc, ◌+ℤ◌, ◌-ℤ◌, ◌*ℤ◌, ◌≤ℤ◌, ◌<ℤ◌, ◌⊎◌, inl, inr, Bool, true, false, ◌==◌, if◌then◌else◌, List, unsigned_abs, refl, sym, ap, ◌∙◌, arith, eq-eqb}
use Rattle.std.proofs.lemmas.Bool.{cases_eq}
use Rattle.std.proofs.lemmas.Int.{ints, by_lt_z}
use Rattle.md_math.proofs.Ring.{linear, *ℤ-one, *ℤ-zero, *ℤ-+ℤ}
use lib.IntN.{*ℤ_comm}
use Rattle.md_math.proofs.Order.{*ℤ-le, nonneg-*ℤ, chosen-nonneg, ≤ℤ_antisymm}
use Rattle.md_math.proofs.SumLaws.{sum_to-same, sum_to-le, sum_to-nonneg, sum_to-*ℤ, sum_to-less}
use Rattle.md_math.specs.Sums.{sum_to}
use Rattle.md_flow.specs.Network.{Network, node_count, demand_count, room_of}
use Rattle.md_flow.specs.Labels.{spare_at, lack_at, label_at, AreLabels, AreRaised}
use Rattle.md_flow.specs.Paths.{IsLevelled, node_at, demand_at, last_of, room_left, amount_before}
use Rattle.md_flow.specs.Potential.{span_of, uses, pair_uses, potential}
use Rattle.md_flow.specs.Costs.{is_positive, one_if, pair_count, vertex_count, edge_count}
use Rattle.md_flow.proofs.PathLaws.{ones, places-few, pairs-here}
use Rattle.md_flow.proofs.StepLaws.{level_of_node, IsStep, added-none, taken-none, spare-after, lack-after, amount-less, amount-more}

is_positive-true : (z : ℤ) → pos 0 <ℤ z → is_positive z ≡ true
unfolding is_positive
is_positive-true (pos zero) h = absurd (omega (arith, ints, h))
is_positive-true (pos (suc n)) h = refl
is_positive-true (negsuc n) h = absurd (omega (arith, ints, h))

is_positive-false : (z : ℤ) → z ≤ℤ pos 0 → is_positive z ≡ false
unfolding is_positive
is_positive-false (pos zero) h = refl
is_positive-false (pos (suc n)) h = absurd (omega (arith, ints, h))
is_positive-false (negsuc n) h = refl

pub one_if-positive : (z : ℤ) → pos 0 <ℤ z → one_if z ≡ pos 1
unfolding one_if
one_if-positive z h = rw (is_positive-true z h) refl

pub one_if-other : (z : ℤ) → z ≤ℤ pos 0 → one_if z ≡ pos 0
unfolding one_if
one_if-other z h = rw (is_positive-false z h) refl

one_if-nonneg : (z : ℤ) → pos 0 ≤ℤ one_if z
one_if-nonneg z = by_lt_z (pos 0) z (λ l. (let e = one_if-positive z l in omega (arith, ints, e))) (λ l. (let e = one_if-other z l in omega (arith, ints, e)))

pub one_if-most : (z : ℤ) → one_if z ≤ℤ pos 1
one_if-most z = by_lt_z (pos 0) z (λ l. (let e = one_if-positive z l in omega (arith, ints, e))) (λ l. (let e = one_if-other z l in omega (arith, ints, e)))

one_if-le : (y z : ℤ) → y ≤ℤ z → one_if y ≤ℤ one_if z
one_if-le y z h =
    by_lt_z (pos 0) z
    (λ l. (let e = one_if-positive z l in let m = one_if-most y in omega (arith, ints, e, m)))
    (λ l. (let e = one_if-other y (omega (arith, linear)) in let m = one_if-nonneg z in omega (arith, ints, e, m)))

-- ---- the uses of an edge

uses-left : (z : ℤ) (most label later : ℕ) → pos 0 <ℤ z → uses z most label later ≡ pos (most - label)
unfolding uses
uses-left z most label later h = rw (is_positive-true z h) refl

uses-none : (z : ℤ) (most label later : ℕ) → z ≤ℤ pos 0 → uses z most label later ≡ pos (most - later)
unfolding uses
uses-none z most label later h = rw (is_positive-false z h) refl

uses-nonneg : (z : ℤ) (most label later : ℕ) → pos 0 ≤ℤ uses z most label later
uses-nonneg z most label later = by_lt_z (pos 0) z (λ l. (let e = uses-left z most label later l in omega (arith, ints, e))) (λ l. (let e = uses-none z most label later l in omega (arith, ints, e)))

uses-most : (z : ℤ) (most label later : ℕ) → uses z most label later ≤ℤ pos most
uses-most z most label later = by_lt_z (pos 0) z (λ l. (let e = uses-left z most label later l in omega (arith, ints, e))) (λ l. (let e = uses-none z most label later l in omega (arith, ints, e)))

-- with labels that are not smaller
uses-raised : (z : ℤ) (most label later label' later' : ℕ) → label ≤ label' → later ≤ later' → uses z most label' later' ≤ℤ uses z most label later
uses-raised z most label later label' later' h k =
    by_lt_z (pos 0) z
    (λ l. (let e = uses-left z most label later l in let f = uses-left z most label' later' l in omega (arith, ints, e, f)))
    (λ l. (let e = uses-none z most label later l in let f = uses-none z most label' later' l in omega (arith, ints, e, f)))

-- with less left, where the later label is not smaller
uses-less : (y z : ℤ) (most label later : ℕ) → y ≤ℤ z → label ≤ later → uses y most label later ≤ℤ uses z most label later
uses-less y z most label later h k =
    by_lt_z (pos 0) y
    (λ l. (let e = uses-left y most label later l in let f = uses-left z most label later (omega (arith, linear)) in omega (arith, ints, e, f)))
    (λ l. (let e = uses-none y most label later l in
    by_lt_z (pos 0) z
    (λ m. (let f = uses-left z most label later m in omega (arith, ints, e, f)))
    (λ m. (let f = uses-none z most label later m in omega (arith, ints, e, f)))))

-- with anything left, where the two labels are the same
uses-level : (y z : ℤ) (most label later : ℕ) → label ≡ later → uses y most label later ≤ℤ uses z most label later
uses-level y z most label later h = (let e = at y in let f = at z in omega (arith, ints, e, f))
  where
    at : (z : ℤ) → uses z most label later ≡ pos (most - label)
    at z = by_lt_z (pos 0) z (λ l. uses-left z most label later l) (λ l. uses-none z most label later l ∙ ap (λ k. pos (most - k)) (sym h))

-- where all is used up
uses-up : (y z : ℤ) (most label later : ℕ) → y ≤ℤ pos 0 → pos 0 <ℤ z → later ≡ label + 1 → label < most → (uses y most label later +ℤ pos 1) ≤ℤ uses z most label later
uses-up y z most label later h k e l = omega (arith, ints, uses-none y most label later h, uses-left z most label later k, e, l)

-- ---- the uses of a pair

pair-open : (room z : ℤ) (most node demand : ℕ) → pos 0 <ℤ room → pair_uses room z most node demand ≡ uses (room -ℤ z) most node (demand + 1) +ℤ uses z most demand node
unfolding pair_uses
pair-open room z most node demand h = rw (is_positive-true room h) refl

pair-closed : (room z : ℤ) (most node demand : ℕ) → room ≤ℤ pos 0 → pair_uses room z most node demand ≡ pos 0
unfolding pair_uses
pair-closed room z most node demand h = rw (is_positive-false room h) refl

pair-nonneg : (room z : ℤ) (most node demand : ℕ) → pos 0 ≤ℤ pair_uses room z most node demand
pair-nonneg room z most node demand =
    by_lt_z (pos 0) room
    (λ l. omega (arith, linear, pair-open room z most node demand l, uses-nonneg (room -ℤ z) most node (demand + 1), uses-nonneg z most demand node))
    (λ l. omega (arith, linear, pair-closed room z most node demand l))

pair-most : (room z : ℤ) (most node demand : ℕ) → pair_uses room z most node demand ≤ℤ (pos (most + most) *ℤ one_if room)
pair-most room z most node demand =
    by_lt_z (pos 0) room
    (λ l. rw (one_if-positive room l) (omega (arith, ints, pair-open room z most node demand l, uses-most (room -ℤ z) most node (demand + 1), uses-most z most demand node, *ℤ-one (pos (most + most)))))
    (λ l. rw (one_if-other room l) (omega (arith, ints, pair-closed room z most node demand l, *ℤ-zero (pos (most + most)))))

pair-raised : (room z : ℤ) (most node demand node' demand' : ℕ) → node ≤ node' → demand ≤ demand' → pair_uses room z most node' demand' ≤ℤ pair_uses room z most node demand
pair-raised room z most node demand node' demand' h k =
    by_lt_z (pos 0) room
    (λ l. omega (arith, linear, pair-open room z most node demand l, pair-open room z most node' demand' l, uses-raised (room -ℤ z) most node (demand + 1) node' (demand' + 1) h (omega arith), uses-raised z most demand node demand' node' k h))
    (λ l. omega (arith, linear, pair-closed room z most node demand l, pair-closed room z most node' demand' l))

-- with another amount, where the uses of both edges are no more
pair-le : (room y z : ℤ) (most node demand : ℕ) → uses (room -ℤ y) most node (demand + 1) ≤ℤ uses (room -ℤ z) most node (demand + 1) → uses y most demand node ≤ℤ uses z most demand node → pair_uses room y most node demand ≤ℤ pair_uses room z most node demand
pair-le room y z most node demand there back =
    by_lt_z (pos 0) room
    (λ l. omega (arith, linear, pair-open room y most node demand l, pair-open room z most node demand l, there, back))
    (λ l. omega (arith, linear, pair-closed room y most node demand l, pair-closed room z most node demand l))

-- ---- the whole

abbrev pair_at : Network → (ℕ → ℕ → ℤ) → List ℕ → List ℕ → ℕ → ℕ → ℤ
pair_at net x nodes demands u d = pair_uses (room_of net u d) (x u d) (span_of net) (label_at nodes u) (label_at demands d)

abbrev pairs : Network → (ℕ → ℕ → ℤ) → List ℕ → List ℕ → ℤ
pairs net x nodes demands = sum_to (node_count net) (λ u. sum_to (demand_count net) (λ d. pair_at net x nodes demands u d))

abbrev spares : Network → (ℕ → ℕ → ℤ) → ℤ
spares net x = sum_to (node_count net) (λ u. one_if (spare_at net x u))

abbrev lacks : Network → (ℕ → ℕ → ℤ) → ℤ
lacks net x = sum_to (demand_count net) (λ d. one_if (lack_at net x d))

pub potential-nonneg : (net : Network) (x : ℕ → ℕ → ℤ) (nodes demands : List ℕ) → pos 0 ≤ℤ potential net x nodes demands
unfolding potential
potential-nonneg net x nodes demands =
    let a : pos 0 ≤ℤ pairs net x nodes demands = sum_to-nonneg (node_count net) _ (λ u b. sum_to-nonneg (demand_count net) _ (λ d c. pair-nonneg (room_of net u d) (x u d) (span_of net) (label_at nodes u) (label_at demands d))) in
    let s : pos 0 ≤ℤ spares net x = sum_to-nonneg (node_count net) _ (λ u b. one_if-nonneg (spare_at net x u)) in
    let l : pos 0 ≤ℤ lacks net x = sum_to-nonneg (demand_count net) _ (λ d b. one_if-nonneg (lack_at net x d)) in
    omega (arith, linear, a, s, l)

pub potential-raised : (net : Network) (x : ℕ → ℕ → ℤ) (nodes demands nodes' demands' : List ℕ) → AreRaised net nodes nodes' demands demands' → potential net x nodes' demands' ≤ℤ potential net x nodes demands
unfolding potential
potential-raised net x nodes demands nodes' demands' h =
    let a : pairs net x nodes' demands' ≤ℤ pairs net x nodes demands = sum_to-le (node_count net) _ _ (λ u b. sum_to-le (demand_count net) _ _ (λ d c. pair-raised (room_of net u d) (x u d) (span_of net) (label_at nodes u) (label_at demands d) (label_at nodes' u) (label_at demands' d) (h.node u b) (h.demand d c))) in
    omega (arith, linear, a)

-- ---- the greatest potential

count_bound : (a top : ℕ) (p : ℤ) → pos 0 ≤ℤ p → top ≤ a + 1 → (pos a +ℤ pos top *ℤ p) ≤ℤ (pos (a + 2) *ℤ (pos a +ℤ p))
count_bound a top p h l =
    let first : (pos top *ℤ p) ≤ℤ (pos (a + 2) *ℤ p) = rw (*ℤ_comm (pos top) p, *ℤ_comm (pos (a + 2)) p) (*ℤ-le p (pos top) (pos (a + 2)) h (omega (arith, ints))) in
    let second : (pos a *ℤ pos 1) ≤ℤ (pos a *ℤ pos (a + 2)) = *ℤ-le (pos a) (pos 1) (pos (a + 2)) (omega (arith, ints)) (omega (arith, ints)) in
    omega (arith, linear, first, second, *ℤ-one (pos a), *ℤ_comm (pos a) (pos (a + 2)), *ℤ-+ℤ (pos (a + 2)) (pos a) p)

pair_count-nonneg : (net : Network) → pos 0 ≤ℤ pair_count net
pair_count-nonneg net = sum_to-nonneg (node_count net) _ (λ u b. sum_to-nonneg (demand_count net) _ (λ d c. one_if-nonneg (room_of net u d)))

pub potential-most : (net : Network) (x : ℕ → ℕ → ℤ) (nodes demands : List ℕ) → potential net x nodes demands ≤ℤ (vertex_count net *ℤ edge_count net)
unfolding potential
potential-most net x nodes demands =
    let all : sum_to (node_count net) (λ u. sum_to (demand_count net) (λ d. pos (span_of net + span_of net) *ℤ one_if (room_of net u d))) ≡ pos (span_of net + span_of net) *ℤ pair_count net =
    sum_to-same (node_count net) _ _ (λ u b. sum_to-*ℤ (demand_count net) (pos (span_of net + span_of net)) (λ d. one_if (room_of net u d)))
    ∙ sum_to-*ℤ (node_count net) (pos (span_of net + span_of net)) (λ u. sum_to (demand_count net) (λ d. one_if (room_of net u d))) in
    let a : pairs net x nodes demands ≤ℤ sum_to (node_count net) (λ u. sum_to (demand_count net) (λ d. pos (span_of net + span_of net) *ℤ one_if (room_of net u d))) =
    sum_to-le (node_count net) _ _ (λ u b. sum_to-le (demand_count net) _ _ (λ d c. pair-most (room_of net u d) (x u d) (span_of net) (label_at nodes u) (label_at demands d))) in
    let s : spares net x ≤ℤ sum_to (node_count net) (λ _. pos 1) = sum_to-le (node_count net) _ _ (λ u b. one_if-most (spare_at net x u)) in
    let l : lacks net x ≤ℤ sum_to (demand_count net) (λ _. pos 1) = sum_to-le (demand_count net) _ _ (λ d b. one_if-most (lack_at net x d)) in
    let most = count_bound (node_count net + demand_count net) (span_of net + span_of net) (pair_count net) (pair_count-nonneg net) (omega arith) in
    omega (arith, ints, all, a, s, l, ones (node_count net), ones (demand_count net), most)

pub bound-nonneg : (net : Network) → pos 0 ≤ℤ (vertex_count net *ℤ edge_count net)
bound-nonneg net =
    let some = pair_count-nonneg net in
    nonneg-*ℤ (vertex_count net) (edge_count net) (omega (arith, ints)) (omega (arith, ints, some))

-- ---- a step

-- a step along labels that lead along its path
pub record IsLevelStep (net : Network) (x y : ℕ → ℕ → ℤ) (nodes demands : List ℕ) (path : List ℤ) (amount : ℤ) : Type 0 where
  pub step : IsStep net x y path amount
  pub labels : AreLabels net x nodes demands
  pub levelled : IsLevelled net x demands path

-- the uses of a pair are no more: at the same label it is used there, at the next one back, and else not at all
pair-after : (net : Network) (x y : ℕ → ℕ → ℤ) (nodes demands : List ℕ) (path : List ℤ) (amount : ℤ) → IsLevelStep net x y nodes demands path amount → (u d : ℕ) → u < node_count net → d < demand_count net → pair_at net y nodes demands u d ≤ℤ pair_at net x nodes demands u d
pair-after net x y nodes demands path amount h u d b c =
    elim (cases_eq (label_at nodes u) (label_at demands d + 1)) [
      | inl next ↦
          pair-le (room_of net u d) (y u d) (x u d) (span_of net) (label_at nodes u) (label_at demands d) (uses-level (room_of net u d -ℤ y u d) (room_of net u d -ℤ x u d) (span_of net) (label_at nodes u) (label_at demands d + 1) next)
          (uses-less (y u d) (x u d) (span_of net) (label_at demands d) (label_at nodes u) (less (λ e. omega (arith, next, e))) (omega (arith, next)))
      | inr apart ↦
          elim (cases_eq (label_at nodes u) (label_at demands d)) [
            | inl same ↦
                let grows = more apart in
                pair-le (room_of net u d) (y u d) (x u d) (span_of net) (label_at nodes u) (label_at demands d) (uses-less (room_of net u d -ℤ y u d) (room_of net u d -ℤ x u d) (span_of net) (label_at nodes u) (label_at demands d + 1) (omega (arith, linear, grows)) (omega (arith, same)))
                (uses-level (y u d) (x u d) (span_of net) (label_at demands d) (label_at nodes u) (sym same))
            | inr other ↦ rw (≤ℤ_antisymm (y u d) (x u d) (less other) (more apart)) (omega (arith, linear))
          ]
    ]
  where
    less : label_at nodes u ≢ label_at demands d → y u d ≤ℤ x u d
    less apart = amount-less net x y nodes demands path amount h.step h.labels h.levelled u d b c apart

    more : label_at nodes u ≢ label_at demands d + 1 → x u d ≤ℤ y u d
    more apart = amount-more net x y nodes demands path amount h.step h.labels h.levelled u d b c apart

-- a path has no more places than the span
path-short : (net : Network) (x y : ℕ → ℕ → ℤ) (path : List ℤ) (amount : ℤ) → IsStep net x y path amount → last_of path < span_of net
path-short net x y path amount h =
    let nodes = places-few (last_of path + 1) (node_count net) (node_at path) (λ j b. h.way.route.nodes_in j (omega (arith, b))) (λ i j b c e. h.way.route.nodes_apart i j (omega (arith, b)) (omega (arith, c)) e) in
    let demands = places-few (last_of path + 1) (demand_count net) (demand_at path) (λ j b. h.way.route.demands_in j (omega (arith, b))) (λ i j b c e. h.way.route.demands_apart i j (omega (arith, b)) (omega (arith, c)) e) in
    omega (arith, nodes, demands)

-- a pair whose room is used up
used_there : (net : Network) (x y : ℕ → ℕ → ℤ) (nodes demands : List ℕ) (path : List ℤ) (amount : ℤ) → IsLevelStep net x y nodes demands path amount → (j : ℕ) → j ≤ last_of path → amount ≡ room_left net x path j → (pair_at net y nodes demands (node_at path j) (demand_at path j) +ℤ pos 1) ≤ℤ pair_at net x nodes demands (node_at path j) (demand_at path j)
used_there net x y nodes demands path amount h j l e =
    let b = h.levelled.nodes_in j l in
    let c = h.levelled.demands_in j l in
    let node = level_of_node net x nodes demands path h.labels h.levelled j l in
    let demand = h.levelled.levels j l in
    let some = h.step.bottleneck.positive in
    let none = taken-none net x nodes demands path amount h.labels h.levelled (node_at path j) (demand_at path j) (λ next. omega (arith, next, node, demand)) in
    let all = pairs-here (suc (last_of path)) (node_at path) (demand_at path) amount j (omega (arith, l)) (omega (arith, ints, some)) in
    let full : (room_of net (node_at path j) (demand_at path j) -ℤ y (node_at path j) (demand_at path j)) ≤ℤ pos 0 = omega (arith, linear, h.step.shifted.at (node_at path j) (demand_at path j) b c, none, all, e) in
    let least = h.step.part.nonneg (node_at path j) (demand_at path j) b c in
    let room = h.levelled.rooms j l in
    let there = uses-up (room_of net (node_at path j) (demand_at path j) -ℤ y (node_at path j) (demand_at path j)) (room_of net (node_at path j) (demand_at path j) -ℤ x (node_at path j) (demand_at path j)) (span_of net) (label_at nodes (node_at path j)) (label_at demands (demand_at path j) + 1) full (omega (arith, linear, room)) (omega (arith, node, demand)) (omega (arith, node, l, path-short net x y path amount h.step)) in
    let back = uses-level (y (node_at path j) (demand_at path j)) (x (node_at path j) (demand_at path j)) (span_of net) (label_at demands (demand_at path j)) (label_at nodes (node_at path j)) (omega (arith, node, demand)) in
    let wide : pos 0 <ℤ room_of net (node_at path j) (demand_at path j) = omega (arith, linear, least, room) in
    omega (arith, linear, there, back, pair-open (room_of net (node_at path j) (demand_at path j)) (y (node_at path j) (demand_at path j)) (span_of net) (label_at nodes (node_at path j)) (label_at demands (demand_at path j)) wide, pair-open (room_of net (node_at path j) (demand_at path j)) (x (node_at path j) (demand_at path j)) (span_of net) (label_at nodes (node_at path j)) (label_at demands (demand_at path j)) wide)

-- a pair whose amount is used up
used_back : (net : Network) (x y : ℕ → ℕ → ℤ) (nodes demands : List ℕ) (path : List ℤ) (amount : ℤ) → IsLevelStep net x y nodes demands path amount → (j : ℕ) → j < last_of path → amount ≡ amount_before x path j → (pair_at net y nodes demands (node_at path (j + 1)) (demand_at path j) +ℤ pos 1) ≤ℤ pair_at net x nodes demands (node_at path (j + 1)) (demand_at path j)
used_back net x y nodes demands path amount h j l e =
    let b = h.levelled.nodes_in (j + 1) (omega arith) in
    let c = h.levelled.demands_in j (omega arith) in
    let node = level_of_node net x nodes demands path h.labels h.levelled (j + 1) (omega arith) in
    let demand = h.levelled.levels j (omega arith) in
    let some = h.step.bottleneck.positive in
    let none = added-none net x nodes demands path amount h.labels h.levelled (node_at path (j + 1)) (demand_at path j) (λ same. omega (arith, same, node, demand)) in
    let all = pairs-here (last_of path) (λ i. node_at path (i + 1)) (demand_at path) amount j l (omega (arith, ints, some)) in
    let empty : y (node_at path (j + 1)) (demand_at path j) ≤ℤ pos 0 = omega (arith, linear, h.step.shifted.at (node_at path (j + 1)) (demand_at path j) b c, none, all, e) in
    let full = h.levelled.carrying j l in
    let most = h.step.part.rooms (node_at path (j + 1)) (demand_at path j) b c in
    let there = uses-level (room_of net (node_at path (j + 1)) (demand_at path j) -ℤ y (node_at path (j + 1)) (demand_at path j)) (room_of net (node_at path (j + 1)) (demand_at path j) -ℤ x (node_at path (j + 1)) (demand_at path j)) (span_of net) (label_at nodes (node_at path (j + 1))) (label_at demands (demand_at path j) + 1) (omega (arith, node, demand)) in
    let back = uses-up (y (node_at path (j + 1)) (demand_at path j)) (x (node_at path (j + 1)) (demand_at path j)) (span_of net) (label_at demands (demand_at path j)) (label_at nodes (node_at path (j + 1))) empty full (omega (arith, node, demand)) (omega (arith, demand, l, path-short net x y path amount h.step)) in
    let wide : pos 0 <ℤ room_of net (node_at path (j + 1)) (demand_at path j) = omega (arith, linear, full, most) in
    omega (arith, linear, there, back, pair-open (room_of net (node_at path (j + 1)) (demand_at path j)) (y (node_at path (j + 1)) (demand_at path j)) (span_of net) (label_at nodes (node_at path (j + 1))) (label_at demands (demand_at path j)) wide, pair-open (room_of net (node_at path (j + 1)) (demand_at path j)) (x (node_at path (j + 1)) (demand_at path j)) (span_of net) (label_at nodes (node_at path (j + 1))) (label_at demands (demand_at path j)) wide)

same_chosen : (k : ℕ) (z : ℤ) → (if k == k then z else pos 0) ≡ z
same_chosen k z = rw (eq-eqb k k refl) refl

pub potential-step : (net : Network) (x y : ℕ → ℕ → ℤ) (nodes demands : List ℕ) (path : List ℤ) (amount : ℤ) → IsLevelStep net x y nodes demands path amount → (potential net y nodes demands +ℤ pos 1) ≤ℤ potential net x nodes demands
unfolding potential
potential-step net x y nodes demands path amount h = by h.step.bottleneck.reached
  where
    row_le : (u : ℕ) → u < node_count net → sum_to (demand_count net) (λ d. pair_at net y nodes demands u d) ≤ℤ sum_to (demand_count net) (λ d. pair_at net x nodes demands u d)
    row_le u b = sum_to-le (demand_count net) _ _ (λ d c. pair-after net x y nodes demands path amount h u d b c)

    pairs_le : pairs net y nodes demands ≤ℤ pairs net x nodes demands
    pairs_le = sum_to-le (node_count net) _ _ row_le

    chosen_some : (t : Bool) → pos 0 ≤ℤ (if t then amount else pos 0)
    chosen_some t = (let some = h.step.bottleneck.positive in chosen-nonneg t amount (omega (arith, ints, some)))

    spare_le : (u : ℕ) → u < node_count net → one_if (spare_at net y u) ≤ℤ one_if (spare_at net x u)
    spare_le u b = one_if-le (spare_at net y u) (spare_at net x u) (omega (arith, linear, spare-after net x y path amount h.step u b, chosen_some (node_at path 0 == u)))

    lack_le : (d : ℕ) → d < demand_count net → one_if (lack_at net y d) ≤ℤ one_if (lack_at net x d)
    lack_le d b = one_if-le (lack_at net y d) (lack_at net x d) (omega (arith, linear, lack-after net x y path amount h.step d b, chosen_some (demand_at path (last_of path) == d)))

    spares_le : spares net y ≤ℤ spares net x
    spares_le = sum_to-le (node_count net) _ _ spare_le

    lacks_le : lacks net y ≤ℤ lacks net x
    lacks_le = sum_to-le (demand_count net) _ _ lack_le

    pair_less : (u d : ℕ) → u < node_count net → d < demand_count net → (pair_at net y nodes demands u d +ℤ pos 1) ≤ℤ pair_at net x nodes demands u d → (pairs net y nodes demands +ℤ (spares net y +ℤ lacks net y) +ℤ pos 1) ≤ℤ (pairs net x nodes demands +ℤ (spares net x +ℤ lacks net x))
    pair_less u d b c less =
        let row = sum_to-less (demand_count net) d (λ k. pair_at net y nodes demands u k) (λ k. pair_at net x nodes demands u k) c (λ k q. pair-after net x y nodes demands path amount h u k b q) less in
        let all = sum_to-less (node_count net) u (λ v. sum_to (demand_count net) (λ k. pair_at net y nodes demands v k)) (λ v. sum_to (demand_count net) (λ k. pair_at net x nodes demands v k)) b row_le row in
        omega (arith, linear, all, spares_le, lacks_le)

    by : (amount ≡ spare_at net x (node_at path 0)) ⊎ (amount ≡ lack_at net x (demand_at path (last_of path))) ⊎ ((j : ℕ) × (j ≤ last_of path) × (amount ≡ room_left net x path j)) ⊎ ((j : ℕ) × (j < last_of path) × (amount ≡ amount_before x path j))
        → (pairs net y nodes demands +ℤ (spares net y +ℤ lacks net y) +ℤ pos 1) ≤ℤ (pairs net x nodes demands +ℤ (spares net x +ℤ lacks net x))
    by (inl e) =
        let b = h.levelled.nodes_in 0 (omega arith) in
        let after = spare-after net x y path amount h.step (node_at path 0) b in
        let empty = one_if-other (spare_at net y (node_at path 0)) (omega (arith, linear, after, same_chosen (node_at path 0) amount, e)) in
        let full = one_if-positive (spare_at net x (node_at path 0)) h.levelled.spare in
        let less = sum_to-less (node_count net) (node_at path 0) (λ u. one_if (spare_at net y u)) (λ u. one_if (spare_at net x u)) b spare_le (omega (arith, ints, empty, full)) in
        omega (arith, linear, less, pairs_le, lacks_le)
    by (inr (inl e)) =
        let b = h.levelled.demands_in (last_of path) (omega arith) in
        let after = lack-after net x y path amount h.step (demand_at path (last_of path)) b in
        let empty = one_if-other (lack_at net y (demand_at path (last_of path))) (omega (arith, linear, after, same_chosen (demand_at path (last_of path)) amount, e)) in
        let full = one_if-positive (lack_at net x (demand_at path (last_of path))) h.levelled.lacking in
        let less = sum_to-less (demand_count net) (demand_at path (last_of path)) (λ d. one_if (lack_at net y d)) (λ d. one_if (lack_at net x d)) b lack_le (omega (arith, ints, empty, full)) in
        omega (arith, linear, less, pairs_le, spares_le)
    by (inr (inr (inl (j, l, e)))) = pair_less (node_at path j) (demand_at path j) (h.levelled.nodes_in j l) (h.levelled.demands_in j l) (used_there net x y nodes demands path amount h j l e)
    by (inr (inr (inr (j, l, e)))) = pair_less (node_at path (j + 1)) (demand_at path j) (h.levelled.nodes_in (j + 1) (omega arith)) (h.levelled.demands_in j (omega arith)) (used_back net x y nodes demands path amount h j l e)

-- what is left is smaller after each turn
pub turn_smaller : (fresh next : Bool) (p q : ℤ) (s t : ℕ) → pos 0 ≤ℤ p → pos 0 ≤ℤ q → (pos t +ℤ q) ≤ℤ (pos s +ℤ p) → s ≤ t → (next ≡ false → t ≡ s + 1) → (next ≡ true → fresh ≡ false) → 2 * unsigned_abs q + (if next then 0 else 1) < 2 * unsigned_abs p + (if fresh then 0 else 1)
turn_smaller fresh false p q s t a b c d e f = at fresh
  where
    at : (w : Bool) → 2 * unsigned_abs q + 1 < 2 * unsigned_abs p + (if w then 0 else 1)
    at true = (let one = e refl in omega (arith, ints, a, b, c, one))
    at false = (let one = e refl in omega (arith, ints, a, b, c, one))
turn_smaller fresh true p q s t a b c d e f = rw (f refl) (omega (arith, ints, a, b, c, d))
