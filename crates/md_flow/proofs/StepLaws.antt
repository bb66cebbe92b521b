-- A change of a flow along a path: what is left, and the labels.
use Rattle.std.proofs.Common.{◌≡◌, ◌≢◌, ℕ, zero, suc, ◌+◌, ◌<◌, ◌≤◌, ℤ, pos, ◌+ℤ◌, ◌-ℤ◌, ◌≤ℤ◌, inl, inr, true, false, ◌==◌, ◌&&◌, if◌then◌else◌, List, refl, sym, ap, ◌∙◌, subst, arith, eqb-true, eq-eqb, ne_eqb}
use Rattle.std.proofs.lemmas.Bool.{cases_eq}
use Rattle.std.proofs.lemmas.Int.{ints}
use Rattle.md_math.proofs.Ring.{linear}
use Rattle.md_math.proofs.Order.{chosen-nonneg}
use Rattle.md_math.proofs.BoundedTests.{and-left, and-right, search_below}
use Rattle.md_flow.specs.Network.{Network, node_count, demand_count, cap_of, want_of, room_of}
use Rattle.md_flow.specs.Flows.{given_by, got_by, IsPartFlow}
use Rattle.md_flow.specs.Labels.{spare_at, lack_at, label_at, AreLabels}
use Rattle.md_flow.specs.Paths.{amount_at_pairs, IsShifted, node_at, demand_at, last_of, IsLevelled, IsPath, IsBottleneck}
use Rattle.md_flow.proofs.PathLaws.{pairs-none, pairs-most, pairs-nonneg, given-shifted, got-shifted}

-- ---- the labels of a path

-- each node of the path has its place as its label
pub level_of_node : (net : Network) (x : ℕ → ℕ → ℤ) (nodes demands : List ℕ) (path : List ℤ) → AreLabels net x nodes demands → IsLevelled net x demands path → (j : ℕ) → j ≤ last_of path → label_at nodes (node_at path j) ≡ j
level_of_node net x nodes demands path h l zero b = h.from_spare (node_at path 0) (l.nodes_in 0 b) l.spare
level_of_node net x nodes demands path h l (suc j) b =
    let same : suc j ≡ j + 1 = omega arith in
    let here : j + 1 ≤ last_of path = omega arith in
    let least = h.along (node_at path (j + 1)) (demand_at path (j + 1)) (l.nodes_in (j + 1) here) (l.demands_in (j + 1) here) (l.rooms (j + 1) here) in
    let most = h.back (node_at path (j + 1)) (demand_at path j) (l.nodes_in (j + 1) here) (l.demands_in j (omega arith)) (l.carrying j (omega arith)) in
    rw same (omega (arith, least, most, l.levels (j + 1) here, l.levels j (omega arith)))

-- the nodes and demands of such a path are distinct
pub IsPath-levelled : (net : Network) (x : ℕ → ℕ → ℤ) (nodes demands : List ℕ) (path : List ℤ) → AreLabels net x nodes demands → IsLevelled net x demands path → IsPath net x path
IsPath-levelled net x nodes demands path h l = record {
  route = record {
    whole = l.whole;
    numbers = l.numbers;
    nodes_in = l.nodes_in;
    demands_in = l.demands_in;
    nodes_apart = λ i j b c e. sym (level_of_node net x nodes demands path h l i b) ∙ ap (label_at nodes) e ∙ level_of_node net x nodes demands path h l j c;
    demands_apart = λ i j b c e. sym (l.levels i b) ∙ ap (label_at demands) e ∙ l.levels j c;
  };
  rooms = l.rooms;
  carrying = l.carrying;
  spare = l.spare;
  lacking = l.lacking;
}

-- ---- a step

pub record IsStep (net : Network) (x y : ℕ → ℕ → ℤ) (path : List ℤ) (amount : ℤ) : Type 0 where
  pub part : IsPartFlow net x
  pub way : IsPath net x path
  pub bottleneck : IsBottleneck net x path amount
  pub shifted : IsShifted (node_count net) (demand_count net) (last_of path) (node_at path) (demand_at path) amount x y
  pub nonneg : (u d : ℕ) → pos 0 ≤ℤ y u d

-- what is added at a pair, and what is taken away
abbrev added : List ℤ → ℤ → ℕ → ℕ → ℤ
added path amount u d = amount_at_pairs (suc (last_of path)) (node_at path) (demand_at path) amount u d

abbrev taken : List ℤ → ℤ → ℕ → ℕ → ℤ
taken path amount u d = amount_at_pairs (last_of path) (λ j. node_at path (j + 1)) (demand_at path) amount u d

added-nonneg : (path : List ℤ) (amount : ℤ) (u d : ℕ) → pos 1 ≤ℤ amount → pos 0 ≤ℤ added path amount u d
added-nonneg path amount u d p = pairs-nonneg (suc (last_of path)) (node_at path) (demand_at path) amount u d (omega (arith, ints, p))

taken-nonneg : (path : List ℤ) (amount : ℤ) (u d : ℕ) → pos 1 ≤ℤ amount → pos 0 ≤ℤ taken path amount u d
taken-nonneg path amount u d p = pairs-nonneg (last_of path) (λ j. node_at path (j + 1)) (demand_at path) amount u d (omega (arith, ints, p))

-- no amount passes its room
room-kept : (net : Network) (x y : ℕ → ℕ → ℤ) (path : List ℤ) (amount : ℤ) → IsStep net x y path amount → (u d : ℕ) → u < node_count net → d < demand_count net → y u d ≤ℤ room_of net u d
room-kept net x y path amount h u d b c =
    let some = h.bottleneck.positive in
    let less = taken-nonneg path amount u d some in
    let is = h.shifted.at u d b c in
    elim (search_below (suc (last_of path)) (λ j. node_at path j == u && demand_at path j == d)) [
      | inl w ↦
          let node : node_at path w.0 ≡ u = eqb-true (node_at path w.0) u (and-left (node_at path w.0 == u) (demand_at path w.0 == d) w.2) in
          let demand : demand_at path w.0 ≡ d = eqb-true (demand_at path w.0) d (and-right (node_at path w.0 == u) (demand_at path w.0 == d) w.2) in
          let most = pairs-most (suc (last_of path)) w.0 (node_at path) (demand_at path) amount u d w.1 (omega (arith, ints, some)) (λ j l e. h.way.route.nodes_apart j w.0 (omega (arith, l)) (omega (arith, w.1)) (e ∙ sym node)) in
          let left : (x u d +ℤ amount) ≤ℤ room_of net u d = subst (λ k. (x u k +ℤ amount) ≤ℤ room_of net u k) demand (subst (λ k. (x k (demand_at path w.0) +ℤ amount) ≤ℤ room_of net k (demand_at path w.0)) node (let fits = h.bottleneck.fits.rooms w.0 (omega (arith, w.1)) in omega (arith, linear, fits))) in
          omega (arith, linear, is, less, most, left)
      | inr none ↦
          let nothing = pairs-none (suc (last_of path)) (node_at path) (demand_at path) amount u d (λ j l p q. apart j p q (none j l)) in
          let old = h.part.rooms u d b c in
          omega (arith, linear, is, less, nothing, old)
    ]
  where
    apart : (j : ℕ) → node_at path j ≡ u → demand_at path j ≡ d → (node_at path j == u && demand_at path j == d) ≡ false → ⊥
    apart j p q e = (let s : (node_at path j == u && demand_at path j == d) ≡ true = rw (eq-eqb (node_at path j) u p, eq-eqb (demand_at path j) d q) refl in cc)

pub spare-after : (net : Network) (x y : ℕ → ℕ → ℤ) (path : List ℤ) (amount : ℤ) → IsStep net x y path amount → (u : ℕ) → u < node_count net → spare_at net y u ≡ spare_at net x u -ℤ (if node_at path 0 == u then amount else pos 0)
spare-after net x y path amount h u b =
    omega (arith, linear, given-shifted (node_count net) (demand_count net) (last_of path) (node_at path) (demand_at path) amount x y u h.shifted h.way.route.demands_in b)

pub lack-after : (net : Network) (x y : ℕ → ℕ → ℤ) (path : List ℤ) (amount : ℤ) → IsStep net x y path amount → (d : ℕ) → d < demand_count net → lack_at net y d ≡ lack_at net x d -ℤ (if demand_at path (last_of path) == d then amount else pos 0)
lack-after net x y path amount h d b =
    omega (arith, linear, got-shifted (node_count net) (demand_count net) (last_of path) (node_at path) (demand_at path) amount x y d h.shifted h.way.route.nodes_in b)

-- a number that is made smaller at one place, where it is no less than the amount, stays at least 0
left-nonneg : (f : ℕ → ℤ) (k u : ℕ) (amount : ℤ) → amount ≤ℤ f k → pos 0 ≤ℤ f u → pos 0 ≤ℤ (f u -ℤ (if k == u then amount else pos 0))
left-nonneg f k u amount most least =
    elim (cases_eq k u) [
      | inl same ↦
          let here : amount ≤ℤ f u = subst (λ i. amount ≤ℤ f i) same most in
          let one : (if k == u then amount else pos 0) ≡ amount = rw (eq-eqb k u same) refl in
          omega (arith, linear, here, one)
      | inr other ↦
          let one : (if k == u then amount else pos 0) ≡ pos 0 = rw (ne_eqb k u other) refl in
          omega (arith, linear, least, one)
    ]

pub IsPartFlow-step : (net : Network) (x y : ℕ → ℕ → ℤ) (path : List ℤ) (amount : ℤ) → IsStep net x y path amount → IsPartFlow net y
IsPartFlow-step net x y path amount h = record {
  nonneg = λ u d b c. h.nonneg u d;
  rooms = λ u d b c. room-kept net x y path amount h u d b c;
  caps = λ u b.
      let old = h.part.caps u b in
      let least = left-nonneg (spare_at net x) (node_at path 0) u amount h.bottleneck.spare (omega (arith, linear, old)) in
      omega (arith, linear, spare-after net x y path amount h u b, least);
  wants = λ d b.
      let old = h.part.wants d b in
      let least = left-nonneg (lack_at net x) (demand_at path (last_of path)) d amount h.bottleneck.lack (omega (arith, linear, old)) in
      omega (arith, linear, lack-after net x y path amount h d b, least);
}

-- ---- the labels stay

-- an amount grows only where the two labels are the same, and falls only where the node's is the next one
pub added-none : (net : Network) (x : ℕ → ℕ → ℤ) (nodes demands : List ℕ) (path : List ℤ) (amount : ℤ) → AreLabels net x nodes demands → IsLevelled net x demands path → (u d : ℕ) → label_at nodes u ≢ label_at demands d → added path amount u d ≡ pos 0
added-none net x nodes demands path amount labels levelled u d apart =
    pairs-none (suc (last_of path)) (node_at path) (demand_at path) amount u d (λ j l p q.
    apart (ap (label_at nodes) (sym p) ∙ level_of_node net x nodes demands path labels levelled j (omega arith) ∙ sym (levelled.levels j (omega arith)) ∙ ap (label_at demands) q))

pub taken-none : (net : Network) (x : ℕ → ℕ → ℤ) (nodes demands : List ℕ) (path : List ℤ) (amount : ℤ) → AreLabels net x nodes demands → IsLevelled net x demands path → (u d : ℕ) → label_at nodes u ≢ label_at demands d + 1 → taken path amount u d ≡ pos 0
taken-none net x nodes demands path amount labels levelled u d apart =
    pairs-none (last_of path) (λ j. node_at path (j + 1)) (demand_at path) amount u d (λ j l p q.
    apart (ap (label_at nodes) (sym p) ∙ level_of_node net x nodes demands path labels levelled (j + 1) (omega arith) ∙ ap (λ k. k + 1) (sym (levelled.levels j (omega arith)) ∙ ap (label_at demands) q)))

pub amount-less : (net : Network) (x y : ℕ → ℕ → ℤ) (nodes demands : List ℕ) (path : List ℤ) (amount : ℤ) → IsStep net x y path amount → AreLabels net x nodes demands → IsLevelled net x demands path → (u d : ℕ) → u < node_count net → d < demand_count net → label_at nodes u ≢ label_at demands d → y u d ≤ℤ x u d
amount-less net x y nodes demands path amount h labels levelled u d b c apart =
    omega (arith, linear, h.shifted.at u d b c, added-none net x nodes demands path amount labels levelled u d apart, taken-nonneg path amount u d h.bottleneck.positive)

pub amount-more : (net : Network) (x y : ℕ → ℕ → ℤ) (nodes demands : List ℕ) (path : List ℤ) (amount : ℤ) → IsStep net x y path amount → AreLabels net x nodes demands → IsLevelled net x demands path → (u d : ℕ) → u < node_count net → d < demand_count net → label_at nodes u ≢ label_at demands d + 1 → x u d ≤ℤ y u d
amount-more net x y nodes demands path amount h labels levelled u d b c apart =
    omega (arith, linear, h.shifted.at u d b c, taken-none net x nodes demands path amount labels levelled u d apart, added-nonneg path amount u d h.bottleneck.positive)

pub AreLabels-step : (net : Network) (x y : ℕ → ℕ → ℤ) (nodes demands : List ℕ) (path : List ℤ) (amount : ℤ) → IsStep net x y path amount → AreLabels net x nodes demands → IsLevelled net x demands path → AreLabels net y nodes demands
AreLabels-step net x y nodes demands path amount h labels levelled = record {
  one_node = labels.one_node;
  one_demand = labels.one_demand;
  node_top = labels.node_top;
  demand_top = labels.demand_top;
  from_spare = λ u b r.
      let some = h.bottleneck.positive in
      let less = chosen-nonneg (node_at path 0 == u) amount (omega (arith, ints, some)) in
      labels.from_spare u b (omega (arith, linear, r, spare-after net x y path amount h u b, less));
  along = λ u d b c r.
      elim (cases_eq (label_at nodes u) (label_at demands d + 1)) [
        | inl next ↦ omega (arith, next)
        | inr apart ↦ labels.along u d b c (omega (arith, linear, r, amount-more net x y nodes demands path amount h labels levelled u d b c apart))
      ];
  back = λ u d b c p.
      elim (cases_eq (label_at nodes u) (label_at demands d)) [
        | inl same ↦ omega (arith, same)
        | inr apart ↦ labels.back u d b c (omega (arith, linear, p, amount-less net x y nodes demands path amount h labels levelled u d b c apart))
      ];
}

-- ---- the same facts by other names of their sizes

pub IsShifted-sizes : (n m n' m' last : ℕ) (nodes demands : ℕ → ℕ) (amount amount' : ℤ) (x y : ℕ → ℕ → ℤ) → n ≡ n' → m ≡ m' → amount ≡ amount' → IsShifted n m last nodes demands amount x y → IsShifted n' m' last nodes demands amount' x y
IsShifted-sizes n m n' m' last nodes demands amount amount' x y e f a h =
    subst (λ k. IsShifted k m' last nodes demands amount' x y) e (subst (λ k. IsShifted n k last nodes demands amount' x y) f (subst (λ k. IsShifted n m last nodes demands k x y) a h))

pub cap_left : (net : Network) (x : ℕ → ℕ → ℤ) (u m amount : ℕ) (a : ℤ) → m ≡ demand_count net → a ≡ pos amount → pos amount ≤ℤ spare_at net x u → (given_by m x u +ℤ a) ≤ℤ cap_of net u
cap_left net x u m amount a e f h = rw (e, f) (omega (arith, linear, h))

pub want_left : (net : Network) (x : ℕ → ℕ → ℤ) (d n amount : ℕ) (a : ℤ) → n ≡ node_count net → a ≡ pos amount → pos amount ≤ℤ lack_at net x d → (got_by n x d +ℤ a) ≤ℤ want_of net d
want_left net x d n amount a e f h = rw (e, f) (omega (arith, linear, h))
