-- Nets whose nodes touch sets of demands: what a set is over by, and how many pairs there are.
use Rattle.std.proofs.Common.{◌≡◌, ℕ, ◌^◌, ◌<◌, ◌≤◌, ℤ, pos, ◌-ℤ◌, ◌≤ℤ◌, ◌<ℤ◌, ◌&&◌, Bool, true, false, inl, inr, if◌then◌else◌, List, length, slice_index, refl, ap, arith}
use Rattle.std.specs.Int.{int_min}
use Rattle.std.proofs.lemmas.Int.{ints, clamps}
use Rattle.md_math.specs.Lists.{number_at}
use Rattle.md_math.specs.Sets.{member}
use Rattle.md_math.specs.Sums.{sum_to}
use Rattle.md_math.proofs.Ring.{linear}
use Rattle.md_math.proofs.BoundedTests.{true_or_false, and-left, and-right}
use Rattle.md_math.proofs.Order.{chosen-nonneg, chosen-le, ≤ℤ_antisymm}
use Rattle.md_math.proofs.SumLaws.{sum_to-same, sum_to-le, sum_to-zero, sum_to-at_least}
use Rattle.md_flow.specs.Network.{Network, IsNet, OneEach, node_count, demand_count, cap_of, want_of, room_in, room_of}
use Rattle.md_flow.specs.declared.rooms.Rooms.TheVariants.{Touched}
use Rattle.md_flow.specs.Flows.{IsPartFlow}
use Rattle.md_flow.specs.Over.{any_below, over, over_touched}
use Rattle.md_flow.specs.Costs.{pair_count, touching_count, one_if}
use Rattle.md_flow.proofs.AnyBelow.{any_below-place, any_below-false}
use Rattle.md_flow.proofs.Potential.{one_if-most, one_if-other}

abbrev touched_net : List ℤ → List ℤ → List ℕ → Network
touched_net caps wants touches = record { caps = caps; wants = wants; rooms = Touched touches }

pub IsNet-touched : (caps wants : List ℤ) (touches : List ℕ) → length touches ≡ length caps → length caps < 2 ^ 32 → length wants ≤ 12 → ((u : ℕ) → u < length caps → pos 0 ≤ℤ number_at caps u) → ((d : ℕ) → d < length wants → pos 0 ≤ℤ number_at wants d)
    → sum_to (length caps) (number_at caps) <ℤ pos (2 ^ 126) → sum_to (length wants) (number_at wants) <ℤ pos (2 ^ 126) → IsNet (touched_net caps wants touches)
unfolding room_in OneEach
IsNet-touched caps wants touches one few few' some some' size size' = record {
  one_each = one;
  few_nodes = few;
  few_demands = few';
  caps = some;
  wants = some';
  rooms = λ u d b c. chosen-nonneg (member (slice_index touches u) d) (number_at caps u) (some u b);
  cap_size = size;
  want_size = size';
  room_size = λ u d b c.
      let most = sum_to-at_least (length caps) u (number_at caps) b some in
      let less : room_of (touched_net caps wants touches) u d ≤ℤ number_at caps u = chosen-le (member (slice_index touches u) d) (number_at caps u) (some u b) in
      omega (arith, linear, most, less, size);
}

-- the room of a pair in such a net
pub room-touched : (caps wants : List ℤ) (touches : List ℕ) (u d : ℕ) → room_of (touched_net caps wants touches) u d ≡ (if member (slice_index touches u) d then number_at caps u else pos 0)
unfolding room_in
room-touched caps wants touches u d = refl

-- a node gives to a set its cap, where it touches some demand of the set, and else nothing
least-touched : (m : ℕ) (cap : ℤ) (room : ℕ → ℤ) (touching set : ℕ → Bool) → pos 0 ≤ℤ cap → ((d : ℕ) → d < m → room d ≡ (if touching d then cap else pos 0))
    → int_min cap (sum_to m (λ d. if set d then room d else pos 0)) ≡ (if any_below m (λ d. touching d && set d) then cap else pos 0)
least-touched m cap room touching set some is =
    elim (true_or_false (any_below m (λ d. touching d && set d))) [
      | inl touches ↦
          let (d, b, e) = any_below-place m (λ d. touching d && set d) touches in
          let all = sum_to-at_least m d (λ k. if set k then room k else pos 0) b (λ k c. nonneg (touching k) (set k) (room k) (is k c)) in
          rw touches (most cap (sum_to m (λ k. if set k then room k else pos 0)) (if set d then room d else pos 0) (here (touching d) (set d) (room d) (is d b) (and-left (touching d) (set d) e) (and-right (touching d) (set d) e)) all)
      | inr none ↦
          rw none (least (sum_to m (λ k. if set k then room k else pos 0)) (sum_to-zero m (λ k. if set k then room k else pos 0) (λ k c. nothing (touching k) (set k) (room k) (is k c) (any_below-false m (λ d. touching d && set d) none k c))))
    ]
  where
    nonneg : (t s : Bool) (z : ℤ) → z ≡ (if t then cap else pos 0) → pos 0 ≤ℤ (if s then z else pos 0)
    nonneg t s z e = chosen-nonneg s z (rw e (chosen-nonneg t cap some))

    here : (t s : Bool) (z : ℤ) → z ≡ (if t then cap else pos 0) → t ≡ true → s ≡ true → (if s then z else pos 0) ≡ cap
    here true true z e p q = e
    here true false z e p q = cc
    here false s z e p q = cc

    nothing : (t s : Bool) (z : ℤ) → z ≡ (if t then cap else pos 0) → (t && s) ≡ false → (if s then z else pos 0) ≡ pos 0
    nothing true true z e p = cc
    nothing false true z e p = e
    nothing t false z e p = refl

    most : (a b c : ℤ) → c ≡ a → c ≤ℤ b → int_min a b ≡ a
    most a b c e l = omega (arith, ints, clamps)

    least : (b : ℤ) → b ≡ pos 0 → int_min cap b ≡ pos 0
    least b e = omega (arith, ints, clamps, some, e)

-- where each node may give its cap to the demands that it touches, and nothing to others, a set is over by its demands less the caps of the nodes that touch it
pub over-touching : (net : Network) (touching : ℕ → ℕ → Bool) (set : ℕ → Bool) → ((u : ℕ) → u < node_count net → pos 0 ≤ℤ cap_of net u)
    → ((u d : ℕ) → u < node_count net → d < demand_count net → room_of net u d ≡ (if touching u d then cap_of net u else pos 0))
    → over net set ≡ sum_to (demand_count net) (λ d. if set d then want_of net d else pos 0) -ℤ sum_to (node_count net) (λ u. if any_below (demand_count net) (λ d. touching u d && set d) then cap_of net u else pos 0)
over-touching net touching set some rooms =
    ap (λ z. sum_to (demand_count net) (λ d. if set d then want_of net d else pos 0) -ℤ z)
    (sum_to-same (node_count net) _ _ (λ u b. least-touched (demand_count net) (cap_of net u) (room_of net u) (touching u) set (some u b) (λ d c. rooms u d b c)))

-- and a demand that a node does not touch gets nothing from it
pub untouched : (net : Network) (x : ℕ → ℕ → ℤ) (u d : ℕ) → IsPartFlow net x → u < node_count net → d < demand_count net → room_of net u d ≡ pos 0 → x u d ≡ pos 0
untouched net x u d part b c none = ≤ℤ_antisymm (x u d) (pos 0) (let most = part.rooms u d b c in omega (arith, linear, most, none)) (part.nonneg u d b c)

pub over-touched : (caps wants : List ℤ) (touches : List ℕ) (set : ℕ → Bool) → ((u : ℕ) → u < length caps → pos 0 ≤ℤ number_at caps u) → over (touched_net caps wants touches) set ≡ over_touched caps wants touches set
unfolding room_in
over-touched caps wants touches set some = over-touching (touched_net caps wants touches) (λ u d. member (slice_index touches u) d) set some (λ u d b c. refl)

pub pairs-touched : (caps wants : List ℤ) (touches : List ℕ) → pair_count (touched_net caps wants touches) ≤ℤ touching_count caps wants touches
unfolding room_in
pairs-touched caps wants touches = sum_to-le (length caps) _ _ (λ u b. sum_to-le (length wants) _ _ (λ d c. at (member (slice_index touches u) d) (number_at caps u)))
  where
    at : (t : Bool) (z : ℤ) → one_if (if t then z else pos 0) ≤ℤ (if t then pos 1 else pos 0)
    at true z = one_if-most z
    at false z = (let e = one_if-other (pos 0) (omega (arith, ints)) in omega (arith, ints, e))
