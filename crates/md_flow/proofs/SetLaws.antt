-- What a part flow says of any set of demands, where some nodes are charged with their rooms for the set, and the others with their caps.
use Rattle.std.proofs.Common.{◌≡◌, ℕ, ◌<◌, ℤ, pos, ◌+ℤ◌, ◌-ℤ◌, ◌≤ℤ◌, Bool, true, false, int_lt, if◌then◌else◌, refl, sym, ap, ◌∙◌, arith}
use Rattle.std.specs.Int.{int_min}
use Rattle.std.proofs.lemmas.Int.{ints, clamps}
use Rattle.md_math.proofs.Ring.{linear}
use Rattle.md_math.proofs.SumLaws.{sum_to-same, sum_to-le, sum_to-+ℤ, sum_to-swap, sum_to-nonneg, sum_to-all_zero, sum_to-by_test, sum_to-if}
use Rattle.md_math.specs.Sums.{sum_to}
use Rattle.md_math.proofs.Order.{chosen-nonneg, unchosen-nonneg}
use Rattle.md_flow.specs.Network.{Network, node_count, demand_count, cap_of, want_of, room_of, want_sum}
use Rattle.md_flow.specs.Flows.{given_by, got_by, carried, IsPartFlow}
use Rattle.md_flow.specs.Over.{open_at, over}
use Rattle.md_flow.specs.Labels.{spare_at, lack_at}

-- what a node gives to the demands of a set, what it gives to the others, and the room that it has left for the set
abbrev inside : Network → (ℕ → ℕ → ℤ) → (ℕ → Bool) → ℕ → ℤ
inside net x set u = sum_to (demand_count net) (λ d. if set d then x u d else pos 0)

abbrev pub outside : Network → (ℕ → ℕ → ℤ) → (ℕ → Bool) → ℕ → ℤ
outside net x set u = sum_to (demand_count net) (λ d. if set d then pos 0 else x u d)

abbrev pub unused : Network → (ℕ → ℕ → ℤ) → (ℕ → Bool) → ℕ → ℤ
unused net x set u = sum_to (demand_count net) (λ d. if set d then room_of net u d -ℤ x u d else pos 0)

-- by how much a set is over what is charged
abbrev pub over_with : Network → (ℕ → Bool) → (ℕ → Bool) → ℤ
over_with net set rooms =
    sum_to (demand_count net) (λ d. if set d then want_of net d else pos 0)
    -ℤ sum_to (node_count net) (λ u. if rooms u then open_at net set u else cap_of net u)

-- what the demands outside lack, and what is charged but does not go to the set
abbrev pub lack_outside : Network → (ℕ → ℕ → ℤ) → (ℕ → Bool) → ℤ
lack_outside net x set = sum_to (demand_count net) (λ d. if set d then pos 0 else lack_at net x d)

abbrev pub slack : Network → (ℕ → ℕ → ℤ) → (ℕ → Bool) → (ℕ → Bool) → ℤ
slack net x set rooms = sum_to (node_count net) (λ u. if rooms u then unused net x set u else spare_at net x u +ℤ outside net x set u)

-- ---- all demands in parts

-- what is charged to a node, in two parts
charge_parts : (net : Network) (x : ℕ → ℕ → ℤ) (set : ℕ → Bool) (u : ℕ) (t : Bool) → (if t then open_at net set u else cap_of net u) ≡ inside net x set u +ℤ (if t then unused net x set u else spare_at net x u +ℤ outside net x set u)
charge_parts net x set u true =
    sum_to-same (demand_count net) _ _ (λ d c. at (set d) d)
    ∙ sum_to-+ℤ (demand_count net) (λ d. if set d then x u d else pos 0) (λ d. if set d then room_of net u d -ℤ x u d else pos 0)
  where
    at : (t : Bool) (d : ℕ) → (if t then room_of net u d else pos 0) ≡ (if t then x u d else pos 0) +ℤ (if t then room_of net u d -ℤ x u d else pos 0)
    at true d = omega (arith, linear)
    at false d = omega (arith, linear)
charge_parts net x set u false = omega (arith, linear, sum_to-by_test (demand_count net) set (λ d. x u d))

-- what the demands of a set get is what the nodes give inside
got_inside : (net : Network) (x : ℕ → ℕ → ℤ) (set : ℕ → Bool) → sum_to (demand_count net) (λ d. if set d then got_by (node_count net) x d else pos 0) ≡ sum_to (node_count net) (λ u. inside net x set u)
got_inside net x set =
    sum_to-same (demand_count net) _ _ (λ d c. sym (sum_to-if (node_count net) (set d) (λ u. x u d)))
    ∙ sum_to-swap (demand_count net) (node_count net) (λ d u. if set d then x u d else pos 0)

want_parts : (net : Network) (x : ℕ → ℕ → ℤ) (set : ℕ → Bool) →
    sum_to (demand_count net) (λ d. if set d then pos 0 else want_of net d) ≡ lack_outside net x set +ℤ sum_to (demand_count net) (λ d. if set d then pos 0 else got_by (node_count net) x d)
want_parts net x set =
    sum_to-same (demand_count net) _ _ (λ d c. at (set d) d)
    ∙ sum_to-+ℤ (demand_count net) (λ d. if set d then pos 0 else lack_at net x d) (λ d. if set d then pos 0 else got_by (node_count net) x d)
  where
    at : (t : Bool) (d : ℕ) → (if t then pos 0 else want_of net d) ≡ (if t then pos 0 else lack_at net x d) +ℤ (if t then pos 0 else got_by (node_count net) x d)
    at true d = omega (arith, linear)
    at false d = omega (arith, linear)

-- all demands are what the set is over by, what is carried, and two parts that are not negative
pub want_sum-parts : (net : Network) (x : ℕ → ℕ → ℤ) (set rooms : ℕ → Bool) → want_sum net ≡ over_with net set rooms +ℤ (carried net x +ℤ (lack_outside net x set +ℤ slack net x set rooms))
want_sum-parts net x set rooms =
    let charges : sum_to (node_count net) (λ u. if rooms u then open_at net set u else cap_of net u) ≡ sum_to (node_count net) (λ u. inside net x set u) +ℤ slack net x set rooms =
    sum_to-same (node_count net) _ _ (λ u b. charge_parts net x set u (rooms u))
    ∙ sum_to-+ℤ (node_count net) (λ u. inside net x set u) (λ u. if rooms u then unused net x set u else spare_at net x u +ℤ outside net x set u) in
    let wants = sum_to-by_test (demand_count net) set (want_of net) in
    let gots = sum_to-by_test (demand_count net) set (λ d. got_by (node_count net) x d) in
    let all : carried net x ≡ sum_to (demand_count net) (λ d. got_by (node_count net) x d) = sum_to-swap (node_count net) (demand_count net) x in
    omega (arith, linear, charges, wants, gots, all, want_parts net x set, got_inside net x set)

-- ---- the two parts are not negative

pub spare-nonneg : (net : Network) (x : ℕ → ℕ → ℤ) (u : ℕ) → IsPartFlow net x → u < node_count net → pos 0 ≤ℤ spare_at net x u
spare-nonneg net x u part b = (let h : given_by (demand_count net) x u ≤ℤ cap_of net u = part.caps u b in omega (arith, linear))

pub lack-nonneg : (net : Network) (x : ℕ → ℕ → ℤ) (d : ℕ) → IsPartFlow net x → d < demand_count net → pos 0 ≤ℤ lack_at net x d
lack-nonneg net x d part b = (let h : got_by (node_count net) x d ≤ℤ want_of net d = part.wants d b in omega (arith, linear))

outside_terms : (net : Network) (x : ℕ → ℕ → ℤ) (set : ℕ → Bool) (u : ℕ) → IsPartFlow net x → u < node_count net → (d : ℕ) → d < demand_count net → pos 0 ≤ℤ (if set d then pos 0 else x u d)
outside_terms net x set u part b d c = unchosen-nonneg (set d) (x u d) (part.nonneg u d b c)

outside-nonneg : (net : Network) (x : ℕ → ℕ → ℤ) (set : ℕ → Bool) (u : ℕ) → IsPartFlow net x → u < node_count net → pos 0 ≤ℤ outside net x set u
outside-nonneg net x set u part b = sum_to-nonneg (demand_count net) _ (outside_terms net x set u part b)

unused_terms : (net : Network) (x : ℕ → ℕ → ℤ) (set : ℕ → Bool) (u : ℕ) → IsPartFlow net x → u < node_count net → (d : ℕ) → d < demand_count net → pos 0 ≤ℤ (if set d then room_of net u d -ℤ x u d else pos 0)
unused_terms net x set u part b d c = chosen-nonneg (set d) (room_of net u d -ℤ x u d) (let most = part.rooms u d b c in omega (arith, linear, most))

slack_terms : (net : Network) (x : ℕ → ℕ → ℤ) (set rooms : ℕ → Bool) → IsPartFlow net x → (u : ℕ) → u < node_count net → pos 0 ≤ℤ (if rooms u then unused net x set u else spare_at net x u +ℤ outside net x set u)
slack_terms net x set rooms part u b = at (rooms u)
  where
    at : (t : Bool) → pos 0 ≤ℤ (if t then unused net x set u else spare_at net x u +ℤ outside net x set u)
    at true = sum_to-nonneg (demand_count net) _ (unused_terms net x set u part b)
    at false = omega (arith, linear, spare-nonneg net x u part b, outside-nonneg net x set u part b)

pub slack-nonneg : (net : Network) (x : ℕ → ℕ → ℤ) (set rooms : ℕ → Bool) → IsPartFlow net x → pos 0 ≤ℤ slack net x set rooms
slack-nonneg net x set rooms part = sum_to-nonneg (node_count net) _ (slack_terms net x set rooms part)

pub lack_outside-nonneg : (net : Network) (x : ℕ → ℕ → ℤ) (set : ℕ → Bool) → IsPartFlow net x → pos 0 ≤ℤ lack_outside net x set
lack_outside-nonneg net x set part = sum_to-nonneg (demand_count net) _ (λ d b. unchosen-nonneg (set d) (lack_at net x d) (lack-nonneg net x d part b))

-- ---- the least that may be charged

-- the nodes whose rooms for the set are less than their caps
abbrev pub least_rooms : Network → (ℕ → Bool) → ℕ → Bool
least_rooms net set u = int_lt (open_at net set u) (cap_of net u)

pub over-least : (net : Network) (set : ℕ → Bool) → over net set ≡ over_with net set (least_rooms net set)
over-least net set =
    ap (λ z. sum_to (demand_count net) (λ d. if set d then want_of net d else pos 0) -ℤ z) (sum_to-same (node_count net) _ _ (λ u b. refl))

pub over-most : (net : Network) (set rooms : ℕ → Bool) → over_with net set rooms ≤ℤ over net set
over-most net set rooms =
    let charges = sum_to-le (node_count net) (λ u. int_min (cap_of net u) (open_at net set u)) (λ u. if rooms u then open_at net set u else cap_of net u) (λ u b. at (rooms u) (cap_of net u) (open_at net set u)) in
    omega (arith, linear, charges)
  where
    at : (t : Bool) (a b : ℤ) → int_min a b ≤ℤ (if t then b else a)
    at true a b = omega (arith, ints, clamps)
    at false a b = omega (arith, ints, clamps)

-- no set is over by more than what is not carried
pub over-le : (net : Network) (x : ℕ → ℕ → ℤ) (set : ℕ → Bool) → IsPartFlow net x → over net set ≤ℤ (want_sum net -ℤ carried net x)
over-le net x set part = omega (arith, linear, over-least net set, want_sum-parts net x set (least_rooms net set), lack_outside-nonneg net x set part, slack-nonneg net x set (least_rooms net set) part)

-- ---- a set that is over by all that is not carried

pub record IsTight (net : Network) (x : ℕ → ℕ → ℤ) (set rooms : ℕ → Bool) : Type 0 where
  pub tight : over_with net set rooms ≡ want_sum net -ℤ carried net x

no_slack : (net : Network) (x : ℕ → ℕ → ℤ) (set rooms : ℕ → Bool) → IsPartFlow net x → IsTight net x set rooms → (u : ℕ) → u < node_count net → (if rooms u then unused net x set u else spare_at net x u +ℤ outside net x set u) ≡ pos 0
no_slack net x set rooms part t u b =
    let lacks = lack_outside-nonneg net x set part in
    let e = t.tight in
    let none : slack net x set rooms ≤ℤ pos 0 = omega (arith, linear, want_sum-parts net x set rooms, lacks, e) in
    sum_to-all_zero (node_count net) u (λ v. if rooms v then unused net x set v else spare_at net x v +ℤ outside net x set v) b (slack_terms net x set rooms part) none

-- a node that is charged with its cap has nothing left of it
pub no_spare : (net : Network) (x : ℕ → ℕ → ℤ) (set rooms : ℕ → Bool) → IsPartFlow net x → IsTight net x set rooms → (u : ℕ) → u < node_count net → rooms u ≡ false → spare_at net x u ≤ℤ pos 0
no_spare net x set rooms part t u b e =
    let z = rw e at (no_slack net x set rooms part t u b) in
    omega (arith, linear, z, outside-nonneg net x set u part b)

-- and gives nothing outside
pub no_gift : (net : Network) (x : ℕ → ℕ → ℤ) (set rooms : ℕ → Bool) → IsPartFlow net x → IsTight net x set rooms → (u d : ℕ) → u < node_count net → d < demand_count net → rooms u ≡ false → set d ≡ false → x u d ≡ pos 0
no_gift net x set rooms part t u d b c e f =
    let z = rw e at (no_slack net x set rooms part t u b) in
    let none : outside net x set u ≤ℤ pos 0 = omega (arith, linear, z, spare-nonneg net x u part b) in
    let y = sum_to-all_zero (demand_count net) d (λ k. if set k then pos 0 else x u k) c (outside_terms net x set u part b) none in
    rw f at y

-- a node that is charged with its rooms has none left for the set
pub no_room : (net : Network) (x : ℕ → ℕ → ℤ) (set rooms : ℕ → Bool) → IsPartFlow net x → IsTight net x set rooms → (u d : ℕ) → u < node_count net → d < demand_count net → rooms u ≡ true → set d ≡ true → room_of net u d ≤ℤ x u d
no_room net x set rooms part t u d b c e f =
    let z = rw e at (no_slack net x set rooms part t u b) in
    let none : unused net x set u ≤ℤ pos 0 = omega (arith, linear, z) in
    let y = sum_to-all_zero (demand_count net) d (λ k. if set k then room_of net u k -ℤ x u k else pos 0) c (unused_terms net x set u part b) none in
    let w : room_of net u d -ℤ x u d ≡ pos 0 = rw f at y in
    omega (arith, linear, w)
