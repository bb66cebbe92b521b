-- The demands that no path reaches are the largest worst set.
use Rattle.std.proofs.Common.{◌≡◌, ℕ, zero, suc, ◌+◌, ◌^◌, ◌<◌, ◌≤◌, ℤ, pos, ◌+ℤ◌, ◌-ℤ◌, ◌≤ℤ◌, ◌<ℤ◌, ◌⊎◌, inl, inr, Bool, true, false, ◌==◌, not, if◌then◌else◌, nat_le, List, refl, sym, ◌∙◌, arith, eqb-true, eq-eqb}
use Rattle.std.proofs.lemmas.Bool.{eqb-false}
use Rattle.std.proofs.lemmas.Int.{ints, by_lt_z}
use Rattle.std.proofs.lemmas.Bool.Decides.{nat_tests}
use Rattle.md_math.proofs.Ring.{linear}
use Rattle.md_math.proofs.Order.{≤ℤ_antisymm, chosen-nonneg, chosen-le}
use Rattle.md_math.proofs.SumLaws.{sum_to-same, sum_to-+ℤ, sum_to-zero, sum_to-le, sum_to-at_least, sum_to-positive, sum_to-sub, sum_to-swap}
use Rattle.md_math.specs.Sets.{member}
use Rattle.md_math.specs.Sums.{sum_to}
use Rattle.md_math.proofs.BoundedTests.{true_or_false}
use Rattle.md_flow.specs.Network.{Network, node_count, demand_count, want_of, room_of, want_sum}
use Rattle.md_flow.specs.Flows.{got_by, carried, IsPartFlow, Meets}
use Rattle.md_flow.specs.Over.{over, NoneOver, IsWorst}
use Rattle.md_flow.specs.Labels.{spare_at, lack_at, label_at, top_of, AreLabels, AreReached, AllFull}
use Rattle.md_flow.proofs.PathLaws.{ones}
use Rattle.md_flow.proofs.SetLaws.{outside, unused, over_with, lack_outside, slack, want_sum-parts, spare-nonneg, lack-nonneg, least_rooms, over-least, over-most, over-le, IsTight, no_spare, no_gift, no_room}

-- ---- no label is left out: a label below the top is below the number of demands

-- how many demands have a label of at most j
abbrev low_count : Network → List ℕ → ℕ → ℤ
low_count net demands j = sum_to (demand_count net) (λ d. if nat_le (label_at demands d) j then pos 1 else pos 0)

low_term : (l j : ℕ) → (if nat_le l (j + 1) then pos 1 else pos 0) ≡ (if nat_le l j then pos 1 else pos 0) +ℤ (if l == (j + 1) then pos 1 else pos 0)
low_term l j = grind (arith, ints, nat_tests)

one-nonneg : pos 0 ≤ℤ pos 1
one-nonneg = omega (arith, ints)

low_count-more : (net : Network) (demands : List ℕ) (j d : ℕ) → d < demand_count net → label_at demands d ≡ j + 1 → (low_count net demands j +ℤ pos 1) ≤ℤ low_count net demands (j + 1)
low_count-more net demands j d b e =
    let parts : low_count net demands (j + 1) ≡ low_count net demands j +ℤ sum_to (demand_count net) (λ k. if label_at demands k == (j + 1) then pos 1 else pos 0) =
    sum_to-same (demand_count net) _ _ (λ k c. low_term (label_at demands k) j)
    ∙ sum_to-+ℤ (demand_count net) (λ k. if nat_le (label_at demands k) j then pos 1 else pos 0) (λ k. if label_at demands k == (j + 1) then pos 1 else pos 0) in
    let here = sum_to-at_least (demand_count net) d (λ k. if label_at demands k == (j + 1) then pos 1 else pos 0) b (λ k c. chosen-nonneg (label_at demands k == (j + 1)) (pos 1) one-nonneg) in
    let one : (if label_at demands d == (j + 1) then pos 1 else pos 0) ≡ pos 1 = rw (eq-eqb (label_at demands d) (j + 1) e) refl in
    omega (arith, linear, parts, here, one)

-- the labels from 0 to that of a reached demand all stand somewhere
low_count-chain : (net : Network) (x : ℕ → ℕ → ℤ) (nodes demands : List ℕ) → AreLabels net x nodes demands → AreReached net x nodes demands → (j d : ℕ) → d < demand_count net → label_at demands d ≡ j → j < top_of net → pos (j + 1) ≤ℤ low_count net demands j
low_count-chain net x nodes demands labels reached zero d b e l =
    let here = sum_to-at_least (demand_count net) d (λ k. if nat_le (label_at demands k) zero then pos 1 else pos 0) b (λ k c. chosen-nonneg (nat_le (label_at demands k) zero) (pos 1) one-nonneg) in
    let one : (if nat_le (label_at demands d) zero then pos 1 else pos 0) ≡ pos 1 = (let h : label_at demands d ≡ zero = e in grind (arith, ints, nat_tests)) in
    omega (arith, ints, here, one)
low_count-chain net x nodes demands labels reached (suc j) d b e l =
    let w = reached.demand d b (omega arith) in
    let v = reached.node w.0 w.1 (omega (arith, w.3)) in
    let before = down w.0 w.1 (w.3 ∙ e) v in
    let same : suc j ≡ j + 1 = omega arith in
    rw same (omega (arith, ints, low_count-chain net x nodes demands labels reached j before.0 before.1 before.2 (omega arith), low_count-more net demands j d b (e ∙ same)))
  where
    down : (u : ℕ) → u < node_count net → label_at nodes u ≡ suc j → (pos 0 <ℤ spare_at net x u) ⊎ ((k : ℕ) × (k < demand_count net) × (pos 0 <ℤ x u k) × (label_at nodes u ≡ label_at demands k + 1)) → (k : ℕ) × (k < demand_count net) × (label_at demands k ≡ j)
    down u c f (inl spare) = (let z : label_at nodes u ≡ 0 = labels.from_spare u c spare in absurd (omega arith))
    down u c f (inr (k, m, p, q)) = (k, m, omega arith)

no_gap : (net : Network) (x : ℕ → ℕ → ℤ) (nodes demands : List ℕ) → AreLabels net x nodes demands → AreReached net x nodes demands → (d : ℕ) → d < demand_count net → label_at demands d < top_of net → label_at demands d < demand_count net
no_gap net x nodes demands labels reached d b l =
    let chain = low_count-chain net x nodes demands labels reached (label_at demands d) d b refl l in
    let most = sum_to-le (demand_count net) (λ k. if nat_le (label_at demands k) (label_at demands d) then pos 1 else pos 0) (λ _. pos 1) (λ k c. chosen-le (nat_le (label_at demands k) (label_at demands d)) (pos 1) one-nonneg) in
    omega (arith, ints, chain, most, ones (demand_count net))

-- ---- the demands that no path reaches

pub record IsUnreached (net : Network) (demands : List ℕ) (set : ℕ → Bool) : Type 0 where
  pub is : (d : ℕ) → d < demand_count net → set d ≡ (label_at demands d == top_of net)

label_of_member : (net : Network) (demands : List ℕ) (set : ℕ → Bool) (d : ℕ) → IsUnreached net demands set → d < demand_count net → set d ≡ true → label_at demands d ≡ top_of net
label_of_member net demands set d is b e = eqb-true (label_at demands d) (top_of net) (sym (is.is d b) ∙ e)

label_of_other : (net : Network) (x : ℕ → ℕ → ℤ) (nodes demands : List ℕ) (set : ℕ → Bool) (d : ℕ) → AreLabels net x nodes demands → IsUnreached net demands set → d < demand_count net → set d ≡ false → label_at demands d < top_of net
label_of_other net x nodes demands set d labels is b e =
    let apart = eqb-false (label_at demands d) (top_of net) (sym (is.is d b) ∙ e) in
    let most : label_at demands d ≤ top_of net = labels.demand_top d b in
    omega (arith, apart)

zero_from : (z : ℤ) → pos 0 ≤ℤ z → (pos 0 <ℤ z → ⊥) → z ≡ pos 0
zero_from z h k = by_lt_z (pos 0) z (λ l. absurd (k l)) (λ l. ≤ℤ_antisymm z (pos 0) l h)

record IsEnd (net : Network) (x : ℕ → ℕ → ℤ) (nodes demands : List ℕ) (set : ℕ → Bool) : Type 0 where
  part : IsPartFlow net x
  labels : AreLabels net x nodes demands
  reached : AreReached net x nodes demands
  full : AllFull net x demands
  unreached : IsUnreached net demands set

-- the nodes that a path reaches are charged with their rooms
abbrev reached_nodes : Network → List ℕ → ℕ → Bool
reached_nodes net nodes u = not (label_at nodes u == top_of net)

node_of_rooms : (net : Network) (nodes : List ℕ) (u : ℕ) → reached_nodes net nodes u ≡ true → label_at nodes u ≡ top_of net → ⊥
node_of_rooms net nodes u e h = (let t : (label_at nodes u == top_of net) ≡ true = eq-eqb (label_at nodes u) (top_of net) h in let f : not (label_at nodes u == top_of net) ≡ false = rw t refl in cc)

node_of_cap : (net : Network) (nodes : List ℕ) (u : ℕ) → reached_nodes net nodes u ≡ false → label_at nodes u ≡ top_of net
node_of_cap net nodes u e = at (label_at nodes u == top_of net) refl e
  where
    at : (t : Bool) → (label_at nodes u == top_of net) ≡ t → not t ≡ false → label_at nodes u ≡ top_of net
    at true h f = eqb-true (label_at nodes u) (top_of net) h
    at false h f = cc

tight_lacks : (net : Network) (x : ℕ → ℕ → ℤ) (nodes demands : List ℕ) (set : ℕ → Bool) → IsEnd net x nodes demands set → lack_outside net x set ≡ pos 0
tight_lacks net x nodes demands set h = sum_to-zero (demand_count net) _ (λ d b. at d b (set d) refl)
  where
    at : (d : ℕ) → d < demand_count net → (t : Bool) → set d ≡ t → (if t then pos 0 else lack_at net x d) ≡ pos 0
    at d b true e = refl
    at d b false e = ≤ℤ_antisymm (lack_at net x d) (pos 0) (h.full.full d b (label_of_other net x nodes demands set d h.labels h.unreached b e)) (lack-nonneg net x d h.part b)

tight_slack : (net : Network) (x : ℕ → ℕ → ℤ) (nodes demands : List ℕ) (set : ℕ → Bool) → IsEnd net x nodes demands set → slack net x set (reached_nodes net nodes) ≡ pos 0
tight_slack net x nodes demands set h = sum_to-zero (node_count net) _ (λ u b. at u b (reached_nodes net nodes u) refl)
  where
    room : (u d : ℕ) → u < node_count net → d < demand_count net → reached_nodes net nodes u ≡ true → (t : Bool) → set d ≡ t → (if t then room_of net u d -ℤ x u d else pos 0) ≡ pos 0
    room u d b c e false f = refl
    room u d b c e true f =
        let most = h.part.rooms u d b c in
        zero_from (room_of net u d -ℤ x u d) (omega (arith, linear, most)) (λ l.
        let top = label_of_member net demands set d h.unreached c f in
        let below = h.labels.along u d b c (omega (arith, linear, l)) in
        let high = h.labels.node_top u b in
        node_of_rooms net nodes u e (omega (arith, top, below, high)))

    gift : (u d : ℕ) → u < node_count net → d < demand_count net → reached_nodes net nodes u ≡ false → (t : Bool) → set d ≡ t → (if t then pos 0 else x u d) ≡ pos 0
    gift u d b c e true f = refl
    gift u d b c e false f =
        zero_from (x u d) (h.part.nonneg u d b c) (λ l.
        let low = no_gap net x nodes demands h.labels h.reached d c (label_of_other net x nodes demands set d h.labels h.unreached c f) in
        omega (arith, low, h.labels.back u d b c l, node_of_cap net nodes u e))

    at : (u : ℕ) → u < node_count net → (t : Bool) → reached_nodes net nodes u ≡ t → (if t then unused net x set u else spare_at net x u +ℤ outside net x set u) ≡ pos 0
    at u b true e = sum_to-zero (demand_count net) _ (λ d c. room u d b c e (set d) refl)
    at u b false e =
        let none : outside net x set u ≡ pos 0 = sum_to-zero (demand_count net) _ (λ d c. gift u d b c e (set d) refl) in
        let full : spare_at net x u ≡ pos 0 = zero_from (spare_at net x u) (spare-nonneg net x u h.part b) (λ l. (let z : label_at nodes u ≡ 0 = h.labels.from_spare u b l in omega (arith, node_of_cap net nodes u e))) in
        omega (arith, linear, none, full)

over-end : (net : Network) (x : ℕ → ℕ → ℤ) (nodes demands : List ℕ) (set : ℕ → Bool) → IsEnd net x nodes demands set → over net set ≡ want_sum net -ℤ carried net x
over-end net x nodes demands set h =
    let tight : over_with net set (reached_nodes net nodes) ≡ want_sum net -ℤ carried net x = omega (arith, linear, want_sum-parts net x set (reached_nodes net nodes), tight_lacks net x nodes demands set h, tight_slack net x nodes demands set h) in
    ≤ℤ_antisymm (over net set) (want_sum net -ℤ carried net x) (over-le net x set h.part) (let most = over-most net set (reached_nodes net nodes) in omega (arith, linear, tight, most))

-- where a demand that is reached stands in another set that is over by as much, so does one with the label before
one_before : (net : Network) (x : ℕ → ℕ → ℤ) (nodes demands : List ℕ) (set other rooms : ℕ → Bool) → IsEnd net x nodes demands set → IsTight net x other rooms → (d : ℕ) → d < demand_count net → label_at demands d < top_of net → other d ≡ true → (e : ℕ) × (e < demand_count net) × (label_at demands d ≡ label_at demands e + 1) × (other e ≡ true)
one_before net x nodes demands set other rooms h t d b l m =
    let w = h.reached.demand d b l in
    elim (true_or_false (rooms w.0)) [
      | inl full ↦ (let none = no_room net x other rooms h.part t w.0 d w.1 b full m in absurd (omega (arith, linear, none, w.2)))
      | inr cap ↦
          elim (h.reached.node w.0 w.1 (omega (arith, w.3, l))) [
            | inl spare ↦ (let none = no_spare net x other rooms h.part t w.0 w.1 cap in absurd (omega (arith, linear, spare, none)))
            | inr v ↦
                elim (true_or_false (other v.0)) [
                  | inl in_it ↦ (v.0, v.1, omega (arith, v.3, w.3), in_it)
                  | inr out ↦ (let none = no_gift net x other rooms h.part t w.0 v.0 w.1 v.1 cap out in absurd (omega (arith, linear, v.2, none)))
                ]
          ]
    ]

-- and so none does
kept_out : (net : Network) (x : ℕ → ℕ → ℤ) (nodes demands : List ℕ) (set other rooms : ℕ → Bool) → IsEnd net x nodes demands set → IsTight net x other rooms → (j d : ℕ) → d < demand_count net → label_at demands d ≡ j → j < top_of net → other d ≡ true → ⊥
kept_out net x nodes demands set other rooms h t zero d b e l m =
    let w = one_before net x nodes demands set other rooms h t d b (omega (arith, e, l)) m in
    omega (arith, w.2, e)
kept_out net x nodes demands set other rooms h t (suc j) d b e l m =
    let w = one_before net x nodes demands set other rooms h t d b (omega (arith, e, l)) m in
    kept_out net x nodes demands set other rooms h t j w.0 w.1 (omega (arith, w.2, e)) (omega (arith, l)) w.3

-- all demands less what is carried is what they lack
lack-sum : (net : Network) (x : ℕ → ℕ → ℤ) → want_sum net -ℤ carried net x ≡ sum_to (demand_count net) (λ d. lack_at net x d)
lack-sum net x = omega (arith, linear, sum_to-sub (demand_count net) (want_of net) (λ d. got_by (node_count net) x d), sum_to-swap (node_count net) (demand_count net) x)

pub IsWorst-end : (net : Network) (x : ℕ → ℕ → ℤ) (nodes demands : List ℕ) (set : ℕ) → set < 2 ^ demand_count net → IsPartFlow net x → AreLabels net x nodes demands → AreReached net x nodes demands → AllFull net x demands → IsUnreached net demands (member set) → (d : ℕ) → d < demand_count net → pos 0 <ℤ lack_at net x d → IsWorst net set
IsWorst-end net x nodes demands set inside part labels reached full unreached d b lacking =
    let h : IsEnd net x nodes demands (member set) = record { part = part; labels = labels; reached = reached; full = full; unreached = unreached } in
    let is = over-end net x nodes demands (member set) h in
    record {
      inside = inside;
      positive = (let p = sum_to-positive (demand_count net) d (λ k. lack_at net x k) b (λ k c. lack-nonneg net x k part c) lacking in omega (arith, linear, is, lack-sum net x, p));
      greatest = λ other _. omega (arith, linear, is, over-le net x (member other) part);
      largest = λ other _ e k c m.
          elim (true_or_false (member set k)) [
            | inl in_it ↦ in_it
            | inr out ↦
                let tight : IsTight net x (member other) (least_rooms net (member other)) = record { tight = omega (arith, linear, over-least net (member other), e, is) } in
                absurd (kept_out net x nodes demands (member set) (member other) (least_rooms net (member other)) h tight (label_at demands k) k c refl (label_of_other net x nodes demands (member set) k labels unreached c out) m)
          ];
    }

-- what is carried then
pub carried-end : (net : Network) (x : ℕ → ℕ → ℤ) (nodes demands : List ℕ) (set : ℕ → Bool) → IsPartFlow net x → AreLabels net x nodes demands → AreReached net x nodes demands → AllFull net x demands → IsUnreached net demands set → carried net x ≡ want_sum net -ℤ over net set
carried-end net x nodes demands set part labels reached full unreached =
    let h : IsEnd net x nodes demands set = record { part = part; labels = labels; reached = reached; full = full; unreached = unreached } in
    omega (arith, linear, over-end net x nodes demands set h)

-- ---- where no demand lacks anything

pub Meets-end : (net : Network) (x : ℕ → ℕ → ℤ) → IsPartFlow net x → ((d : ℕ) → d < demand_count net → lack_at net x d ≤ℤ pos 0) → Meets net x
Meets-end net x part none = record { part = part; exact = λ d b. (let most = part.wants d b in omega (arith, linear, none d b, most)) }

pub NoneOver-meets : (net : Network) (x : ℕ → ℕ → ℤ) → Meets net x → NoneOver net
NoneOver-meets net x h = record {
  none_over = λ set _.
      let zero_sum : sum_to (demand_count net) (λ d. lack_at net x d) ≡ pos 0 = sum_to-zero (demand_count net) _ (λ d b. (let e = h.exact d b in omega (arith, linear, e))) in
      omega (arith, linear, over-le net x (member set) h.part, lack-sum net x, zero_sum);
}
