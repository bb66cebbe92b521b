-- Labels that are raised round by round.
use Rattle.std.proofs.Common.{◌≡◌, ◌≢◌, ℕ, ◌+◌, ◌<◌, ◌≤◌, ℤ, pos, ◌-ℤ◌, ◌≤ℤ◌, ◌<ℤ◌, ◌⊎◌, inl, inr, List, length, replicate, unsigned_abs, refl, sym, ap, ◌∙◌, subst, arith}
use Rattle.std.proofs.lemmas.Bool.{cases_lt}
use Rattle.std.proofs.lemmas.List.{length-replicate}
use Rattle.std.proofs.lemmas.Int.{ints}
use Rattle.md_math.proofs.Ring.{linear}
use Rattle.md_math.proofs.SumLaws.{sum_to-nonneg, sum_to-less}
use Rattle.md_math.specs.Sums.{sum_to}
use Rattle.md_flow.specs.Network.{Network, node_count, demand_count, room_of}
use Rattle.md_flow.specs.Labels.{spare_at, label_at, top_of, AreLabels, AreRaised, AreReached, AreLinked, IsNodeLabel, IsDemandLabel, ReachesDemand}
use Rattle.md_flow.proofs.Cells.{get_or-zeros}

-- ---- the label of one node, after the first i demands

pub record IsNodeLabelBelow (net : Network) (x : ℕ → ℕ → ℤ) (demands : List ℕ) (u i label : ℕ) : Type 0 where
  pub top : label ≤ top_of net
  pub back : (d : ℕ) → d < i → pos 0 <ℤ x u d → label ≤ label_at demands d + 1
  pub reached : label < top_of net → (d : ℕ) × (d < demand_count net) × (pos 0 <ℤ x u d) × (label ≡ label_at demands d + 1)

pub node_label-none : (net : Network) (x : ℕ → ℕ → ℤ) (demands : List ℕ) (u label : ℕ) → label ≡ top_of net → IsNodeLabelBelow net x demands u 0 label
node_label-none net x demands u label e = record { top = omega arith; back = λ d b. absurd (omega arith); reached = λ l. absurd (omega arith) }

pub node_label-more : (net : Network) (x : ℕ → ℕ → ℤ) (demands : List ℕ) (u i label new amount : ℕ) → IsNodeLabelBelow net x demands u i label → i < demand_count net → pos amount ≡ x u i → ((new ≡ label) × (0 < amount → label ≤ label_at demands i + 1)) ⊎ ((new ≡ label_at demands i + 1) × (0 < amount) × (label_at demands i < label)) → IsNodeLabelBelow net x demands u (i + 1) new
node_label-more net x demands u i label new amount h b e (inl (same, small)) = rw same (record {
  top = h.top;
  back = λ d c p. elim (cases_lt d i) [ inl l ↦ h.back d l p | inr l ↦ (let here : i ≡ d = omega arith in subst (λ k. label ≤ label_at demands k + 1) here (small (let q : pos 0 <ℤ x u i = subst (λ k. pos 0 <ℤ x u k) (sym here) p in omega (arith, ints, q, e)))) ];
  reached = h.reached;
})
node_label-more net x demands u i label new amount h b e (inr (is, some, less)) =
    let top : label ≤ top_of net = h.top in
    record {
      top = omega arith;
      back = λ d c p. elim (cases_lt d i) [ inl l ↦ omega (arith, h.back d l p, is, less) | inr l ↦ (let here : i ≡ d = omega arith in omega (arith, is, ap (label_at demands) here)) ];
      reached = λ l. (i, b, omega (arith, ints, e, some), is);
    }

pub IsNodeLabel-all : (net : Network) (x : ℕ → ℕ → ℤ) (demands : List ℕ) (u i label : ℕ) → IsNodeLabelBelow net x demands u i label → i ≡ demand_count net → spare_at net x u ≤ℤ pos 0 → IsNodeLabel net x demands u label
IsNodeLabel-all net x demands u i label h e full = record {
  top = h.top;
  spare = λ r. absurd (omega (arith, linear, r, full));
  back = λ d b p. h.back d (omega arith) p;
  reached = λ l. inr (h.reached l);
}

pub IsNodeLabel-spare : (net : Network) (x : ℕ → ℕ → ℤ) (demands : List ℕ) (u : ℕ) → pos 0 <ℤ spare_at net x u → IsNodeLabel net x demands u 0
IsNodeLabel-spare net x demands u r = record { top = omega arith; spare = λ _. refl; back = λ d b p. omega arith; reached = λ l. inl r }

-- ---- the label of one demand, after the first i nodes

pub record IsDemandLabelBelow (net : Network) (x : ℕ → ℕ → ℤ) (nodes : List ℕ) (d i label : ℕ) : Type 0 where
  pub top : label ≤ top_of net
  pub along : (u : ℕ) → u < i → x u d <ℤ room_of net u d → label ≤ label_at nodes u
  pub reached : label < top_of net → ReachesDemand net x nodes d label

pub demand_label-none : (net : Network) (x : ℕ → ℕ → ℤ) (nodes : List ℕ) (d label : ℕ) → label ≡ top_of net → IsDemandLabelBelow net x nodes d 0 label
demand_label-none net x nodes d label e = record { top = omega arith; along = λ u b. absurd (omega arith); reached = λ l. absurd (omega arith) }

pub demand_label-more : (net : Network) (x : ℕ → ℕ → ℤ) (nodes : List ℕ) (d i label new : ℕ) → IsDemandLabelBelow net x nodes d i label → i < node_count net → ((new ≡ label) × (x i d <ℤ room_of net i d → label ≤ label_at nodes i)) ⊎ ((new ≡ label_at nodes i) × (x i d <ℤ room_of net i d) × (label_at nodes i < label)) → IsDemandLabelBelow net x nodes d (i + 1) new
demand_label-more net x nodes d i label new h b (inl (same, small)) = rw same (record {
  top = h.top;
  along = λ u c t. elim (cases_lt u i) [ inl l ↦ h.along u l t | inr l ↦ (let here : i ≡ u = omega arith in subst (λ k. label ≤ label_at nodes k) here (small (subst (λ k. x k d <ℤ room_of net k d) (sym here) t))) ];
  reached = h.reached;
})
demand_label-more net x nodes d i label new h b (inr (is, room, less)) =
    let top : label ≤ top_of net = h.top in
    record {
      top = omega arith;
      along = λ u c t. elim (cases_lt u i) [ inl l ↦ omega (arith, h.along u l t, is, less) | inr l ↦ (let here : i ≡ u = omega arith in omega (arith, is, ap (label_at nodes) here)) ];
      reached = λ l. (i, b, room, sym is);
    }

pub IsDemandLabel-all : (net : Network) (x : ℕ → ℕ → ℤ) (nodes : List ℕ) (d i label : ℕ) → IsDemandLabelBelow net x nodes d i label → i ≡ node_count net → IsDemandLabel net x nodes d label
IsDemandLabel-all net x nodes d i label h e = record { top = h.top; along = λ u b t. h.along u (omega arith) t; reached = h.reached }

-- ---- one round

pub record AreNodeLabels (net : Network) (x : ℕ → ℕ → ℤ) (demands nodes : List ℕ) : Type 0 where
  pub at : (u : ℕ) → u < node_count net → IsNodeLabel net x demands u (label_at nodes u)

pub record AreDemandLabels (net : Network) (x : ℕ → ℕ → ℤ) (nodes demands : List ℕ) : Type 0 where
  pub at : (d : ℕ) → d < demand_count net → IsDemandLabel net x nodes d (label_at demands d)

node_raised : (net : Network) (x : ℕ → ℕ → ℤ) (nodes nodes' demands : List ℕ) → AreLabels net x nodes demands → AreNodeLabels net x demands nodes' → (u : ℕ) → u < node_count net → label_at nodes u ≤ label_at nodes' u
node_raised net x nodes nodes' demands h k u b =
    let new = k.at u b in
    elim (cases_lt (label_at nodes' u) (top_of net)) [
      | inl l ↦
          elim (new.reached l) [
            | inl spare ↦ omega (arith, h.from_spare u b spare)
            | inr w ↦ omega (arith, h.back u w.0 b w.1 w.2, w.3)
          ]
      | inr l ↦ omega (arith, h.node_top u b)
    ]

pub AreLabels-nodes : (net : Network) (x : ℕ → ℕ → ℤ) (nodes nodes' demands : List ℕ) → AreLabels net x nodes demands → length nodes' ≡ length nodes → AreNodeLabels net x demands nodes' → AreLabels net x nodes' demands
AreLabels-nodes net x nodes nodes' demands h e k = record {
  one_node = e ∙ h.one_node;
  one_demand = h.one_demand;
  node_top = λ u b. (k.at u b).top;
  demand_top = h.demand_top;
  from_spare = λ u b r. (k.at u b).spare r;
  along = λ u d b c t. omega (arith, h.along u d b c t, node_raised net x nodes nodes' demands h k u b);
  back = λ u d b c p. (k.at u b).back d c p;
}

demand_raised : (net : Network) (x : ℕ → ℕ → ℤ) (nodes demands demands' : List ℕ) → AreLabels net x nodes demands → AreDemandLabels net x nodes demands' → (d : ℕ) → d < demand_count net → label_at demands d ≤ label_at demands' d
demand_raised net x nodes demands demands' h k d b =
    let new = k.at d b in
    elim (cases_lt (label_at demands' d) (top_of net)) [
      | inl l ↦ (let w = new.reached l in omega (arith, h.along w.0 d w.1 b w.2, w.3))
      | inr l ↦ omega (arith, h.demand_top d b)
    ]

pub AreLabels-demands : (net : Network) (x : ℕ → ℕ → ℤ) (nodes demands demands' : List ℕ) → AreLabels net x nodes demands → length demands' ≡ length demands → AreDemandLabels net x nodes demands' → AreLabels net x nodes demands'
AreLabels-demands net x nodes demands demands' h e k = record {
  one_node = h.one_node;
  one_demand = e ∙ h.one_demand;
  node_top = h.node_top;
  demand_top = λ d b. (k.at d b).top;
  from_spare = h.from_spare;
  along = λ u d b c t. (k.at d c).along u b t;
  back = λ u d b c p. omega (arith, h.back u d b c p, demand_raised net x nodes demands demands' h k d c);
}

pub AreRaised-refl : (net : Network) (nodes demands : List ℕ) → AreRaised net nodes nodes demands demands
AreRaised-refl net nodes demands = record { node = λ u b. omega arith; demand = λ d b. omega arith }

pub AreRaised-round : (net : Network) (x : ℕ → ℕ → ℤ) (nodes0 nodes nodes' demands0 demands demands' : List ℕ) → AreRaised net nodes0 nodes demands0 demands → AreLabels net x nodes demands → AreNodeLabels net x demands nodes' → AreLabels net x nodes' demands → AreDemandLabels net x nodes' demands' → AreRaised net nodes0 nodes' demands0 demands'
AreRaised-round net x nodes0 nodes nodes' demands0 demands demands' r h k h' k' = record {
  node = λ u b. omega (arith, r.node u b, node_raised net x nodes nodes' demands h k u b);
  demand = λ d b. omega (arith, r.demand d b, demand_raised net x nodes' demands demands' h' k' d b);
}

-- where no demand's label has changed, all labels are reached
pub AreReached-settled : (net : Network) (x : ℕ → ℕ → ℤ) (nodes demands demands' : List ℕ) → AreNodeLabels net x demands nodes → AreDemandLabels net x nodes demands' → ((d : ℕ) → d < demand_count net → label_at demands' d ≡ label_at demands d) → AreReached net x nodes demands'
AreReached-settled net x nodes demands demands' k k' same = record {
  node = λ u b l. elim ((k.at u b).reached l) [ inl spare ↦ inl spare | inr w ↦ inr (w.0, w.1, w.2, omega (arith, w.3, same w.0 w.1)) ];
  demand = λ d b l. (k'.at d b).reached l;
}

pub AreLinked-reached : (net : Network) (x : ℕ → ℕ → ℤ) (nodes demands : List ℕ) → AreLabels net x nodes demands → AreReached net x nodes demands → AreLinked net x demands
AreLinked-reached net x nodes demands h r = record {
  linked = λ d b l.
      let w = r.demand d b l in
      elim (r.node w.0 w.1 (omega (arith, w.3))) [
        | inl spare ↦ (w.0, w.1, w.2, inl (omega (arith, w.3, h.from_spare w.0 w.1 spare), spare))
        | inr v ↦ (w.0, w.1, w.2, inr (v.0, v.1, v.2, omega (arith, w.3, v.3)))
      ];
}

-- ---- how far the labels of the demands are below the top

pub distance : Network → List ℕ → ℤ
distance net demands = sum_to (demand_count net) (λ d. pos (top_of net) -ℤ pos (label_at demands d))

pub distance-less : (net : Network) (x : ℕ → ℕ → ℤ) (nodes demands demands' : List ℕ) (d : ℕ) → AreLabels net x nodes demands → AreDemandLabels net x nodes demands' → d < demand_count net → label_at demands' d ≢ label_at demands d → unsigned_abs (distance net demands') < unsigned_abs (distance net demands)
unfolding distance
distance-less net x nodes demands demands' d h k b apart =
    let less = sum_to-less (demand_count net) d (λ e. pos (top_of net) -ℤ pos (label_at demands' e)) (λ e. pos (top_of net) -ℤ pos (label_at demands e)) b (λ e c. (let r = demand_raised net x nodes demands demands' h k e c in omega (arith, ints, r))) (let r = demand_raised net x nodes demands demands' h k d b in omega (arith, ints, r, apart)) in
    let nonneg : pos 0 ≤ℤ sum_to (demand_count net) (λ e. pos (top_of net) -ℤ pos (label_at demands' e)) = sum_to-nonneg (demand_count net) _ (λ e c. (let t = (k.at e c).top in omega (arith, ints, t))) in
    omega (arith, ints, less, nonneg)

-- ---- all labels are 0

pub AreLabels-zeros : (net : Network) (x : ℕ → ℕ → ℤ) → AreLabels net x (replicate (node_count net) 0) (replicate (demand_count net) 0)
AreLabels-zeros net x = record {
  one_node = length-replicate {A = ℕ} (node_count net) 0;
  one_demand = length-replicate {A = ℕ} (demand_count net) 0;
  node_top = λ u b. omega (arith, get_or-zeros (node_count net) u);
  demand_top = λ d b. omega (arith, get_or-zeros (demand_count net) d);
  from_spare = λ u b r. get_or-zeros (node_count net) u;
  along = λ u d b c t. omega (arith, get_or-zeros (demand_count net) d);
  back = λ u d b c p. omega (arith, get_or-zeros (node_count net) u);
}
