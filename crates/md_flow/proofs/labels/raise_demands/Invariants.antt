use Rattle.std.proofs.Common.{◌≡◌, ◌≢◌, ℕ, ◌<◌, ◌≤◌, true, false, length}
use Rattle.md_flow.specs.Labels.{label_at}
use Rattle.md_flow.specs.Tables.{flow_of}
use Rattle.md_flow.specs.Labels.{IsDemandLabel}
use Rattle.md_flow.proofs.labels.raise_demands.Given as goal

abbrev pub invariant-loop-demand : goal.invariant-loop-demand
invariant-loop-demand l = record {
  length : length l.demands.items ≡ length l.fn.demands.items;
  labels : (d : ℕ) → d < l.demand → IsDemandLabel l.net (flow_of l.flow) l.nodes.items d (label_at l.demands.items d);
  changed : l.changed ≡ true → (d : ℕ) × (d < l.demand) × (label_at l.demands.items d ≢ label_at l.fn.demands.items d);
  same : l.changed ≡ false → (d : ℕ) → d < l.demand → label_at l.demands.items d ≡ label_at l.fn.demands.items d;
  rest : (d : ℕ) → l.demand ≤ d → label_at l.demands.items d ≡ label_at l.fn.demands.items d;
}
