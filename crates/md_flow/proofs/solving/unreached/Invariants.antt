use Rattle.std.proofs.Common.{◌≡◌, ℕ, ◌<◌, ◌^◌, ◌==◌}
use Rattle.md_math.specs.Sets.{member}
use Rattle.md_flow.specs.Labels.{label_at}
use Rattle.md_flow.specs.Labels.{top_of}
use Rattle.md_flow.proofs.solving.unreached.Given as goal

abbrev pub invariant-loop-demand : goal.invariant-loop-demand
invariant-loop-demand l = record {
  size : l.set < 2 ^ l.demand;
  members : (d : ℕ) → d < l.demand → member l.set d ≡ (label_at l.labels.items d == top_of l.net);
}
