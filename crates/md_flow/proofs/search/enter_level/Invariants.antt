use Rattle.std.proofs.Common.{◌≡◌, ℕ, ◌<◌, true, length}
use Rattle.md_flow.specs.Network.{node_count, demand_count}
use Rattle.md_flow.specs.Labels.{label_at}
use Rattle.md_flow.specs.Labels.{top_of, AreLinked}
use Rattle.md_flow.specs.Search.{entry_at}
use Rattle.md_flow.specs.Search.{AreEntries, AreKnown}
use Rattle.md_flow.specs.Tables.{flow_of}
use Rattle.md_flow.proofs.search.enter_level.Given as goal

abbrev pub invariant-loop-demand : goal.invariant-loop-demand
invariant-loop-demand l = record {
  places : length l.search.places.items ≡ 144;
  entries : AreEntries l.net (flow_of l.flow) l.labels.items l.search.entries.items l.search.before.items;
  kept : (d : ℕ) → d < demand_count l.net → entry_at l.fn.search.entries.items d < node_count l.net → entry_at l.search.entries.items d < node_count l.net;
  known : l.fresh ≡ true → AreLinked l.net (flow_of l.flow) l.labels.items → AreKnown l.net l.labels.items l.fn.search.entries.items l.level → (d : ℕ) → d < l.demand → label_at l.labels.items d ≡ l.level → label_at l.labels.items d < top_of l.net → entry_at l.search.entries.items d < node_count l.net;
}
