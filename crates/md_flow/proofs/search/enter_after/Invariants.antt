use Rattle.std.proofs.Common.{◌≡◌, ℕ, ◌+◌, ◌<◌, pos, ◌≤ℤ◌, ◌<ℤ◌, true, length}
use Rattle.md_flow.specs.Network.{node_count, room_of}
use Rattle.md_flow.specs.Labels.{label_at}
use Rattle.md_flow.specs.Search.{entry_at}
use Rattle.md_flow.specs.Tables.{flow_of}
use Rattle.md_flow.proofs.search.enter_after.Given as goal

abbrev pub invariant-loop-before : goal.invariant-loop-before
invariant-loop-before l = record {
  places : length l.search.places.items ≡ 144;
  entries : l.search.entries.items ≡ l.fn.search.entries.items;
  before : l.search.before.items ≡ l.fn.search.before.items;
  none : l.fresh ≡ true → (e : ℕ) → e < l.before → label_at l.labels.items l.demand ≡ label_at l.labels.items e + 1 → entry_at l.fn.search.entries.items e < node_count l.net → (u : ℕ) → u < node_count l.net → flow_of l.flow u l.demand <ℤ room_of l.net u l.demand → flow_of l.flow u e ≤ℤ pos 0;
}
