-- What a flow is seen as: its sizes, and its amounts by node, and then by demand.
use Rattle.std.specs.Prelude.{ℕ, ◌+◌, ◌*◌, ◌^◌, ◌<◌, ◌≤◌, ◌≡◌, ℤ, pos, ◌+ℤ◌, List, length, slice_index}
use Rattle.md_flow.specs.Flows.{given_by, got_by}
use Rattle.md_flow.specs.Paths.{amount_at_pairs}

pub record Table : Type 0 where
  pub nodes : ℕ
  pub demands : ℕ
  pub amounts : List ℕ

-- the amount for a node and a demand, in a list with m amounts for each node
abbrev pub cell_of : ℕ → List ℕ → ℕ → ℕ → ℤ
cell_of m amounts u d = pos (slice_index amounts (u * m + d))

abbrev pub flow_of : Table → ℕ → ℕ → ℤ
flow_of table u d = cell_of table.demands table.amounts u d

-- the lists that a flow keeps: its amounts, what each node gives, and what each demand gets
pub record AreKept (amounts sent got : List ℕ) : Type 0 where
  pub few_nodes : length sent < 2 ^ 32
  pub few_demands : length got ≤ 12
  pub one_each : length amounts ≡ length sent * length got
  pub sent_is : (u : ℕ) → u < length sent → pos (slice_index sent u) ≡ given_by (length got) (cell_of (length got) amounts) u
  pub got_is : (d : ℕ) → d < length got → pos (slice_index got d) ≡ got_by (length sent) (cell_of (length got) amounts) d
  pub sent_small : (u : ℕ) → u < length sent → slice_index sent u < 2 ^ 126
  pub got_small : (d : ℕ) → d < length got → slice_index got d < 2 ^ 126

-- one more list of amounts: the old one, and an amount at each of the first k of some pairs
pub record IsGrown (n m k : ℕ) (nodes demands : ℕ → ℕ) (amount : ℤ) (old new : List ℕ) : Type 0 where
  pub one_each : length new ≡ length old
  pub at : (u d : ℕ) → u < n → d < m → cell_of m new u d ≡ cell_of m old u d +ℤ amount_at_pairs k nodes demands amount u d
