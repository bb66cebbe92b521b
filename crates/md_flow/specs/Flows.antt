-- What a flow through a net is: an amount for each node and demand.
use Rattle.std.specs.Prelude.{ℕ, ◌+◌, ◌*◌, ◌<◌, ◌≡◌, ℤ, pos, ◌≤ℤ◌, List}
use Rattle.md_math.specs.Lists.{number_at}
use Rattle.md_math.specs.Sums.{sum_to}
use Rattle.md_flow.specs.Network.{Network, node_count, demand_count, cap_of, want_of, room_of}

-- what a node gives to the first m demands
abbrev pub given_by : ℕ → (ℕ → ℕ → ℤ) → ℕ → ℤ
given_by m x u = sum_to m (λ d. x u d)

-- what a demand gets from the first n nodes
abbrev pub got_by : ℕ → (ℕ → ℕ → ℤ) → ℕ → ℤ
got_by n x d = sum_to n (λ u. x u d)

-- what is carried in all
abbrev pub carried : Network → (ℕ → ℕ → ℤ) → ℤ
carried net x = sum_to (node_count net) (λ u. given_by (demand_count net) x u)

-- amounts that are not negative, each at most the room of its pair, at each node at most its cap in sum, and at each demand at most the demand in sum
pub record IsPartFlow (net : Network) (x : ℕ → ℕ → ℤ) : Type 0 where
  pub nonneg : (u d : ℕ) → u < node_count net → d < demand_count net → pos 0 ≤ℤ x u d
  pub rooms : (u d : ℕ) → u < node_count net → d < demand_count net → x u d ≤ℤ room_of net u d
  pub caps : (u : ℕ) → u < node_count net → given_by (demand_count net) x u ≤ℤ cap_of net u
  pub wants : (d : ℕ) → d < demand_count net → got_by (node_count net) x d ≤ℤ want_of net d

-- a part flow that gives each demand exactly
pub record Meets (net : Network) (x : ℕ → ℕ → ℤ) : Type 0 where
  pub part : IsPartFlow net x
  pub exact : (d : ℕ) → d < demand_count net → got_by (node_count net) x d ≡ want_of net d

-- the amount for a node and a demand in a list that goes by node, and then by demand
abbrev pub amount_in : Network → List ℤ → ℕ → ℕ → ℤ
amount_in net amounts u d = number_at amounts (u * demand_count net + d)
