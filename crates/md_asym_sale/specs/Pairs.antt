-- The pairs of an agent and one of its types, numbered by agent, then by type. `sizes` has the number of types of each agent.
use Rattle.std.specs.Prelude.{ℕ, suc, ◌+◌, ◌-◌, ◌<◌, ◌≡◌, nat_lt, List, [], ◌∷◌, length, slice_index, take, if◌then◌else◌}
use Rattle.std.specs.List.{sum_by}

-- how many pairs there are
abbrev pub pair_count : List ℕ → ℕ
pair_count sizes = sum_by (λ n. n) sizes

-- how many have an agent before agent i
abbrev pub pairs_before : List ℕ → ℕ → ℕ
pairs_before sizes i = sum_by (λ n. n) (take i sizes)

-- the number of the pair of agent i and type a
abbrev pub pair_number : List ℕ → ℕ → ℕ → ℕ
pair_number sizes i a = pairs_before sizes i + a

-- the agent and the type of the pair with a number
abbrev pub agent_of : List ℕ → ℕ → ℕ
agent_of [] p = 0
agent_of (n ∷ ns) p = if nat_lt p n then 0 else suc (agent_of ns (p - n))

abbrev pub kind_of : List ℕ → ℕ → ℕ
kind_of [] p = 0
kind_of (n ∷ ns) p = if nat_lt p n then p else kind_of ns (p - n)

-- the pair with a number is that of agent i and type a
pub record IsPair (sizes : List ℕ) (p i a : ℕ) : Type 0 where
  pub agent_in : i < length sizes
  pub kind_in : a < slice_index sizes i
  pub number : p ≡ pair_number sizes i a
