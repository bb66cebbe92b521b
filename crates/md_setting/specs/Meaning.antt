-- What the numbers of a general setting mean, at an agent, a profile and an outcome.
-- A profile gives each agent the number of one of its types.
use Rattle.std.specs.Prelude.{ℕ, ℤ, pos, ◌+ℤ◌, ◌*ℤ◌, List, [], ◌∷◌, map, length, Option, None, Some, slice_index, slice_index_or}
use Rattle.md_math.specs.Lists.{number_at}
use Rattle.md_math.specs.Sums.{sum_to, total_by}
use Rattle.md_space.specs.Profiles.{rank_of}
use Rattle.md_space.specs.AllProfiles.{profiles_of}
use Rattle.md_space.specs.ByType.{where_type}
use Rattle.md_setting.specs.Setting.{Agent, GeneralSetting}

-- an agent with no types, which stands where there is none
abbrev pub nobody : Agent
nobody = record { name = []; types = []; weights = []; outside = []; utility = []; at = None }

abbrev pub agent_at : GeneralSetting → ℕ → Agent
agent_at s i = slice_index_or s.agents i nobody

-- the number of agents
abbrev pub agent_count : GeneralSetting → ℕ
agent_count s = length s.agents

-- the number of outcomes
abbrev pub outcome_count : GeneralSetting → ℕ
outcome_count s = length s.outcomes

-- the number of types of each agent
abbrev pub sizes_of : GeneralSetting → List ℕ
sizes_of s = map (λ a. length a.types) s.agents

-- the utilities of an agent by outcome: those of its type a, or those at the rank r of the true profile
abbrev pub utilities_by : Option (List (List ℤ)) → List (List ℤ) → ℕ → ℕ → List ℤ
utilities_by None utility r a = slice_index_or utility a []
utilities_by (Some at) utility r a = slice_index_or at r []

-- the utility of agent i at outcome o where t has the true types
abbrev pub utility_of : GeneralSetting → ℕ → List ℕ → ℕ → ℤ
utility_of s i t o =
    number_at (utilities_by (agent_at s i).at (agent_at s i).utility (rank_of (sizes_of s) t) (slice_index t i)) o

-- what type a of agent i has without taking part
abbrev pub outside_of : GeneralSetting → ℕ → ℕ → ℤ
outside_of s i a = number_at (agent_at s i).outside a

-- the product of the weights of the agents' types
abbrev pub type_weights : List Agent → List ℕ → ℤ
type_weights [] t = pos 1
type_weights (agent ∷ others) [] = pos 1
type_weights (agent ∷ others) (a ∷ t) = number_at agent.weights a *ℤ type_weights others t

-- the weight of the profile t
abbrev pub weight_by : Option (List ℤ) → List Agent → List ℕ → List ℕ → ℤ
weight_by None agents sizes t = type_weights agents t
weight_by (Some prior) agents sizes t = number_at prior (rank_of sizes t)

abbrev pub weight_of : GeneralSetting → List ℕ → ℤ
weight_of s t = weight_by s.prior s.agents (sizes_of s) t

-- the weight of all profiles together
abbrev pub total_of : GeneralSetting → ℤ
total_of s = total_by (weight_of s) (profiles_of (sizes_of s))

-- the weight of the profiles in which agent i has type a
abbrev pub marginal_of : GeneralSetting → ℕ → ℕ → ℤ
marginal_of s i a = total_by (where_type i a (weight_of s)) (profiles_of (sizes_of s))

-- the utility of all agents together at outcome o where t has the true types
abbrev pub welfare_of : GeneralSetting → List ℕ → ℕ → ℤ
welfare_of s t o = sum_to (agent_count s) (λ i. utility_of s i t o)

-- what outcome o is worth to the designer where t has the true types
abbrev pub value_of : GeneralSetting → List ℕ → ℕ → ℤ
value_of s t o = number_at s.values o +ℤ s.welfare *ℤ welfare_of s t o
