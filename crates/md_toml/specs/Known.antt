-- Which keys a table may have.
use Rattle.std.specs.Prelude.{ℕ, Bool, false, ◌&&◌, List, [], ◌∷◌, ◌++◌, Ok, Err, is_some, if◌then◌else◌}
use Rattle.std.specs.List.{list_all, list_any}
use Rattle.std.specs.Str.{bytes_eq}
use Rattle.toml.specs.Data.{Members, no_members, member, get_member}
use Rattle.md_toml.specs.declared.document.Version.{Version}
use Rattle.md_toml.specs.declared.document.Version.TheVariants.{One, Two}
use Rattle.md_toml.specs.declared.key.Key.{Key}
use Rattle.md_toml.specs.declared.key.Key.TheVariants.{Format, Version as VersionKey, Kind, Truth, Rational, Payments, NoDeficit, Outcomes, Objective, ObjectiveWelfare, ObjectiveRevenue, ObjectiveValue, Prior, Agent, AgentName, AgentTypes, AgentWeights, AgentOutside, AgentUtility, AgentUtilityAt, Bidders, Values, Weights, Revenue, Welfare, Keep, Slots, Bidder, BidderName, BidderCount, BidderValues, BidderWeights, BidderWorth}
use Rattle.md_toml.specs.declared.refusal.SettingRefusal.TheVariants.{UnknownKey}
use Rattle.md_toml.specs.Keys.{member_name}
use Rattle.md_toml.specs.Reading.{Reading}

-- the keys that every file has
abbrev pub header_keys : List Key
header_keys = Format ∷ VersionKey ∷ Kind ∷ []

-- the keys that the top table of a general setting may have
abbrev pub general_keys : List Key
general_keys = header_keys ++ (Truth ∷ Rational ∷ Payments ∷ NoDeficit ∷ Outcomes ∷ Objective ∷ Prior ∷ Agent ∷ [])

abbrev pub objective_keys : List Key
objective_keys = ObjectiveWelfare ∷ ObjectiveRevenue ∷ ObjectiveValue ∷ []

-- an agent's table says that its utility depends on the types of all agents, which the first version does not know
abbrev pub has_at : Version → Members → Bool
has_at One _ = false
has_at Two members = is_some (get_member (member_name AgentUtilityAt) members)

-- the keys of an agent's table, by whether there is a joint prior, and whether its utility depends on all types
abbrev pub agent_keys : Bool → Bool → List Key
agent_keys has_prior at = (if has_prior then [] else AgentWeights ∷ []) ++ (AgentName ∷ AgentTypes ∷ AgentOutside ∷ (if at then AgentUtilityAt else AgentUtility) ∷ [])

-- the keys that the table of an auction may have
abbrev pub auction_keys : List Key
auction_keys = header_keys ++ (Bidders ∷ Values ∷ Weights ∷ Revenue ∷ Welfare ∷ Keep ∷ [])

-- the keys that the top table of an auction with groups of bidders may have, and those of a group's table
abbrev pub grouped_keys : List Key
grouped_keys = header_keys ++ (Slots ∷ Revenue ∷ Welfare ∷ Keep ∷ Bidder ∷ [])

abbrev pub group_keys : List Key
group_keys = BidderName ∷ BidderCount ∷ BidderValues ∷ BidderWeights ∷ BidderWorth ∷ []

-- the names of a table
abbrev pub names_in : Members → List (List ℕ)
names_in no_members = []
names_in (member name value rest) = name ∷ names_in rest

-- the name is that of one of the keys
abbrev pub is_among : List Key → List ℕ → Bool
is_among keys name = list_any (λ key. bytes_eq (member_name key) name) keys

-- a table has no other keys than these
abbrev pub has_only : List Key → Members → Bool
has_only keys members = list_all (is_among keys) (names_in members)

-- an agent's table has only keys that it may have
abbrev pub has_agent_keys : Version → Bool → Members → Bool
has_agent_keys version has_prior members = has_only (agent_keys has_prior (has_at version members)) members

-- the top table, the objective's and each agent's have only keys that they may have
abbrev pub has_known_keys : Version → Members → Members → List Members → Bool → Bool
has_known_keys version top objective agents has_prior =
    has_only general_keys top && (has_only objective_keys objective && list_all (has_agent_keys version has_prior) agents)

-- the top table and that of each group have only keys that they may have
abbrev pub has_grouped_keys : Members → List Members → Bool
has_grouped_keys top groups = has_only grouped_keys top && list_all (has_only group_keys) groups

-- tables with unknown keys are refused
abbrev pub known_only : Bool → Reading (Unit {0})
known_only is_known = if is_known then Ok tt else Err UnknownKey
