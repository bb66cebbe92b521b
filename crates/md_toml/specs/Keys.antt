-- The names of the keys of setting files.
use Rattle.std.specs.Prelude.{ℕ, List, codes}
use Rattle.md_toml.specs.declared.key.Key.{Key}
use Rattle.md_toml.specs.declared.key.Key.TheVariants.{Format, Version, Kind, Truth, Rational, Payments, NoDeficit, Outcomes, Objective, ObjectiveWelfare, ObjectiveRevenue, ObjectiveValue, Prior, Agent, AgentName, AgentTypes, AgentWeights, AgentOutside, AgentUtility, AgentUtilityAt, Bidders, Values, Weights, Revenue, Welfare, Keep, Slots, Bidder, BidderName, BidderCount, BidderValues, BidderWeights, BidderWorth}

-- the whole name of a key
abbrev pub text_of : Key → List ℕ
text_of Format = codes "format"
text_of Version = codes "version"
text_of Kind = codes "kind"
text_of Truth = codes "truth"
text_of Rational = codes "rational"
text_of Payments = codes "payments"
text_of NoDeficit = codes "no_deficit"
text_of Outcomes = codes "outcomes"
text_of Objective = codes "objective"
text_of ObjectiveWelfare = codes "objective.welfare"
text_of ObjectiveRevenue = codes "objective.revenue"
text_of ObjectiveValue = codes "objective.value"
text_of Prior = codes "prior"
text_of Agent = codes "agent"
text_of AgentName = codes "agent.name"
text_of AgentTypes = codes "agent.types"
text_of AgentWeights = codes "agent.weights"
text_of AgentOutside = codes "agent.outside"
text_of AgentUtility = codes "agent.utility"
text_of AgentUtilityAt = codes "agent.utility_at"
text_of Bidders = codes "bidders"
text_of Values = codes "values"
text_of Weights = codes "weights"
text_of Revenue = codes "revenue"
text_of Welfare = codes "welfare"
text_of Keep = codes "keep"
text_of Slots = codes "slots"
text_of Bidder = codes "bidder"
text_of BidderName = codes "bidder.name"
text_of BidderCount = codes "bidder.count"
text_of BidderValues = codes "bidder.values"
text_of BidderWeights = codes "bidder.weights"
text_of BidderWorth = codes "bidder.worth"

-- the name of a key within its own table
abbrev pub member_name : Key → List ℕ
member_name ObjectiveWelfare = codes "welfare"
member_name ObjectiveRevenue = codes "revenue"
member_name ObjectiveValue = codes "value"
member_name AgentName = codes "name"
member_name AgentTypes = codes "types"
member_name AgentWeights = codes "weights"
member_name AgentOutside = codes "outside"
member_name AgentUtility = codes "utility"
member_name AgentUtilityAt = codes "utility_at"
member_name BidderName = codes "name"
member_name BidderCount = codes "count"
member_name BidderValues = codes "values"
member_name BidderWeights = codes "weights"
member_name BidderWorth = codes "worth"
member_name key = text_of key
