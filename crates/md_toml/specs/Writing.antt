-- The document that a setting is printed as.
use Rattle.std.specs.Prelude.{◌≡◌, ℕ, ℤ, pos, Bool, List, [], ◌∷◌, Option, None, Some, is_some, codes, if◌then◌else◌}
use Rattle.std.specs.List.{list_any}
use Rattle.std.specs.Cmp.Lexicographic.{slice_cmp}
use Rattle.std.specs.Ordering.{nat_cmp, match_ordering}
use Rattle.toml.specs.Data.{Data, string, integer, boolean, array, table, Items, no_items, item, Members, no_members, member}
use Rattle.md_setting.specs.declared.file.SettingFile.{SettingFile}
use Rattle.md_setting.specs.declared.file.SettingFile.TheVariants as file
use Rattle.md_setting.specs.declared.kinds.Truth.{Truth}
use Rattle.md_setting.specs.declared.kinds.Truth.TheVariants.{Dominant, Bayes}
use Rattle.md_setting.specs.declared.kinds.Rational.{Rational}
use Rattle.md_setting.specs.declared.kinds.Rational.TheVariants as rational
use Rattle.md_setting.specs.Setting.{Agent, GeneralSetting}
use Rattle.md_setting.specs.Auction.{SymmetricAuction, as_written}
use Rattle.md_setting.specs.AuctionRefusals.{auction_refusal_of}
use Rattle.md_setting.specs.Grouped.{WrittenGroup, WrittenGroupedAuction, grouped_as_written}
use Rattle.md_setting.specs.GroupedRefusals.{grouped_refusal_of}
use Rattle.md_setting.specs.Refusals.{refusal_of}
use Rattle.md_setting.specs.Shaped.{IsShaped}
use Rattle.md_toml.specs.declared.document.Version.{Version}
use Rattle.md_toml.specs.declared.document.Version.TheVariants.{One, Two}
use Rattle.md_toml.specs.declared.key.Key.{Key}
use Rattle.md_toml.specs.declared.key.Key.TheVariants as key
use Rattle.md_toml.specs.Keys.{member_name}

-- a member more, in the order of the names
abbrev pub put_member : List ℕ → Data → Members → Members
put_member name value no_members = member name value no_members
put_member name value (member other held rest) =
    match_ordering (slice_cmp nat_cmp name other)
    (member name value (member other held rest)) (member other value rest) (member other held (put_member name value rest))

abbrev pub put : Key → Data → Members → Members
put key value members = put_member (member_name key) value members

-- a list as data
abbrev pub items_from : {T : Type 0} → (T → Data) → List T → Items
items_from data_of [] = no_items
items_from data_of (x ∷ xs) = item (data_of x) (items_from data_of xs)

abbrev pub numbers_data : List ℤ → Data
numbers_data numbers = array (items_from integer numbers)

abbrev pub texts_data : List (List ℕ) → Data
texts_data texts = array (items_from string texts)

abbrev pub rows_data : List (List ℤ) → Data
rows_data rows = array (items_from numbers_data rows)

-- the word for a kind of truth, and of rationality
abbrev pub truth_word : Truth → List ℕ
truth_word Dominant = codes "dominant"
truth_word Bayes = codes "bayes"

abbrev pub rational_word : Rational → List ℕ
rational_word rational.None = codes "none"
rational_word rational.ExPost = codes "ex-post"
rational_word rational.Interim = codes "interim"

-- the number of a version
abbrev pub version_number : Version → ℤ
version_number One = pos 1
version_number Two = pos 2

-- the version that a setting is written in: the second where the utility of an agent depends on all types
abbrev pub version_of : List Agent → Version
version_of agents = if list_any (λ agent. is_some agent.at) agents then Two else One

-- the first keys
abbrev pub header_with : ℤ → List ℕ → Members
header_with number word =
    put key.Kind (string word)
    (put key.Version (integer number) (put key.Format (string (codes "mechanism-setting")) no_members))

-- what is demanded of a mechanism
abbrev pub with_demands : Truth → Rational → Bool → Bool → Members → Members
with_demands truth rational payments no_deficit members =
    put key.NoDeficit (boolean no_deficit) (put key.Payments (boolean payments)
    (put key.Rational (string (rational_word rational)) (put key.Truth (string (truth_word truth)) members)))

abbrev pub objective_table : ℤ → ℤ → List ℤ → Members
objective_table welfare revenue values =
    put key.ObjectiveValue (numbers_data values)
    (put key.ObjectiveRevenue (integer revenue) (put key.ObjectiveWelfare (integer welfare) no_members))

-- weights stand where there is no joint prior
abbrev pub with_weights : Option (List ℤ) → List ℤ → Members → Members
with_weights None weights members = put key.AgentWeights (numbers_data weights) members
with_weights (Some prior) weights members = members

-- utilities stand by the agent's own type, or by the types of all agents
abbrev pub with_utilities : Option (List (List ℤ)) → List (List ℤ) → Members → Members
with_utilities None utility members = put key.AgentUtility (rows_data utility) members
with_utilities (Some at) utility members = put key.AgentUtilityAt (rows_data at) members

abbrev pub agent_table : Option (List ℤ) → Agent → Members
agent_table prior agent =
    with_utilities agent.at agent.utility (put key.AgentOutside (numbers_data agent.outside)
    (with_weights prior agent.weights (put key.AgentTypes (texts_data agent.types) (put key.AgentName (string agent.name) no_members))))

abbrev pub agents_data : Option (List ℤ) → List Agent → Data
agents_data prior agents = array (items_from (λ agent. table (agent_table prior agent)) agents)

abbrev pub with_prior : Option (List ℤ) → Members → Members
with_prior None members = members
with_prior (Some prior) members = put key.Prior (numbers_data prior) members

abbrev pub general_table_in : Version → GeneralSetting → Members
general_table_in version s =
    put key.Agent (agents_data s.prior s.agents)
    (with_prior s.prior
    (put key.Objective (table (objective_table s.welfare s.revenue s.values))
    (put key.Outcomes (texts_data s.outcomes)
    (with_demands s.truth s.rational s.payments s.no_deficit (header_with (version_number version) (codes "general"))))))

abbrev pub general_table : GeneralSetting → Members
general_table s = general_table_in (version_of s.agents) s

abbrev pub auction_table : SymmetricAuction → Members
auction_table a =
    put key.Keep (integer a.keep) (put key.Welfare (integer a.welfare) (put key.Revenue (integer a.revenue)
    (put key.Weights (numbers_data (as_written a).weights) (put key.Values (numbers_data a.values)
    (put key.Bidders (integer (pos a.bidders)) (header_with (pos 1) (codes "auction")))))))

abbrev pub group_table : WrittenGroup → Members
group_table group =
    put key.BidderWorth (integer group.worth) (put key.BidderWeights (numbers_data group.weights)
    (put key.BidderValues (numbers_data group.values) (put key.BidderCount (integer group.count) (put key.BidderName (string group.name) no_members))))

abbrev pub groups_data : List WrittenGroup → Data
groups_data groups = array (items_from (λ group. table (group_table group)) groups)

abbrev pub grouped_table : WrittenGroupedAuction → Members
grouped_table auction =
    put key.Bidder (groups_data auction.groups)
    (put key.Keep (integer auction.keep) (put key.Welfare (integer auction.welfare) (put key.Revenue (integer auction.revenue)
    (put key.Slots (numbers_data auction.slots) (header_with (pos 3) (codes "bidders"))))))

abbrev pub file_table : SettingFile → Members
file_table (file.General setting) = general_table setting
file_table (file.Auction auction) = auction_table auction
file_table (file.Bidders auction) = grouped_table (grouped_as_written auction)

-- nothing in what the file holds is refused
abbrev pub IsAccepted : SettingFile → Type 0
IsAccepted (file.General setting) = (refusal_of setting ≡ None) × IsShaped setting
IsAccepted (file.Auction auction) = auction_refusal_of (as_written auction) ≡ None
IsAccepted (file.Bidders auction) = grouped_refusal_of (grouped_as_written auction) ≡ None
