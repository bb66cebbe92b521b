-- What a document says of an auction with groups of bidders.
use Rattle.std.specs.Prelude.{pos, Ok, [], ◌∷◌}
use Rattle.toml.specs.Data.{Members}
use Rattle.md_setting.specs.Grouped.{WrittenGroup, WrittenGroupedAuction}
use Rattle.md_toml.specs.declared.key.Key.TheVariants as key
use Rattle.md_toml.specs.Known.{has_grouped_keys, known_only}
use Rattle.md_toml.specs.Reading.{Reading, ◌>>=◌}
use Rattle.md_toml.specs.Values.{text_in, integer_in, table_in, list_in, read_each, required, defaulted}

-- a group as its table says it
abbrev pub group_of : Members → Reading WrittenGroup
group_of members = do
  name ← required text_in key.BidderName members
  count ← defaulted integer_in (pos 1) key.BidderCount members
  values ← required (list_in integer_in) key.BidderValues members
  weights ← required (list_in integer_in) key.BidderWeights members
  worth ← defaulted integer_in (pos 0) key.BidderWorth members
  Ok record { name = name; count = count; values = values; weights = weights; worth = worth }

-- an auction with groups as its document says it
abbrev pub grouped_in : Members → Reading WrittenGroupedAuction
grouped_in members = do
  slots ← defaulted (list_in integer_in) (pos 1 ∷ []) key.Slots members
  revenue ← defaulted integer_in (pos 1) key.Revenue members
  welfare ← defaulted integer_in (pos 0) key.Welfare members
  keep ← defaulted integer_in (pos 0) key.Keep members
  tables ← required (list_in table_in) key.Bidder members
  groups ← read_each group_of tables
  _ ← known_only (has_grouped_keys members tables)
  Ok record { slots = slots; revenue = revenue; welfare = welfare; keep = keep; groups = groups }
