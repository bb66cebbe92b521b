-- What a document says of an auction.
use Rattle.std.specs.Prelude.{pos, Ok}
use Rattle.toml.specs.Data.{Members}
use Rattle.md_setting.specs.Auction.{WrittenAuction}
use Rattle.md_toml.specs.declared.auction.RawAuction.{RawAuction}
use Rattle.md_toml.specs.declared.key.Key.TheVariants as key
use Rattle.md_toml.specs.Known.{has_only, auction_keys, known_only}
use Rattle.md_toml.specs.Reading.{Reading, ◌>>=◌}
use Rattle.md_toml.specs.Values.{integer_in, list_in, required, defaulted}

-- an auction as its lists and numbers say it
abbrev pub said_auction : RawAuction → WrittenAuction
said_auction a = record {
  bidders = a.bidders;
  values = a.values.items;
  weights = a.weights.items;
  revenue = a.revenue;
  welfare = a.welfare;
  keep = a.keep;
}

-- an auction as its document says it
abbrev pub auction_in : Members → Reading WrittenAuction
auction_in members = do
  bidders ← required integer_in key.Bidders members
  values ← required (list_in integer_in) key.Values members
  weights ← required (list_in integer_in) key.Weights members
  revenue ← defaulted integer_in (pos 1) key.Revenue members
  welfare ← defaulted integer_in (pos 0) key.Welfare members
  keep ← defaulted integer_in (pos 0) key.Keep members
  _ ← known_only (has_only auction_keys members)
  Ok record { bidders = bidders; values = values; weights = weights; revenue = revenue; welfare = welfare; keep = keep }
