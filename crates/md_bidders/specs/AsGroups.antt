-- A symmetric auction as one with a single group of bidders, for so many units.
use Rattle.std.specs.Prelude.{ℕ, pos, [], ◌∷◌, codes, replicate}
use Rattle.md_setting.specs.Auction.{SymmetricAuction}
use Rattle.md_setting.specs.Grouped.{Group, GroupedAuction}

-- all of its bidders
abbrev pub one_group : SymmetricAuction → Group
one_group a = record { name = codes "bidder"; count = a.bidders; values = a.values; weights = a.weights; worth = pos 0 }

-- a slot of the amount 1 for each unit
abbrev pub as_groups : SymmetricAuction → ℕ → GroupedAuction
as_groups a units = record {
  slots = replicate units 1;
  revenue = a.revenue;
  welfare = a.welfare;
  keep = a.keep;
  groups = one_group a ∷ [];
}
