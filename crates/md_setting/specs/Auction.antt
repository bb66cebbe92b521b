-- Symmetric auctions of one item (Border 1991): each bidder has one of the values, by the same weights, apart from the others.
use Rattle.std.specs.Prelude.{ℕ, ℤ, List, map, length, unsigned_abs, pos}
use Rattle.std.specs.List.{sum_by}

-- an auction: values ascend, and each has a weight; the factors are those of the payments and of the bidders' utilities in the objective, and `keep` is what the item is worth to the designer
pub record SymmetricAuction : Type 0 where
  pub bidders : ℕ
  pub values : List ℤ
  pub weights : List ℕ
  pub revenue : ℤ
  pub welfare : ℤ
  pub keep : ℤ

-- an auction as written, before anything of it is checked
pub record WrittenAuction : Type 0 where
  pub bidders : ℤ
  pub values : List ℤ
  pub weights : List ℤ
  pub revenue : ℤ
  pub welfare : ℤ
  pub keep : ℤ

abbrev pub written_auction : ℤ → List ℤ → List ℤ → ℤ → ℤ → ℤ → WrittenAuction
written_auction bidders values weights revenue welfare keep =
    record { bidders = bidders; values = values; weights = weights; revenue = revenue; welfare = welfare; keep = keep }

-- the weights of an auction as written, none of which is negative
abbrev pub weights_in : WrittenAuction → List ℕ
weights_in w = map unsigned_abs w.weights

-- an auction as it is written
abbrev pub as_written : SymmetricAuction → WrittenAuction
as_written a = written_auction (pos a.bidders) a.values (map pos a.weights) a.revenue a.welfare a.keep

-- what an auction as written says
abbrev pub auction_of : WrittenAuction → SymmetricAuction
auction_of w = record {
  bidders = unsigned_abs w.bidders;
  values = w.values;
  weights = weights_in w;
  revenue = w.revenue;
  welfare = w.welfare;
  keep = w.keep;
}

-- the number of values
abbrev pub value_count : SymmetricAuction → ℕ
value_count a = length a.values

-- the weight of all values together
abbrev pub total_weight : List ℕ → ℕ
total_weight weights = sum_by (λ weight. weight) weights
