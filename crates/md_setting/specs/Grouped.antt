-- Auctions with groups of bidders: bidders of a group have the same values, by the same weights, apart from each other and from all
-- others. Slots go to bidders, at most one to each. A bidder with a value below 0 sells: it is paid for what it gives up.
use Rattle.std.specs.Prelude.{ℕ, suc, ℤ, List, [], ◌∷◌, ◌++◌, length, map, replicate, slice_index, slice_index_or, pos, unsigned_abs, string_bytes}
use Rattle.md_math.specs.Lists.{number_at}
use Rattle.md_setting.specs.declared.raw.RawGroup.{RawGroup}
use Rattle.md_setting.specs.declared.raw.RawGroupedAuction.{RawGroupedAuction}

-- so many bidders with these values, each of which has a weight; `worth` is what a unit that one of them gets is worth to the designer
pub record Group : Type 0 where
  pub name : List ℕ
  pub count : ℕ
  pub values : List ℤ
  pub weights : List ℕ
  pub worth : ℤ

-- The slots have amounts, of which none is greater than the one before it. The factors are those of the payments and of what slots are
-- worth to bidders in the objective, and `keep` is what a unit that nobody gets is worth to the designer.
pub record GroupedAuction : Type 0 where
  pub slots : List ℕ
  pub revenue : ℤ
  pub welfare : ℤ
  pub keep : ℤ
  pub groups : List Group

-- ---- as written

-- a group and an auction as written, before anything of them is checked
pub record WrittenGroup : Type 0 where
  pub name : List ℕ
  pub count : ℤ
  pub values : List ℤ
  pub weights : List ℤ
  pub worth : ℤ

pub record WrittenGroupedAuction : Type 0 where
  pub slots : List ℤ
  pub revenue : ℤ
  pub welfare : ℤ
  pub keep : ℤ
  pub groups : List WrittenGroup

abbrev pub written_group : RawGroup → WrittenGroup
written_group g = record { name = string_bytes g.name; count = g.count; values = g.values.items; weights = g.weights.items; worth = g.worth }

abbrev pub written_grouped : RawGroupedAuction → WrittenGroupedAuction
written_grouped raw = record {
  slots = raw.slots.items;
  revenue = raw.revenue;
  welfare = raw.welfare;
  keep = raw.keep;
  groups = map written_group raw.groups.items;
}

-- what they say, where no count, weight or amount is negative
abbrev pub said_group : WrittenGroup → Group
said_group g = record { name = g.name; count = unsigned_abs g.count; values = g.values; weights = map unsigned_abs g.weights; worth = g.worth }

abbrev pub grouped_of : WrittenGroupedAuction → GroupedAuction
grouped_of w = record {
  slots = map unsigned_abs w.slots;
  revenue = w.revenue;
  welfare = w.welfare;
  keep = w.keep;
  groups = map said_group w.groups;
}

-- a group and an auction as they are written
abbrev pub group_as_written : Group → WrittenGroup
group_as_written g = record { name = g.name; count = pos g.count; values = g.values; weights = map pos g.weights; worth = g.worth }

abbrev pub grouped_as_written : GroupedAuction → WrittenGroupedAuction
grouped_as_written a = record {
  slots = map pos a.slots;
  revenue = a.revenue;
  welfare = a.welfare;
  keep = a.keep;
  groups = map group_as_written a.groups;
}

-- ---- groups

-- a group of no bidders, which stands where there is none
abbrev pub no_group : Group
no_group = record { name = []; count = 0; values = []; weights = []; worth = pos 0 }

abbrev pub group_at : GroupedAuction → ℕ → Group
group_at a k = slice_index_or a.groups k no_group

-- ---- bidders

-- by bidder the number of its group, where the first of the groups has the number k
abbrev pub members_from : ℕ → List Group → List ℕ
members_from k [] = []
members_from k (group ∷ others) = replicate group.count k ++ members_from (suc k) others

-- those of the first group come first, then those of the second, and so on
abbrev pub members : GroupedAuction → List ℕ
members a = members_from 0 a.groups

abbrev pub bidder_count : GroupedAuction → ℕ
bidder_count a = length (members a)

-- the number of the group of bidder i, counted from 0, and the group
abbrev pub group_of : GroupedAuction → ℕ → ℕ
group_of a i = slice_index (members a) i

abbrev pub group_with : GroupedAuction → ℕ → Group
group_with a i = group_at a (group_of a i)

-- how many values bidder i may have, and value number v of them
abbrev pub value_count : GroupedAuction → ℕ → ℕ
value_count a i = length (group_with a i).values

abbrev pub value_at : GroupedAuction → ℕ → ℕ → ℤ
value_at a i v = number_at (group_with a i).values v

-- what that value weighs
abbrev pub weight_at : GroupedAuction → ℕ → ℕ → ℤ
weight_at a i v = pos (slice_index (group_with a i).weights v)
