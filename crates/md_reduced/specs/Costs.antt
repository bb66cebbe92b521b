-- The cost of the reduced program, column by column, before it is divided.
use Rattle.std.specs.Prelude.{ℕ, ℤ, pos, neg_ℤ, ◌*ℤ◌, List, ◌++◌, slice_index}
use Rattle.md_math.specs.Lists.{list_to}
use Rattle.md_setting.specs.Auction.{SymmetricAuction, value_count}
use Rattle.md_border.specs.Worth.{surplus_of}

-- the costs of the odds of a value, and of one part of its payment
abbrev pub odds_cost : SymmetricAuction → ℕ → ℤ
odds_cost a v = pos (slice_index a.weights v) *ℤ surplus_of a v

abbrev pub pay_cost : SymmetricAuction → ℤ → ℕ → ℤ
pay_cost a sign v = sign *ℤ (pos (slice_index a.weights v) *ℤ a.revenue)

-- the same for all values
abbrev pub odds_costs : SymmetricAuction → List ℤ
odds_costs a = list_to (value_count a) (odds_cost a)

abbrev pub pay_costs : SymmetricAuction → ℤ → List ℤ
pay_costs a sign = list_to (value_count a) (pay_cost a sign)

abbrev pub written_cost : SymmetricAuction → List ℤ
written_cost a = (odds_costs a ++ pay_costs a (pos 1)) ++ pay_costs a (neg_ℤ (pos 1))
