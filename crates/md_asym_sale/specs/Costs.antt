-- The cost of the program of a sale, column by column, before it is divided.
use Rattle.std.specs.Prelude.{ℕ, ℤ, pos, neg_ℤ, ◌*ℤ◌, List, ◌++◌}
use Rattle.md_math.specs.Lists.{list_to}
use Rattle.md_setting.specs.Setting.{GeneralSetting}
use Rattle.md_asym_sale.specs.Values.{pairs_of, marginal_at, surplus_at}

-- the costs of the odds of a pair, and of one part of its payment
abbrev pub odds_cost : GeneralSetting → ℕ → ℤ
odds_cost s p = marginal_at s p *ℤ surplus_at s p

abbrev pub pay_cost : GeneralSetting → ℤ → ℕ → ℤ
pay_cost s sign p = sign *ℤ (marginal_at s p *ℤ s.revenue)

-- the same for all pairs
abbrev pub odds_costs : GeneralSetting → List ℤ
odds_costs s = list_to (pairs_of s) (odds_cost s)

abbrev pub pay_costs : GeneralSetting → ℤ → List ℤ
pay_costs s sign = list_to (pairs_of s) (pay_cost s sign)

abbrev pub written_cost : GeneralSetting → List ℤ
written_cost s = (odds_costs s ++ pay_costs s (pos 1)) ++ pay_costs s (neg_ℤ (pos 1))
