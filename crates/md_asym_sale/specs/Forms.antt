-- The two sides of each condition on interim odds and payments, and the cost, at numbers for the columns of the program of a
-- sale: first the odds, then the plus parts of the payments, then their minus parts, each by pair.
use Rattle.std.specs.Prelude.{ℕ, ◌+◌, ◌*◌, ℤ, pos, ◌+ℤ◌, ◌-ℤ◌, ◌*ℤ◌, neg_ℤ}
use Rattle.md_math.specs.Sums.{sum_to}
use Rattle.md_setting.specs.Setting.{GeneralSetting}
use Rattle.md_setting.specs.Meaning.{sizes_of}
use Rattle.md_asym_sale.specs.declared.condition.SaleCondition.{SaleCondition}
use Rattle.md_asym_sale.specs.declared.condition.SaleCondition.TheVariants.{Truth, Rational, Cut}
use Rattle.md_asym_sale.specs.Pairs.{pair_number}
use Rattle.md_asym_sale.specs.Sides.{demands_in, right_of}
use Rattle.md_asym_sale.specs.Values.{pairs_of, own_value, marginal_at, surplus_at}

-- what the agent of a pair pays where it tells the pair's type
abbrev pub pay_in : GeneralSetting → (ℕ → ℤ) → ℕ → ℤ
pay_in s x p = x (pairs_of s + p) -ℤ x (2 * pairs_of s + p)

-- what agent i with the type a has where it tells the type b
abbrev pub utility_in : GeneralSetting → (ℕ → ℤ) → ℕ → ℕ → ℕ → ℤ
utility_in s x i a b = own_value s i a *ℤ x (pair_number (sizes_of s) i b) -ℤ pay_in s x (pair_number (sizes_of s) i b)

-- the side that is to be at most the other one
abbrev pub left_side : GeneralSetting → SaleCondition → (ℕ → ℤ) → ℤ
left_side s (Truth i a b) x = utility_in s x i a b -ℤ utility_in s x i a a
left_side s (Rational i a) x = neg_ℤ (utility_in s x i a a)
left_side s (Cut set) x = demands_in s x set

-- the other one
abbrev pub right_side : GeneralSetting → SaleCondition → ℤ
right_side s (Truth i a b) = pos 0
right_side s (Rational i a) = pos 0
right_side s (Cut set) = right_of s set

-- what the pairs add to the designer's objective, by their weights
abbrev pub cost_of : GeneralSetting → (ℕ → ℤ) → ℤ
cost_of s x = sum_to (pairs_of s) (λ p. marginal_at s p *ℤ (surplus_at s p *ℤ x p +ℤ s.revenue *ℤ pay_in s x p))
