-- What interim odds and payments of the pairs of a sale are worth to the designer.
use Rattle.std.specs.Prelude.{◌≡◌, ℕ, ℤ, ◌+ℤ◌, ◌*ℤ◌}
use Rattle.md_math.specs.Lists.{number_at}
use Rattle.md_num.specs.declared.frac.Frac.{Frac}
use Rattle.md_setting.specs.Setting.{GeneralSetting}
use Rattle.md_setting.specs.Meaning.{total_of}
use Rattle.md_asym_sale.specs.Forms.{cost_of}

-- what the designer has for each unit of the denominator where the item is always kept, over all profiles by weight
abbrev pub base_of : GeneralSetting → ℤ
base_of s = number_at s.values 0 *ℤ total_of s

-- the same, and what the pairs add to it by their odds and payments; in units of one over the denominator times the weight of
-- all profiles this is the objective
abbrev pub worth_in : GeneralSetting → ℤ → (ℕ → ℤ) → ℤ
worth_in s den x = base_of s *ℤ den +ℤ cost_of s x

-- the objective is this fraction
abbrev pub HasWorth : GeneralSetting → ℤ → (ℕ → ℤ) → Frac → Type 0
HasWorth s den x value = value.num *ℤ (den *ℤ total_of s) ≡ worth_in s den x *ℤ value.den
