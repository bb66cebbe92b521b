-- What lists of interim odds and payments of the pairs of a sale are worth to the designer.
use Rattle.std.specs.Prelude.{◌≡◌, ℕ, ℤ, ◌+ℤ◌, ◌*ℤ◌, List, length}
use Rattle.md_math.specs.Lists.{list_to, number_at}
use Rattle.md_math.specs.Sizes.{AllWithin}
use Rattle.md_math.specs.Sums.{sum_to}
use Rattle.md_setting.specs.Setting.{GeneralSetting}
use Rattle.md_mech.specs.Accepted.{number_limit}
use Rattle.md_asym_sale.specs.Forms.{pay_in}
use Rattle.md_asym_sale.specs.Values.{pairs_of, marginal_at, surplus_at}
use Rattle.md_asym_laws.specs.Worth.{base_of}
use Rattle.md_asym_tables.specs.Odds.{AreOdds}

-- odds and payments over one denominator, one of each for each pair
pub record AreSaleOdds (s : GeneralSetting) (den : ℤ) (odds pays : List ℤ) : Type 0 where
  pub fits : AreOdds s den odds
  pub one_pay : length pays ≡ pairs_of s
  pub pay_size : AllWithin number_limit pays

-- the odds and the payments of a point, by pair
abbrev pub odds_in : GeneralSetting → (ℕ → ℤ) → List ℤ
odds_in s x = list_to (pairs_of s) x

abbrev pub pays_in : GeneralSetting → (ℕ → ℤ) → List ℤ
pays_in s x = list_to (pairs_of s) (pay_in s x)

-- what a pair adds to the objective
abbrev pub gain_of : GeneralSetting → List ℤ → List ℤ → ℕ → ℤ
gain_of s odds pays p = surplus_at s p *ℤ number_at odds p +ℤ s.revenue *ℤ number_at pays p

-- the same of all pairs, by their weights
abbrev pub gains_of : GeneralSetting → List ℤ → List ℤ → ℤ
gains_of s odds pays = sum_to (pairs_of s) (λ p. marginal_at s p *ℤ gain_of s odds pays p)

-- the objective, in units of one over the denominator times the weight of all profiles
abbrev pub worth_by : GeneralSetting → ℤ → List ℤ → List ℤ → ℤ
worth_by s den odds pays = base_of s *ℤ den +ℤ gains_of s odds pays
