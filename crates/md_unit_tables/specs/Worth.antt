-- What interim odds and payments are worth to the designer where several units are sold.
use Rattle.std.specs.Prelude.{◌≡◌, ℕ, ℤ, pos, ◌+ℤ◌, ◌*ℤ◌}
use Rattle.md_math.specs.Divisors.{IsLeastTerms}
use Rattle.md_num.specs.declared.frac.Frac.{Frac}
use Rattle.md_setting.specs.Auction.{SymmetricAuction, total_weight}
use Rattle.md_border.specs.declared.interim.Interim.{Interim}
use Rattle.md_border.specs.Worth.{gains_of}

-- all units kept, and what the bidders add to that, in units of one over the weight of all values times the denominator
abbrev pub unit_worth_of : SymmetricAuction → ℕ → Interim → ℤ
unit_worth_of a units interim =
    (a.keep *ℤ pos units) *ℤ (pos (total_weight a.weights) *ℤ interim.den) +ℤ pos a.bidders *ℤ gains_of a interim

-- it is this fraction
abbrev pub HasUnitWorth : SymmetricAuction → ℕ → Interim → Frac → Type 0
HasUnitWorth a units interim value = value.num *ℤ (pos (total_weight a.weights) *ℤ interim.den) ≡ unit_worth_of a units interim *ℤ value.den

-- it is this fraction in least terms
pub record IsUnitWorthOf (a : SymmetricAuction) (units : ℕ) (interim : Interim) (value : Frac) : Type 0 where
  pub has_worth : HasUnitWorth a units interim value
  pub least : IsLeastTerms value.num value.den
