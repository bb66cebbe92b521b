-- What interim odds and payments are worth to the designer.
use Rattle.std.specs.Prelude.{◌≡◌, ℕ, ℤ, pos, ◌+ℤ◌, ◌-ℤ◌, ◌*ℤ◌, slice_index}
use Rattle.md_math.specs.Divisors.{IsLeastTerms}
use Rattle.md_math.specs.Lists.{number_at}
use Rattle.md_math.specs.Sums.{sum_to}
use Rattle.md_num.specs.declared.frac.Frac.{Frac}
use Rattle.md_setting.specs.Auction.{SymmetricAuction, value_count, total_weight}
use Rattle.md_border.specs.declared.interim.Interim.{Interim}

-- what the item is worth to the designer with a bidder who has a value, more than where it is kept
abbrev pub surplus_of : SymmetricAuction → ℕ → ℤ
surplus_of a v = a.welfare *ℤ number_at a.values v -ℤ a.keep

-- what a bidder with a value adds to the objective, in units of one over the denominator
abbrev pub gain_of : SymmetricAuction → Interim → ℕ → ℤ
gain_of a interim v = surplus_of a v *ℤ number_at interim.odds v +ℤ a.revenue *ℤ number_at interim.pays v

-- what a bidder adds to it over all its values, by their weights
abbrev pub gains_of : SymmetricAuction → Interim → ℤ
gains_of a interim = sum_to (value_count a) (λ v. pos (slice_index a.weights v) *ℤ gain_of a interim v)

-- the objective in units of one over the weight of all values times the denominator
abbrev pub worth_of : SymmetricAuction → Interim → ℤ
worth_of a interim =
    a.keep *ℤ (pos (total_weight a.weights) *ℤ interim.den) +ℤ pos a.bidders *ℤ gains_of a interim

-- it is this fraction
abbrev pub HasWorth : SymmetricAuction → Interim → Frac → Type 0
HasWorth a interim value = value.num *ℤ (pos (total_weight a.weights) *ℤ interim.den) ≡ worth_of a interim *ℤ value.den

-- it is this fraction in least terms
pub record IsWorthOf (a : SymmetricAuction) (interim : Interim) (value : Frac) : Type 0 where
  pub has_worth : HasWorth a interim value
  pub least : IsLeastTerms value.num value.den
