-- Interim odds and payments over so many places, which are the values of an auction or the pairs of a sale.
use Rattle.std.specs.Prelude.{◌≡◌, ℕ, ◌<◌, pos, ◌≤ℤ◌, length}
use Rattle.md_math.specs.Lists.{number_at}
use Rattle.md_math.specs.Sizes.{AllWithin}
use Rattle.md_mech.specs.Accepted.{number_limit}
use Rattle.md_border.specs.declared.interim.Interim.{Interim}

-- one of each for each place, the odds from 0 to the denominator, and all numbers of at most 62 bits
pub record IsInterimOver (places : ℕ) (interim : Interim) : Type 0 where
  pub den_positive : pos 1 ≤ℤ interim.den
  pub den_size : interim.den ≤ℤ pos number_limit
  pub one_odds : length interim.odds ≡ places
  pub one_pay : length interim.pays ≡ places
  pub odds : (p : ℕ) → p < places → (pos 0 ≤ℤ number_at interim.odds p) × (number_at interim.odds p ≤ℤ interim.den)
  pub pay_size : AllWithin number_limit interim.pays
