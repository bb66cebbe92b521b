-- Mass tables that have given odds.
use Rattle.std.specs.Prelude.{◌≡◌, ℕ, ◌<◌}
use Rattle.md_setting.specs.Auction.{SymmetricAuction, value_count}
use Rattle.md_border.specs.declared.interim.Interim.{Interim}
use Rattle.md_border.specs.Odds.{demand_of}
use Rattle.md_expost.specs.declared.masses.Masses.{Masses}
use Rattle.md_expost.specs.Masses.{mass_of}

-- the masses of each value together are its demand, over the same denominator: bidders with it win exactly as often as the
-- odds say
pub record Implements (a : SymmetricAuction) (interim : Interim) (y : Masses) : Type 0 where
  pub same_den : y.den ≡ interim.den
  pub exact : (v : ℕ) → v < value_count a → mass_of a y v ≡ demand_of a interim v
