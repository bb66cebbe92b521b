-- Unit tables of an auction of several units: how often units go to bidders with a value, by how many bidders have each value.
use Rattle.std.specs.Prelude.{◌≡◌, ℕ, ◌*◌, ◌<◌, ℤ, pos, ◌*ℤ◌, ◌≤ℤ◌, List, length, slice_index}
use Rattle.md_math.specs.Sums.{sum_to}
use Rattle.md_setting.specs.Auction.{SymmetricAuction, value_count}
use Rattle.md_border.specs.declared.interim.Interim.{Interim}
use Rattle.md_border.specs.Odds.{demand_of}
use Rattle.md_expost.specs.declared.masses.Masses.{Masses}
use Rattle.md_expost.specs.Masses.{rank_count, counts_in, cap_at, mass_at, mass_of}

-- as much as bidders with a value can get at the counts of a rank: one unit each
abbrev pub room_at : SymmetricAuction → ℤ → ℕ → ℕ → ℤ
room_at a den rank v = cap_at a den rank *ℤ pos (slice_index (counts_in a rank) v)

-- a list of masses as a table over the denominator of some odds
abbrev pub table_of : Interim → List ℤ → Masses
table_of interim rows = record { den = interim.den; rows = rows }

-- a unit table of the auction: no mass is negative, no bidder gets more than one unit, and at no counts are more given than there are
pub record IsUnitTable (a : SymmetricAuction) (units : ℕ) (y : Masses) : Type 0 where
  pub den_positive : pos 1 ≤ℤ y.den
  pub whole : length y.rows ≡ rank_count a * value_count a
  pub nonneg : (rank v : ℕ) → rank < rank_count a → v < value_count a → pos 0 ≤ℤ mass_at a y rank v
  pub each : (rank v : ℕ) → rank < rank_count a → v < value_count a → mass_at a y rank v ≤ℤ room_at a y.den rank v
  pub over : (rank : ℕ) → rank < rank_count a → sum_to (value_count a) (mass_at a y rank) ≤ℤ (pos units *ℤ cap_at a y.den rank)

-- the masses of each value together are its demand: bidders with it win exactly as often as the odds say
pub record ImplementsUnits (a : SymmetricAuction) (interim : Interim) (rows : List ℤ) : Type 0 where
  pub exact : (v : ℕ) → v < value_count a → mass_of a (table_of interim rows) v ≡ demand_of a interim v
