-- The net of an auction of several units with interim odds: a node for each list of counts, and a demand for each kind of value.
use Rattle.std.specs.Prelude.{◌≡◌, ℕ, ℤ, pos, ◌*ℤ◌}
use Rattle.md_math.specs.Lists.{list_to, up_to}
use Rattle.md_setting.specs.Auction.{SymmetricAuction, value_count}
use Rattle.md_border.specs.declared.interim.Interim.{Interim}
use Rattle.md_flow.specs.declared.rooms.Rooms.TheVariants.{Listed}
use Rattle.md_flow.specs.Network.{Network}
use Rattle.md_expost.specs.CountNets.{IsCountNet}
use Rattle.md_expost.specs.Masses.{rank_count, cap_at}
use Rattle.md_unit_tables.specs.Tables.{room_at}

-- as many units as there are at the counts of a rank, by the weight of the profiles
abbrev pub unit_cap : SymmetricAuction → ℕ → ℤ → ℕ → ℤ
unit_cap a units den rank = pos units *ℤ cap_at a den rank

-- the cap of a node is as many units as there are at its counts, and its room to a demand one unit for each bidder with the value
pub record IsUnitNetOf (a : SymmetricAuction) (units : ℕ) (interim : Interim) (net : Network) : Type 0 where
  pub numbers : IsCountNet a interim (unit_cap a units interim.den) net
  pub rooms : net.rooms ≡ Listed (up_to (rank_count a) (λ rank. list_to (value_count a) (room_at a interim.den rank)))
