-- The nets of an auction with interim odds: a node for each list of counts, and a demand for each kind of value.
use Rattle.std.specs.Prelude.{◌≡◌, ℕ, ◌<◌, ℤ, pos, ◌≤ℤ◌, nat_lt, if◌then◌else◌, slice_index}
use Rattle.md_math.specs.Lists.{list_to}
use Rattle.md_setting.specs.Auction.{SymmetricAuction, value_count}
use Rattle.md_border.specs.declared.interim.Interim.{Interim}
use Rattle.md_border.specs.Odds.{demand_of}
use Rattle.md_flow.specs.Network.{Network, node_count, demand_count, cap_of, room_of}
use Rattle.md_expost.specs.Masses.{rank_count, counts_in, cap_at}

-- the caps of the lists of counts are these, and the demands are those of the values
pub record IsCountNet (a : SymmetricAuction) (interim : Interim) (cap : ℕ → ℤ) (net : Network) : Type 0 where
  pub caps : net.caps ≡ list_to (rank_count a) cap
  pub wants : net.wants ≡ list_to (value_count a) (demand_of a interim)

-- the cap of a node is as much as there is to give at its counts, and it may give all of this to each kind that some bidder has, and nothing to another
pub record IsNetOf (a : SymmetricAuction) (interim : Interim) (net : Network) : Type 0 where
  pub numbers : IsCountNet a interim (cap_at a interim.den) net
  pub nonneg : (u : ℕ) → u < node_count net → pos 0 ≤ℤ cap_of net u
  pub rooms : (u v : ℕ) → u < node_count net → v < demand_count net → room_of net u v ≡ (if nat_lt 0 (slice_index (counts_in a u) v) then cap_of net u else pos 0)
