-- Mass tables of an auction: how often the item goes to bidders with a value, by how many bidders have each value.
use Rattle.std.specs.Prelude.{◌≡◌, ℕ, ◌+◌, ◌*◌, ◌<◌, ℤ, pos, ◌*ℤ◌, ◌≤ℤ◌, List, length, slice_index}
use Rattle.md_math.specs.Lists.{number_at}
use Rattle.md_math.specs.Sums.{sum_to}
use Rattle.md_setting.specs.Auction.{SymmetricAuction, value_count}
use Rattle.md_setting.specs.CountLists.{count_lists}
use Rattle.md_mech.specs.Accepted.{number_limit}
use Rattle.md_counts.specs.Counts.{counts_at}
use Rattle.md_counts.specs.Weights.{weight_of_counts}
use Rattle.md_expost.specs.declared.masses.Masses.{Masses}

-- how many lists of counts an auction has
abbrev pub rank_count : SymmetricAuction → ℕ
rank_count a = length (count_lists a.bidders (value_count a))

-- the list of counts at a rank
abbrev pub counts_in : SymmetricAuction → ℕ → List ℕ
counts_in a rank = counts_at a.bidders (value_count a) rank

-- the weight of all profiles with the counts at a rank, in units of one over the denominator: as much as there is to give
abbrev pub cap_at : SymmetricAuction → ℤ → ℕ → ℤ
cap_at a den rank = den *ℤ pos (weight_of_counts a.weights a.bidders (counts_in a rank))

-- the mass of a value at the counts of a rank, in a list by rank and then by kind
abbrev pub mass_in : SymmetricAuction → List ℤ → ℕ → ℕ → ℤ
mass_in a rows rank v = number_at rows (rank * value_count a + v)

-- the mass of a value at the counts of a rank: the weight of the profiles with these counts, as often as a bidder with the
-- value gets the item
abbrev pub mass_at : SymmetricAuction → Masses → ℕ → ℕ → ℤ
mass_at a y rank v = mass_in a y.rows rank v

-- a mass table of the auction: no mass is negative or of a value that no bidder has, and at no counts is more than one
-- item given
pub record AreMasses (a : SymmetricAuction) (y : Masses) : Type 0 where
  pub den_positive : pos 1 ≤ℤ y.den
  pub den_size : y.den ≤ℤ pos number_limit
  pub whole : length y.rows ≡ rank_count a * value_count a
  pub nonneg : (rank v : ℕ) → rank < rank_count a → v < value_count a → pos 0 ≤ℤ mass_at a y rank v
  pub absent : (rank v : ℕ) → rank < rank_count a → v < value_count a → slice_index (counts_in a rank) v ≡ 0 → mass_at a y rank v ≡ pos 0
  pub over : (rank : ℕ) → rank < rank_count a → sum_to (value_count a) (mass_at a y rank) ≤ℤ cap_at a y.den rank

-- the masses of a value at all counts together
abbrev pub mass_of : SymmetricAuction → Masses → ℕ → ℤ
mass_of a y v = sum_to (rank_count a) (λ rank. mass_at a y rank v)
