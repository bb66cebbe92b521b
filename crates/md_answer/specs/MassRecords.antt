-- The records that a mass table is written as.
use Rattle.std.specs.Prelude.{ℕ, ℤ, pos, List, ◌++◌, slice_index, codes}
use Rattle.md_math.specs.Lists.{list_to}
use Rattle.md_setting.specs.Auction.{SymmetricAuction, value_count}
use Rattle.md_expost.specs.declared.masses.Masses.{Masses}
use Rattle.md_expost.specs.Masses.{rank_count, counts_in, mass_at}
use Rattle.md_parts.specs.Rows.{number_row}

-- how many bidders have each kind of value at a rank, as numbers of a record
abbrev pub count_numbers : SymmetricAuction → ℕ → List ℤ
count_numbers a rank = list_to (value_count a) (λ v. pos (slice_index (counts_in a rank) v))

-- the counts of a rank, and the masses of the kinds there
abbrev pub mass_row : SymmetricAuction → Masses → ℕ → List (List ℕ)
mass_row a y rank = number_row (codes "mass") (count_numbers a rank ++ list_to (value_count a) (mass_at a y rank))

-- a record for each rank, in their order
abbrev pub mass_rows : SymmetricAuction → Masses → List (List (List ℕ))
mass_rows a y = list_to (rank_count a) (mass_row a y)
