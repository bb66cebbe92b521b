-- The rows of the reduced program of an auction with the cuts of its pools, one by one in their order.
use Rattle.std.specs.Prelude.{ℕ, ℤ, pos, ◌-ℤ◌, neg_ℤ, List, [], ◌∷◌, ◌++◌, if◌then◌else◌}
use Rattle.md_math.specs.Lists.{list_to, up_to}
use Rattle.md_setting.specs.Auction.{SymmetricAuction, value_count}
use Rattle.md_mech.specs.Rows.{by_report}
use Rattle.md_lp.specs.declared.row_kind.RowKind.TheVariants.{AtMost}
use Rattle.md_forms.specs.Forms.{Form}
use Rattle.md_border.specs.Sides.{right_by_counts}
use Rattle.md_reduced.specs.Sides.{utility_in, demands_of}
use Rattle.md_iron_values.specs.Pools.{Pools}
use Rattle.md_iron_values.specs.Cuts.{begins, set_from}

-- that a bidder with a value does not gain by telling another one; that it does not lose by taking part; and how often units
-- can go to bidders with a value from a place on
pub data ProgramRow : Type 0 where
  truth_row : ℕ → ℕ → ProgramRow
  rational_row : ℕ → ProgramRow
  cut_row : ℕ → ProgramRow

-- a cut where a pool of values that buy begins
abbrev pub cut_rows : ℕ → Pools → List ProgramRow
cut_rows kinds pools = up_to kinds (λ s. if begins pools s then cut_row s ∷ [] else [])

abbrev pub rows_of : ℕ → Pools → List ProgramRow
rows_of kinds pools = up_to kinds (λ v. by_report kinds v (truth_row v)) ++ (list_to kinds rational_row ++ cut_rows kinds pools)

-- the side of a row that is to be at most the other one, as in the reduced program
abbrev pub row_left : SymmetricAuction → ProgramRow → (ℕ → ℤ) → ℤ
row_left a (truth_row v w) x = utility_in a x v w -ℤ utility_in a x v v
row_left a (rational_row v) x = neg_ℤ (utility_in a x v v)
row_left a (cut_row s) x = demands_of a x (set_from (value_count a) s)

-- the other one, for so many units of an item
abbrev pub row_right : SymmetricAuction → ℕ → ProgramRow → ℤ
row_right a units (truth_row v w) = pos 0
row_right a units (rational_row v) = pos 0
row_right a units (cut_row s) = right_by_counts a units (set_from (value_count a) s)

abbrev pub row_form : SymmetricAuction → ℕ → ProgramRow → Form
row_form a units row = record { kind = AtMost; left = row_left a row; right = row_right a units row }
