-- The multipliers of the rows of the reduced program of an auction that sells by pools, each as a fraction.
use Rattle.std.specs.Prelude.{ℕ, ◌≡◌, ◌+◌, ◌-◌, ◌==◌, nat_lt, if◌then◌else◌, ℤ, pos, ◌+ℤ◌, ◌-ℤ◌, ◌*ℤ◌, ◌<ℤ◌, slice_get, Some}
use Rattle.md_math.specs.Lists.{number_at}
use Rattle.md_setting.specs.Auction.{SymmetricAuction, value_count, total_weight}
use Rattle.md_lp.specs.Program.{Program, right_at}
use Rattle.md_iron_values.specs.Pools.{Pools, over_pool}
use Rattle.md_iron_values.specs.Odds.{share_den}
use Rattle.md_iron_values.specs.VirtualValues.{weight_to, weight_from, virtual_to}
use Rattle.md_iron_values.specs.Gaps.{scale_in, gap_in}
use Rattle.md_iron_laws.specs.Rows.{ProgramRow, truth_row, rational_row, cut_row, rows_of, row_right}

-- ---- the mean virtual value of the pool before the one that a value begins: its numbers, 0 and 1 before the first pool that buys

abbrev pub sum_before : SymmetricAuction → Pools → ℕ → ℤ
sum_before a pools s = if nat_lt pools.reserve s then over_pool (virtual_to a) pools (s - 1) else pos 0

abbrev pub weight_of_before : SymmetricAuction → Pools → ℕ → ℤ
weight_of_before a pools s = if nat_lt pools.reserve s then over_pool (weight_to a) pools (s - 1) else pos 1

-- ---- the multipliers, as fractions

-- how far one value is above another
abbrev pub apart_by : SymmetricAuction → ℕ → ℕ → ℤ
apart_by a high low = number_at a.values high -ℤ number_at a.values low

-- by how much the mean virtual value of the pool that a value begins is above that of the pool before, and the number that this
-- is over
abbrev pub steeper_by : SymmetricAuction → Pools → ℕ → ℤ
steeper_by a pools s =
    over_pool (virtual_to a) pools s *ℤ weight_of_before a pools s -ℤ sum_before a pools s *ℤ over_pool (weight_to a) pools s

abbrev pub steeper_den : SymmetricAuction → Pools → ℕ → ℤ
steeper_den a pools s = over_pool (weight_to a) pools s *ℤ weight_of_before a pools s

-- What a row is multiplied by: the truth rows between neighbouring values, the rational row of the lowest value, and the cuts.
-- The row of the cut that a value begins with was divided by `divisor` at that value, and the cost by `factor`.
abbrev pub multiplier_num : SymmetricAuction → Pools → (ℕ → ℤ) → ProgramRow → ℤ
multiplier_num a pools divisor (truth_row kind other) =
    if other == kind + 1 then gap_in a pools other
    else (if kind == other + 1 then a.revenue *ℤ (weight_from a kind *ℤ (scale_in a pools kind *ℤ apart_by a kind other)) +ℤ gap_in a pools kind
    else pos 0)
multiplier_num a pools divisor (rational_row kind) = if kind == 0 then a.revenue *ℤ pos (total_weight a.weights) else pos 0
multiplier_num a pools divisor (cut_row s) = steeper_by a pools s *ℤ divisor s

abbrev pub multiplier_den : SymmetricAuction → Pools → ℤ → ProgramRow → ℤ
multiplier_den a pools factor (truth_row kind other) =
    if other == kind + 1 then scale_in a pools other *ℤ (apart_by a other kind *ℤ factor)
    else (if kind == other + 1 then scale_in a pools kind *ℤ (apart_by a kind other *ℤ factor)
    else pos 1)
multiplier_den a pools factor (rational_row kind) = if kind == 0 then factor else pos 1
multiplier_den a pools factor (cut_row s) = steeper_den a pools s *ℤ (share_den a *ℤ factor)

-- The multipliers `main` over `over` of the rows of the program of some units with the cuts of the pools are these fractions; the
-- right side of the row of each cut was divided by `divisor`.
pub record AreMultipliers (a : SymmetricAuction) (units : ℕ) (pools : Pools) (p : Program) (divisor : ℕ → ℤ) (over : ℤ) (main : ℕ → ℤ) : Type 0 where
  pub positive : pos 0 <ℤ over
  pub divided : (number s : ℕ) → slice_get (rows_of (value_count a) pools) number ≡ Some (cut_row s) → row_right a units (cut_row s) ≡ divisor s *ℤ right_at p number
  pub at : (number : ℕ) (row : ProgramRow) → slice_get (rows_of (value_count a) pools) number ≡ Some row
      → main number *ℤ multiplier_den a pools p.factor row ≡ over *ℤ multiplier_num a pools divisor row
