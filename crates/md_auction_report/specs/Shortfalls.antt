-- By how much interim odds and payments miss a condition of the reduced program of so many units.
use Rattle.std.specs.Prelude.{ℕ, ℤ, pos, List, Option, None, Some, slice_get}
use Rattle.md_setting.specs.Auction.{SymmetricAuction, value_count}
use Rattle.md_border.specs.declared.interim.Interim.{Interim}
use Rattle.md_border.specs.Odds.{unit_excess_of}
use Rattle.md_reduced.specs.declared.condition.ReducedCondition.{ReducedCondition}
use Rattle.md_reduced.specs.declared.condition.ReducedCondition.TheVariants.{Truth, Rational, Cut}
use Rattle.md_reduced.specs.Conditions.{conditions_of}
use Rattle.md_auction_report.specs.Utility.{regret_at, missing_at}

-- what is missed, in units of one over the denominator: the regret of a value, the shortfall of a value, and by how much a set of
-- values asks for more than there is. It is negative where there is room.
abbrev pub missed : SymmetricAuction → ℕ → Interim → ReducedCondition → ℤ
missed a units interim (Truth v w) = regret_at a interim v w
missed a units interim (Rational v) = missing_at a interim v
missed a units interim (Cut set) = unit_excess_of a units interim set

-- of the condition of a row
abbrev pub missed_in : SymmetricAuction → ℕ → Interim → Option ReducedCondition → ℤ
missed_in a units interim None = pos 0
missed_in a units interim (Some c) = missed a units interim c

abbrev pub missed_at : SymmetricAuction → ℕ → Interim → List ℕ → ℕ → ℤ
missed_at a units interim cuts row = missed_in a units interim (slice_get (conditions_of (value_count a) cuts) row)
