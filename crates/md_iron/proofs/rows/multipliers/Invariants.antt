use Rattle.std.proofs.Common.{◌≡◌, length}
use Rattle.md_iron.specs.RowMultipliers.{AreRowMultipliers}
use Rattle.md_iron.specs.Shares.{AreLeastFractions}
use Rattle.md_iron_pools.specs.Pooling.{pools_of}
use Rattle.md_iron.proofs.rows.multipliers.Given as goal

abbrev pub invariant-loop-row : goal.invariant-loop-row
invariant-loop-row l =
    (length l.fractions.items ≡ l.row) × AreLeastFractions l.fractions.items × AreRowMultipliers l.auction l.units (pools_of l.pools) l.lp l.row l.fractions.items
