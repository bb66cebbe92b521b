use Rattle.std.proofs.Common.{ℕ, ◌<◌}
use Rattle.md_asym_sale.specs.Tested.{AreUtilitiesAt}
use Rattle.md_asym_sale.proofs.sale.has_utilities.Given as goal

abbrev pub invariant-loop-rank : goal.invariant-loop-rank
invariant-loop-rank l = (k : ℕ) → k < l.rank → AreUtilitiesAt l.setting k
