use Rattle.std.proofs.Common.{ℕ, ◌<◌}
use Rattle.md_asym_sale.specs.Tested.{AreUtilitiesOf}
use Rattle.md_asym_sale.proofs.sale.has_utilities_at.Given as goal

abbrev pub invariant-loop-outcome : goal.invariant-loop-outcome
invariant-loop-outcome l = (k : ℕ) → k < l.outcome → AreUtilitiesOf l.setting l.rank k
