use Rattle.std.proofs.Common.{ℕ, ◌<◌}
use Rattle.md_asym_sale.specs.Tested.{IsUtilityAt}
use Rattle.md_asym_sale.proofs.sale.has_utilities_of.Given as goal

abbrev pub invariant-loop-agent : goal.invariant-loop-agent
invariant-loop-agent l = (k : ℕ) → k < l.agent → IsUtilityAt l.setting l.rank l.outcome k
