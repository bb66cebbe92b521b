use Rattle.std.proofs.Common.{ℕ, ◌<◌}
use Rattle.md_asym_sale.specs.Tested.{HasNothing}
use Rattle.md_asym_sale.proofs.sale.has_nothing_outside.Given as goal

abbrev pub invariant-loop-agent : goal.invariant-loop-agent
invariant-loop-agent l = (k : ℕ) → k < l.agent → HasNothing l.setting k
