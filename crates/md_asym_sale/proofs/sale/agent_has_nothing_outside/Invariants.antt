use Rattle.std.proofs.Common.{ℕ, ◌<◌, ◌≡◌, pos}
use Rattle.md_setting.specs.Meaning.{outside_of}
use Rattle.md_asym_sale.proofs.sale.agent_has_nothing_outside.Given as goal

abbrev pub invariant-loop-kind : goal.invariant-loop-kind
invariant-loop-kind l = (k : ℕ) → k < l.kind → outside_of l.setting l.agent k ≡ pos 0
