use Rattle.std.proofs.Common.{◌≡◌}
use Rattle.md_math.specs.Lists.{list_to}
use Rattle.md_mech.specs.Mechanism.{pay_of}
use Rattle.md_run.proofs.general.pays.Given as goal

abbrev pub invariant-loop-agent : goal.invariant-loop-agent
invariant-loop-agent l = l.pays ≡ list_to l.agent (λ i. pay_of l.setting l.mechanism i l.profile)
