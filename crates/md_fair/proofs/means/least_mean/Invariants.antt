use Rattle.std.proofs.Common.{◌^◌}
use Rattle.md_math.specs.Sizes.{IsWithin}
use Rattle.md_fair.proofs.LeastLaws.{IsLeastBelow}
use Rattle.md_fair.proofs.means.least_mean.Given as goal

abbrev pub invariant-loop-agent : goal.invariant-loop-agent
invariant-loop-agent l = IsLeastBelow l.setting l.mechanism l.agent l.least × IsWithin (2 ^ 120) l.least
