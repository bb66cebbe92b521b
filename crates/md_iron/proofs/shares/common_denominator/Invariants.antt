use Rattle.std.proofs.Common.{◌-◌, ◌^◌}
use Rattle.md_math.specs.Sizes.{IsWithin}
use Rattle.md_iron.specs.Shares.{IsLeastDenominatorOf}
use Rattle.md_iron.proofs.shares.common_denominator.Given as goal

abbrev pub invariant-loop-k : goal.invariant-loop-k
invariant-loop-k l = IsLeastDenominatorOf l.k l.fractions l.over × IsWithin (2 ^ 62 - 1) l.over
